use Rattle.std.proofs.Common.{◌∙◌, arith}
use Rattle.arith.proofs.Words.{back}
use Rattle.ceiling.proofs.Lists.{altered-step}
use Rattle.ceiling.proofs.frame_ends.Goals as goal

pub loop-k-preserved : goal.loop-k-preserved
loop-k-preserved c =
    altered-step _ c.loop-k.k _ (omega (arith, c.requires.columns.few))
    (back c.frame_end_at.result c.frame_end_at.type_inv ∙ c.frame_end_at.ensures) c.loop-k.invariant
