use Rattle.std.proofs.Common.{refl, add-one}
use Rattle.drawing.specs.Drawing.{lines}
use Rattle.drawing.proofs.draw_section.Goals as goal

pub loop-k-init : goal.loop-k-init
unfolding lines
loop-k-init c = refl

pub loop-k-preserved : goal.loop-k-preserved
unfolding lines
loop-k-preserved c = rw (add-one, c.with_line-r.ensures, c.loop-k.invariant)
