use Rattle.std.proofs.Common.{refl, add-one}
use Rattle.feasibility.specs.Check.{first_lacking}
use Rattle.feasibility.proofs.first_lacking.Goals as goal

pub loop-j-init : goal.loop-j-init
unfolding first_lacking
loop-j-init c = refl

pub loop-j-preserved : goal.loop-j-preserved
unfolding first_lacking
loop-j-preserved c = rw (add-one, ← c.uncovered_at.ensures, ← c.loop-j.invariant) c.number_or-found.ensures
