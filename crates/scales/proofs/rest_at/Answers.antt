use Rattle.std.proofs.Common.{refl, ap, ◌∙◌, add-one}
use Rattle.scales.specs.Digits.{rest, rest_at}
use Rattle.scales.proofs.rest_at.Goals as goal

pub loop-init : goal.loop-init
unfolding rest_at
loop-init c = refl

pub loop-preserved : goal.loop-preserved
unfolding rest_at
loop-preserved c = rw add-one (c.rest_of-r.ensures ∙ ap rest c.loop.invariant)
