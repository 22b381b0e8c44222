use Rattle.std.proofs.Common.{refl, ap, ◌∙◌, add-one, arith}
use Rattle.scales.specs.Digits.{twice, cost_at}
use Rattle.scales.proofs.cost_at.Goals as goal

pub loop-init : goal.loop-init
unfolding cost_at
loop-init c = (omega arith, refl)

pub loop-preserved : goal.loop-preserved
unfolding cost_at
loop-preserved c = (omega (arith, c.min-r.ensures), rw add-one (c.min-r.ensures ∙ ap (twice c.args.cap) c.loop.invariant.1))
