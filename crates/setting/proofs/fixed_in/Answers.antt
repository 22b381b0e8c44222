use Rattle.std.proofs.Common.{refl, arith, to_z-of_z, add-one}
use Rattle.setting.specs.Box.{fixed_in}
use Rattle.setting.proofs.fixed_in.Goals as goal

pub loop-k-init : goal.loop-k-init
unfolding fixed_in
loop-k-init c = refl

pub loop-k-preserved : goal.loop-k-preserved
unfolding fixed_in
loop-k-preserved c = rw (add-one, c.loop-k.invariant) (grind (arith, to_z-of_z))
