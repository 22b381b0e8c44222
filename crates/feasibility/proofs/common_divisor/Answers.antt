use Rattle.std.proofs.Common.{refl, add-one, arith}
use Rattle.feasibility.specs.Amounts.{common_divisor}
use Rattle.feasibility.proofs.common_divisor.Goals as goal

pub loop-k-init : goal.loop-k-init
unfolding common_divisor
loop-k-init c = record { few = omega (arith, c.requires.0.few-items, c.requires.1); divisor = refl }

pub join-d-requires : goal.join-d-requires
join-d-requires c = c.requires.0.items-in c.loop-k.k (omega (arith, c.requires.1))

pub loop-k-preserved : goal.loop-k-preserved
unfolding common_divisor
loop-k-preserved c = record { few = c.loop-k.invariant.few; divisor = rw add-one (rw c.loop-k.invariant.divisor at c.join-d.ensures) }
