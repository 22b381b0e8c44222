use Rattle.std.proofs.Common.{refl, add-one, arith}
use Rattle.feasibility.specs.Check.{first_broken}
use Rattle.feasibility.proofs.first_broken.Goals as goal

pub loop-k-init : goal.loop-k-init
unfolding first_broken
loop-k-init c = record { few = c.requires.problem.few-items; found = refl }

pub earlier-found-requires : goal.earlier-found-requires
earlier-found-requires c =
    (omega arith, (c.requires.problem.items-in c.loop-k.k (omega arith), c.requires.amounts c.loop-k.k (omega arith)))

pub loop-k-preserved : goal.loop-k-preserved
unfolding first_broken
loop-k-preserved c = record { few = c.loop-k.invariant.few; found = rw add-one (rw c.loop-k.invariant.found at c.earlier-found.ensures) }
