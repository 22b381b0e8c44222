use Rattle.lattice.specs.Building.{entry}
use Rattle.lattice.proofs.Levels.{Built}
use Rattle.lattice.proofs.building.lattices.Given as goal

abbrev pub invariant-loop-d : goal.invariant-loop-d
invariant-loop-d l = Built (entry l.weight) (entry l.price) l.n l.d l.l l.to
