use Rattle.std.proofs.Common.{◌≡◌, ◌-◌}
use Rattle.lattice.specs.Building.{entry, held_from}
use Rattle.lattice.proofs.building.held_from.Given as goal

abbrev pub invariant-loop-j : goal.invariant-loop-j
invariant-loop-j l = held_from l.l (entry l.weight) (entry l.price) l.d (l.n - l.d) ≡ held_from l.l (entry l.weight) (entry l.price) l.j (l.n - l.j)
