use Rattle.scales.proofs.Cells.{Thinning}
use Rattle.scales.proofs.thin_cells.Given as goal

abbrev pub invariant-loop-x : goal.invariant-loop-x
invariant-loop-x l = Thinning l.s l.bit l.fn.cells l.cells l.x
