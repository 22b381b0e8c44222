use Rattle.std.proofs.Common.{◌≤◌}
use Rattle.scales.specs.Lent.{Passed}
use Rattle.scales.proofs.pass_edge.Given as goal

abbrev pub invariant-loop-x : goal.invariant-loop-x
invariant-loop-x l = (l.lo ≤ l.x) × Passed l.cap l.n l.w l.a l.b l.x l.hi l.fn.cells l.cells
