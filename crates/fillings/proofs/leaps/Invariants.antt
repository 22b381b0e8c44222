use Rattle.std.proofs.Common.{◌+◌, ◌*◌, ◌-◌, ◌≤◌}
use Rattle.fillings.specs.Runs.{run_cells}
use Rattle.fillings.specs.Leaps.{TriedWrite}
use Rattle.fillings.proofs.leaps.Given as goal

abbrev pub invariant-loop-i : goal.invariant-loop-i
invariant-loop-i l = (1 ≤ l.i) × ((l.written + (l.i - 1) * run_cells ≤ 7 * run_cells) × TriedWrite l.p l.capacity l.cap (l.i - 1) l.written)
