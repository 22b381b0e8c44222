use Rattle.std.proofs.Common.{◌+◌, ◌*◌, ◌-◌, ◌≤◌}
use Rattle.fillings.specs.Runs.{run_cells}
use Rattle.fillings.specs.Leaps.{Sought}
use Rattle.fillings.specs.Foremost.{Gone}
use Rattle.fillings.proofs.onward.Given as goal

abbrev pub invariant-loop-from : goal.invariant-loop-from
invariant-loop-from l =
    (l.written ≤ l.fn.s.written + l.from * run_cells) ×
    (Gone l.p l.capacity l.cap l.fn.s.ranges l.fn.s.to l.fn.s.written l.r l.from l.written × Sought l.p l.capacity (l.cap - 1) l.r l.from)

abbrev pub decreases-loop-from : goal.decreases-loop-from
decreases-loop-from l = 16 - l.from
