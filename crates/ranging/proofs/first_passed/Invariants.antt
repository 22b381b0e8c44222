-- At the upper end the other point is worth more.
use Rattle.std.proofs.Common.{◌-◌, ◌≤◌, ◌<◌}
use Rattle.ranging.specs.Searching.{Passed}
use Rattle.ranging.proofs.first_passed.Given as goal

abbrev pub invariant-loop-from : goal.invariant-loop-from
invariant-loop-from l = record {
  above : l.fn.low ≤ l.from;
  apart : l.from < l.to;
  most : l.to ≤ l.fn.high;
  passed : Passed l.fn.p l.fn.k l.fn.a l.fn.b l.fn.low l.to;
}

abbrev pub decreases-loop-from : goal.decreases-loop-from
decreases-loop-from l = l.to - l.from
