use Rattle.std.proofs.Common.{◌≡◌, ◌-◌, ◌≤◌, drop, length}
use Rattle.lines.specs.Places.{first_end}
use Rattle.lines.proofs.scan.first_line_end.Given as goal

-- no byte 10 was passed
abbrev pub invariant-loop-at : goal.invariant-loop-at
invariant-loop-at l = (l.at ≤ length l.s) × (first_end l.from (drop l.from l.s) ≡ first_end l.at (drop l.at l.s))

abbrev pub decreases-loop-at : goal.decreases-loop-at
decreases-loop-at l = length l.s - l.at
