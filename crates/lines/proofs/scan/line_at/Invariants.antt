use Rattle.std.proofs.Common.{◌≡◌, ◌+◌, ◌-◌, ◌≤◌, length}
use Rattle.lines.specs.Places.{line_at}
use Rattle.lines.proofs.Places.{ends_from}
use Rattle.lines.proofs.scan.line_at.Given as goal

-- the bytes 10 from `from` on are still to be counted, and each line has one
abbrev pub invariant-loop-e : goal.invariant-loop-e
invariant-loop-e l = (l.from ≤ length l.s) × (l.line ≤ l.from + 1) × (line_at l.s l.at ≡ l.line + ends_from l.s l.from l.at)

abbrev pub decreases-loop-e : goal.decreases-loop-e
decreases-loop-e l = length l.s - l.from
