use Rattle.std.proofs.Common.{◌≡◌, drop}
use Rattle.lines.specs.Places.{first_end}
use Rattle.lines.proofs.scan.line_end_in_tail.Given as goal

-- no byte 10 was passed
abbrev pub invariant-loop-at : goal.invariant-loop-at
invariant-loop-at l = first_end l.from (drop l.from l.s) ≡ first_end l.at (drop l.at l.s)
