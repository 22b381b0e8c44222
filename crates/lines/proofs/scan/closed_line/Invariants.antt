use Rattle.std.proofs.Common.{◌≡◌, ◌-◌, ◌≤◌, length}
use Rattle.lines.specs.Places.{closed_line}
use Rattle.lines.proofs.scan.closed_line.Given as goal

abbrev pub invariant-loop : goal.invariant-loop
invariant-loop l = (l.from ≤ length l.s) × (closed_line l.n l.s 0 ≡ closed_line (l.n - l.counter) l.s l.from)
