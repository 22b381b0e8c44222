use Rattle.std.proofs.Common.{◌≤◌, max}
use Rattle.fillings.proofs.Groups.{Gathered}
use Rattle.fillings.proofs.group_of.Given as goal

abbrev pub invariant-loop-to : goal.invariant-loop-to
invariant-loop-to l = (l.to ≤ max l.from l.end) × Gathered l.wide l.from l.end l.left l.to l.base
