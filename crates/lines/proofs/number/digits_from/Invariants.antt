use Rattle.std.proofs.Common.{◌-◌, length}
use Rattle.lines.proofs.Numerals.{Reading}
use Rattle.lines.proofs.number.digits_from.Given as goal

abbrev pub invariant-loop-next : goal.invariant-loop-next
invariant-loop-next l = Reading l.s l.from l.value l.next

abbrev pub decreases-loop-next : goal.decreases-loop-next
decreases-loop-next l = length l.s - l.next
