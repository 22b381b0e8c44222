use Rattle.std.proofs.Common.{length, ◌-◌}
use Rattle.sheet_test.proofs.edits.put_quoted.Given as goal

abbrev pub decreases-loop-i : goal.decreases-loop-i
decreases-loop-i l = length l.row - l.i
