use Rattle.std.proofs.Common.{◌≤◌}
use Rattle.converter_test.proofs.blanks.blanks_among.Given as goal

abbrev pub invariant-loop-k : goal.invariant-loop-k
invariant-loop-k l = l.found ≤ l.k
