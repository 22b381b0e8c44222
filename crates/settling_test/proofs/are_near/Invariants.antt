use Rattle.std.proofs.Common.{ℕ, ◌<◌}
use Rattle.arith.specs.Within.{Within}
use Rattle.greedy.specs.Fill.{at}
use Rattle.settling_test.proofs.are_near.Given as goal

abbrev pub invariant-loop-k : goal.invariant-loop-k
invariant-loop-k l = (j : ℕ) → j < l.k → Within 10000 (at l.xs j)
