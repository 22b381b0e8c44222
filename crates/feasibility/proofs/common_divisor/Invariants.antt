use Rattle.std.proofs.Common.{◌≡◌, ◌≤◌}
use Rattle.knapsack.specs.Ranges.{item_at}
use Rattle.feasibility.specs.Amounts.{proposed_at, common_divisor}
use Rattle.feasibility.proofs.common_divisor.Given as goal

abbrev pub invariant-loop-k : goal.invariant-loop-k
invariant-loop-k l = record { few : l.c.count ≤ 16; divisor : l.d ≡ common_divisor l.k (item_at l.p) (proposed_at l.c) }
