use Rattle.std.proofs.Common.{◌≡◌}
use Rattle.greedy.specs.Fill.{by_item, begun}
use Rattle.greedy.proofs.begin_in.Given as goal

-- the first k items at their light ends
abbrev pub invariant-loop-k : goal.invariant-loop-k
invariant-loop-k l = l.f ≡ begun (by_item l.weight l.price l.k l.capacity) (record { lo = l.lo; hi = l.hi })
