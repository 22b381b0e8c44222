use Rattle.std.proofs.Common.{◌≡◌, ℕ, ◌+◌, pos, ◌*ℤ◌}
use Rattle.greedy.specs.Fill.{at}
use Rattle.search.specs.Ahead.{sooner}
use Rattle.search.proofs.ahead.is_corner_sooner.Given as goal

-- the items looked at decide nothing
abbrev pub invariant-loop-k : goal.invariant-loop-k
invariant-loop-k l = (m : ℕ) × ((m + l.k ≡ l.n) × (sooner l.n 0 (λ k. at l.lo k *ℤ pos l.d) (at l.y) ≡ sooner m l.k (λ k. at l.lo k *ℤ pos l.d) (at l.y)))
