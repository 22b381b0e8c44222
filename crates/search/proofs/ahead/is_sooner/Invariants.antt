use Rattle.std.proofs.Common.{◌≡◌, ℕ, ◌+◌, pos, ◌*ℤ◌}
use Rattle.greedy.specs.Fill.{at, numerator}
use Rattle.search.specs.Ahead.{sooner}
use Rattle.search.proofs.ahead.is_sooner.Given as goal

-- the items looked at decide nothing
abbrev pub invariant-loop-k : goal.invariant-loop-k
invariant-loop-k l = (m : ℕ) × ((m + l.k ≡ l.n) × (sooner l.n 0 (λ k. numerator l.c l.e l.f l.q k *ℤ pos l.d) (λ k. at l.y k *ℤ pos l.q) ≡
    sooner m l.k (λ k. numerator l.c l.e l.f l.q k *ℤ pos l.d) (λ k. at l.y k *ℤ pos l.q)))
