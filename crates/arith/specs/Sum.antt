-- Sums of integers over the first n places of a function.
--   sum n f         f 0 + … + f (n - 1)
--   Each n P        P holds at each of the first n places
--   pick d x y      one of two things, by a decision
--   bump f k r      f with r added at place k
use Rattle.std.specs.Prelude.{ℕ, zero, suc, ◌<◌, ℤ, pos, ◌+ℤ◌}
use Rattle.std.proofs.Math.Decide.{ℕ_discrete}

abbrev pub sum : ℕ → (ℕ → ℤ) → ℤ
sum zero f = pos 0
sum (suc n) f = sum n f +ℤ f n

abbrev pub Each : ℕ → (ℕ → Type 0) → Type 0
Each n P = (k : ℕ) → k < n → P k

-- one of two things, by a decision
abbrev pub pick : {P A : Type 0} → Dec P → A → A → A
pick (yes e) x y = x
pick (no e) x y = y

unfoldable pub bump : (ℕ → ℤ) → ℕ → ℤ → ℕ → ℤ
bump f i r k = pick (ℕ_discrete k i) (f k +ℤ r) (f k)
