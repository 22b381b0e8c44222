-- The amounts of a filling while they are listed.
--   Counted F k l     the first k amounts of l are F's, the rest are zero
use Rattle.std.proofs.Common.{◌≡◌, ℕ, zero, suc, ◌+◌, ◌≤◌, ◌<◌, ℤ, pos, List, length, get_or, refl, ◌∙◌, arith}
use native.Mathlib.Decide.{ℕ_discrete}
use lib.ListN.{set, replicate, length-set}
use Rattle.greedy.specs.Fill.{at}
use Rattle.setting.proofs.Boxes.{at_same, at_other}

pub record Counted (F : ℕ → ℤ) (k : ℕ) (l : List ℤ) : Type 0 where
  pub long : length l ≡ 16
  pub counted : (j : ℕ) → j < k → at l j ≡ F j
  pub beyond : (j : ℕ) → k ≤ j → at l j ≡ pos 0

zeros : (n j : ℕ) → get_or (replicate n (pos 0)) j (pos 0) ≡ pos 0
zeros zero j = refl
zeros (suc n) zero = refl
zeros (suc n) (suc j) = zeros n j

pub counted-none : (F : ℕ → ℤ) → Counted F 0 (replicate 16 (pos 0))
counted-none F = record { long = refl; counted = λ j h. absurd (omega arith); beyond = λ j h. zeros 16 j }

pub counted_step : (F : ℕ → ℤ) (k : ℕ) (l : List ℤ) → k < 16 → Counted F k l → Counted F (k + 1) (set l k (F k))
counted_step F k l h c = record {
  long = simp length-set c.long;
  counted = λ j m. at_j j m (ℕ_discrete j k);
  beyond = λ j m. at_other l k (F k) j (λ e. absurd (omega arith)) ∙ c.beyond j (omega arith);
}
  where
    at_j : (j : ℕ) → j < k + 1 → Dec (j ≡ k) → at (set l k (F k)) j ≡ F j
    at_j j m (yes e) = rw e (at_same l k (F k) (omega (arith, c.long)))
    at_j j m (no d) = at_other l k (F k) j d ∙ c.counted j (omega (arith, d))
