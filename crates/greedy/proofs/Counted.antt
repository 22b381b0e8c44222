-- A list of amounts that is counted from the front.
--   Counted F k l   the first k amounts are F's, the rest are zero
-- counted-first, counted_step, counted-done: at the first turn of a loop, after a turn, and after the last.
use mathlib.Core.Bool.{Bool}
use mathlib.Core.List.{List}
use mathlib.Core.Path.{◌≡◌, refl, ◌∙◌}
use Prim.Native.Nat.{ℕ, zero, suc, ◌+◌, ◌≤◌, ◌<◌}
use native.Mathlib.Decide.{ℕ_discrete}
use native.Mathlib.Omega.{arith}
use lib.ListN.{length, get_or, set, replicate, length-set}
use lib.Seq.{get_or-set_same, get_or-set_other}
use Rattle.arith.specs.declared.Fraction.{Fraction}
use Rattle.knapsack.specs.Meaning.{nought}
use Rattle.greedy.specs.declared.Columns.{Columns}
use Rattle.greedy.specs.declared.Ends.{Ends}
use Rattle.greedy.specs.declared.Fill.{Fill}
use Rattle.greedy.specs.Amounts.{divisor_in, amount_of, Amounts}

pub record Counted (F : ℕ → Fraction) (k : ℕ) (l : List Fraction) : Type 0 where
  pub long : length l ≡ 16
  pub counted : (j : ℕ) → j < k → get_or l j nought ≡ F j
  pub beyond : (j : ℕ) → k ≤ j → get_or l j nought ≡ nought

replicated : (n j : ℕ) → get_or (replicate n nought) j nought ≡ nought
replicated zero j = refl
replicated (suc n) zero = refl
replicated (suc n) (suc j) = replicated n j

module _ (F : ℕ → Fraction) where
  pub counted-first : Counted F 0 (replicate 16 nought)
  counted-first = record { long = refl; counted = λ j h. absurd (omega arith); beyond = λ j h. replicated 16 j }

  pub counted_step : (k : ℕ) (l : List Fraction) → k < 16 → Counted F k l → Counted F (k + 1) (set l k (F k))
  counted_step k l h c = record {
    long = simp length-set c.long;
    counted = λ j m. at_j j m (ℕ_discrete j k);
    beyond = λ j m. get_or-set_other l k j (F k) nought (λ e. absurd (omega arith)) ∙ c.beyond j (omega arith);
  }
    where
      at_j : (j : ℕ) → j < k + 1 → Dec (j ≡ k) → get_or (set l k (F k)) j nought ≡ F j
      at_j j m (yes e) = rw e (get_or-set_same l k (F k) nought (omega (arith, c.long)))
      at_j j m (no d) = get_or-set_other l k j (F k) nought d ∙ c.counted j (omega (arith, d))

pub counted-done : (c : Columns) (e : Ends) (f : Fill) (w : List Bool) (k : ℕ) (l : List Fraction) → k ≡ c.count
    → Counted (λ j. amount_of c e f (divisor_in c w j) j) k l → Amounts c e f w l
counted-done c e f w k l h g = record { counted = λ j m. g.counted j (omega arith); beyond = λ j m. g.beyond j (omega arith) }
