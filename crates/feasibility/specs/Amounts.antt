-- The amounts of a proposed point: which are refused, and the rest over one common divisor. Paper 01, "Refused, by place", row 8; paper 02, request 12.
--   proposed_at c k      the amount at a place, from 0
--   OwnAmount i x       what row 8 asks of an amount of item i by itself;  bad_amount i x: whether it fails, farther p q: by its size
--   GoodPoint n i x     what row 8 asks of the first n amounts, i k being item k
--   GoodAmount x        what the arithmetic asks of an amount
--   is_whole x           it is a whole number
--   joined d i x        the divisor of the amounts so far and of one more
--   common_divisor n i x the q of the one amount that is not a whole number, or 1; 0 exactly if they are no GoodPoint (proofs/Divisor, divisor-iff)
--   numerator d x       x is numerator d x / d
use Rattle.std.specs.Prelude.{◌≡◌, Bool, true, cond, ℕ, zero, suc, ◌*◌, ◌%◌, ◌≤◌, ◌<◌, ltb, eqb, ℤ, pos, nat_abs, ◌*ℤ◌, get_or}
use Rattle.arith.specs.Division.{floor_div}
use Rattle.arith.specs.declared.Fraction.{Fraction}
use Rattle.knapsack.specs.Meaning.{own_divisor, WholeAmount}
use Rattle.knapsack.specs.declared.Item.{Item}
use Rattle.feasibility.specs.declared.Candidate.{Candidate}

-- beyond the 16 places, where nothing looks, an amount that row 8 refuses
abbrev pub proposed_at : Candidate → ℕ → Fraction
proposed_at c k = get_or c.amounts k (record { p = pos 0; q = 0 })

-- ---- what row 8 asks

pub record OwnAmount (i : Item) (x : Fraction) : Type 0 where
  pub own : x.q ≡ own_divisor i
  pub near : nat_abs x.p ≤ 1000000000 * x.q

pub record GoodPoint (n : ℕ) (i : ℕ → Item) (x : ℕ → Fraction) : Type 0 where
  pub good : (k : ℕ) → k < n → OwnAmount (i k) (x k)
  pub single : (j k : ℕ) → j < n → k < n → ¬ WholeAmount (x j) → ¬ WholeAmount (x k) → j ≡ k

pub record GoodAmount (x : Fraction) : Type 0 where
  pub some : 1 ≤ x.q
  pub few : x.q ≤ 1000
  pub near : nat_abs x.p ≤ 1000000000 * x.q

-- ---- the same, computed

-- p / q is outside ±1,000,000,000
abbrev pub farther : ℤ → ℕ → Bool
farther p q = ltb (1000000000 * q) (nat_abs p)

unfoldable pub bad_amount : Item → Fraction → Bool
bad_amount i x = cond (eqb x.q (own_divisor i)) (farther x.p x.q) true

abbrev pub is_whole : Fraction → Bool
is_whole x = eqb (nat_abs x.p % x.q) 0

-- the divisor of the amounts so far and of one more: none for a bad amount, nor for a second one that is not whole
unfoldable pub joined : ℕ → Item → Fraction → ℕ
joined d i x = cond (bad_amount i x) 0 (cond (is_whole x) d (cond (eqb d 1) x.q 0))

unfoldable pub common_divisor : ℕ → (ℕ → Item) → (ℕ → Fraction) → ℕ
common_divisor zero i x = 1
common_divisor (suc n) i x = joined (common_divisor n i x) (i n) (x n)

-- the division is exact: x is whole, or d is its divisor
abbrev pub numerator : ℕ → Fraction → ℤ
numerator d x = floor_div (x.p *ℤ pos d) (pos x.q)
