-- The amounts of a filling, each over its item's own divisor. Paper 02, request 12.
--   whole_in w k           item k is whole
--   divisor_in c w k       the divisor of item k's amounts, w telling which items are whole: 1, or its weight without sign
--   amount_of c e f d k    item k's amount over d
--   Countable …           what its arithmetic asks: figures in their ranges, a divisor of at most 1,000, an item's place
--   Amounts …             a list of all amounts, zero beyond the count
use Rattle.std.specs.Prelude.{Bool, false, cond, ◌≡◌, List, ℕ, ◌≤◌, ◌<◌, get_or}
use Rattle.arith.specs.declared.Fraction.{Fraction}
use Rattle.knapsack.specs.Meaning.{nought, weight_divisor}
use Rattle.greedy.specs.declared.Columns.{Columns}
use Rattle.greedy.specs.declared.Ends.{Ends}
use Rattle.greedy.specs.declared.Fill.{Fill}
use Rattle.greedy.specs.Fill.{weight_of, numerator}
use Rattle.greedy.specs.Sized.{Sized, SizedFill}

abbrev pub whole_in : List Bool → ℕ → Bool
whole_in w k = get_or w k false

abbrev pub divisor_in : Columns → List Bool → ℕ → ℕ
divisor_in c w k = cond (whole_in w k) 1 (weight_divisor (weight_of c k))

abbrev pub amount_of : Columns → Ends → Fill → ℕ → ℕ → Fraction
amount_of c e f d k = record { p = numerator c e f d k; q = d }

pub record Countable (c : Columns) (e : Ends) (f : Fill) (d k : ℕ) : Type 0 where
  pub sized : Sized c e
  pub filled : SizedFill c f
  pub few : d ≤ 1000
  pub item_in : k < 16

pub record Amounts (c : Columns) (e : Ends) (f : Fill) (w : List Bool) (l : List Fraction) : Type 0 where
  pub counted : (k : ℕ) → k < c.count → get_or l k nought ≡ amount_of c e f (divisor_in c w k) k
  pub beyond : (k : ℕ) → c.count ≤ k → get_or l k nought ≡ nought
