-- How large an amount's numerator gets.
-- divisor-few: its divisor. stand-within, taken-within: its two terms. numerator-within: their sum.
use mathlib.Core.Bool.{Bool, true, false, cond}
use mathlib.Core.List.{List}
use Prim.Native.Nat.{ℕ, ◌≤◌}
use native.Mathlib.Omega.{arith}
use lib.Dec.{ltb, eqb}
use lib.IntN.{ℤ, pos, negsuc, ◌*ℤ◌}
use Rattle.arith.specs.Limits.{farthest}
use Rattle.arith.specs.Within.{Within}
use Rattle.arith.proofs.Parts.{within-mul, within-add, within_more, within-abs}
use Rattle.greedy.specs.declared.Columns.{Columns}
use Rattle.greedy.specs.declared.Ends.{Ends}
use Rattle.greedy.specs.declared.Fill.{Fill}
use Rattle.greedy.specs.Fill.{weight_of, rank_of, unit, stand, taken_by, numerator}
use Rattle.greedy.proofs.Sizes.{cond-within, light-within, heavy-within}
use Rattle.greedy.specs.Amounts.{whole_in, divisor_in, Countable}
use Rattle.greedy.specs.Sized.{SizedColumns}
use Rattle.knapsack.specs.Meaning.{weight_divisor}

zero-within : (n : ℕ) → Within n (pos 0)
zero-within n = record { above = omega arith; below = omega arith }

unit-within : (a : ℤ) → Within 1 (unit a)
unit-within (pos n) = record { above = omega arith; below = omega arith }
unit-within (negsuc n) = record { above = omega arith; below = omega arith }

pub taken-within : {m : ℕ} (a r : ℤ) (v u n : ℕ) → Within m r → Within m (taken_by a r v u n)
taken-within {m} a r v u n h =
    cond-within (ltb u n) (cond-within (eqb v u) (within_more (omega arith) (within-mul (unit-within a) h)) (zero-within m)) (zero-within m)

pub divisor-few : (c : Columns) (w : List Bool) (k : ℕ) → SizedColumns c → divisor_in c w k ≤ 1000
divisor-few c w k z = go (whole_in w k)
  where
    go : (b : Bool) → cond b 1 (weight_divisor (weight_of c k)) ≤ 1000
    go true = omega arith
    go false = omega (arith, within-abs (weight_of c k) (z.weights-in k))

module _ (c : Columns) (e : Ends) (f : Fill) (q k : ℕ) (z : Countable c e f q k) where
  pub stand-within : Within farthest (stand c e f.at k)
  stand-within = cond-within (ltb (rank_of c k) f.at) (heavy-within c e z.sized k) (light-within c e z.sized k)

  pub whole-within : Within 300000000000 (stand c e f.at k *ℤ pos q)
  whole-within = within-mul stand-within (record { above = z.few; below = omega arith })

  pub numerator-within : Within 20300000000000 (numerator c e f q k)
  numerator-within = within-add whole-within (taken-within (weight_of c k) f.room (rank_of c k) f.at c.live z.filled.room_in)
