-- The order of points as the code has them: lists of fractions.
--   amount_in l k        the amount at place k;  point_in l: the point of a list
--   SmallFraction x     a fraction whose products do not overflow
--   Comparable n l      the first n amounts are such
--   NoLater n x y       x comes before y, or is the same
--   Compares n x y b    b says whether x comes before y
use Rattle.std.specs.Prelude.{◌≡◌, Bool, true, false, List, ◌⊎◌, ℕ, ◌≤◌, ◌<◌, get_or}
use Rattle.arith.specs.Fractions.{frac, ◌≈ᶠ◌}
use Rattle.arith.specs.Within.{Within}
use Rattle.arith.specs.declared.Fraction.{Fraction}
use Rattle.knapsack.specs.Meaning.{Point, nought, Earlier}

abbrev pub amount_in : List Fraction → ℕ → Fraction
amount_in l k = get_or l k nought

abbrev pub point_in : List Fraction → Point
point_in l k = frac (amount_in l k).p (amount_in l k).q

pub record SmallFraction (x : Fraction) : Type 0 where
  pub small : Within 20300000000000 x.p
  pub some : 1 ≤ x.q
  pub few : x.q ≤ 1000

abbrev pub Comparable : ℕ → List Fraction → Type 0
Comparable n l = (k : ℕ) → k < n → SmallFraction (amount_in l k)

abbrev pub NoLater : ℕ → Point → Point → Type 0
NoLater n x y = ((k : ℕ) → k < n → x k ≈ᶠ y k) ⊎ Earlier n x y

pub record Compares (n : ℕ) (x y : List Fraction) (b : Bool) : Type 0 where
  pub before : b ≡ true → Earlier n (point_in x) (point_in y)
  pub after : b ≡ false → NoLater n (point_in y) (point_in x)
