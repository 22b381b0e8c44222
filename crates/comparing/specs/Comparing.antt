-- The order of fractions and of points, as answers hold them.
--   less_fraction x y    x is below y, cross-multiplied
--   amount_in l k        the amount at place k;  point_in l: the point of a list
--   Divided n l         the first n amounts have divisors
--   Compares n x y b    b says whether x comes before y
use Rattle.std.specs.Prelude.{◌≡◌, Bool, true, false, List, ℕ, ◌≤◌, ◌<◌, pos, ◌*ℤ◌, get_or}
use Rattle.std.specs.Int.Signed.{lt_z}
use Rattle.arith.specs.Fractions.{frac}
use Rattle.arith.specs.declared.Fraction.{Fraction}
use Rattle.knapsack.specs.Meaning.{Point, nought}
use Rattle.knapsack.specs.Meaning.{Earlier}

abbrev pub less_fraction : Fraction → Fraction → Bool
less_fraction x y = lt_z (x.p *ℤ pos y.q) (y.p *ℤ pos x.q)

abbrev pub amount_in : List Fraction → ℕ → Fraction
amount_in l k = get_or l k nought

abbrev pub point_in : List Fraction → Point
point_in l k = frac (amount_in l k).p (amount_in l k).q

abbrev pub Divided : ℕ → List Fraction → Type 0
Divided n l = (k : ℕ) → k < n → 1 ≤ (amount_in l k).q

pub record Compares (n : ℕ) (x y : List Fraction) (b : Bool) : Type 0 where
  pub before : b ≡ true → Earlier n (point_in x) (point_in y)
  pub after : b ≡ false → ¬ Earlier n (point_in x) (point_in y)
