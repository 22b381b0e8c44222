-- Fractions with their own divisors.
--   Frac            num / den, where den is at least 1
--   int n           n / 1
--   frac p q        p / q, as a record holds it; a divisor 0 counts as 1
--   _+ᶠ_ _·ᶠ_       sum, and multiple by an integer
--   _≤ᶠ_ _<ᶠ_ _≈ᶠ_  order and equality of values, cross-multiplied
--   total n f       f 0 + … + f (n - 1)
use Rattle.std.specs.Prelude.{◌≡◌, ℕ, zero, suc, ◌*◌, ◌≤◌, max, ℤ, pos, ◌+ℤ◌, ◌*ℤ◌, ◌≤ℤ◌, ◌<ℤ◌}
use Rattle.std.proofs.Common.{mul-le-mul, arith}

pub record Frac : Type 0 where
  pub num : ℤ
  pub den : ℕ
  pub den≥1 : 1 ≤ den

abbrev pub int : ℤ → Frac
int n = record { num = n; den = 1; den≥1 = omega arith }

abbrev pub frac : ℤ → ℕ → Frac
frac p q = record { num = p; den = max 1 q; den≥1 = omega arith }

infixl 6 ◌+ᶠ◌
unfoldable pub ◌+ᶠ◌ : Frac → Frac → Frac
x +ᶠ y = record { num = x.num *ℤ pos y.den +ℤ y.num *ℤ pos x.den; den = x.den * y.den; den≥1 = mul-le-mul x.den≥1 y.den≥1 }

infixl 7 ◌·ᶠ◌
unfoldable pub ◌·ᶠ◌ : ℤ → Frac → Frac
c ·ᶠ x = record { num = c *ℤ x.num; den = x.den; den≥1 = x.den≥1 }

infix 4 ◌≤ᶠ◌ ◌<ᶠ◌ ◌≈ᶠ◌
unfoldable pub ◌≤ᶠ◌ : Frac → Frac → Type 0
x ≤ᶠ y = (x.num *ℤ pos y.den) ≤ℤ (y.num *ℤ pos x.den)

unfoldable pub ◌<ᶠ◌ : Frac → Frac → Type 0
x <ᶠ y = (x.num *ℤ pos y.den) <ℤ (y.num *ℤ pos x.den)

unfoldable pub ◌≈ᶠ◌ : Frac → Frac → Type 0
x ≈ᶠ y = x.num *ℤ pos y.den ≡ y.num *ℤ pos x.den

abbrev pub total : ℕ → (ℕ → Frac) → Frac
total zero f = int (pos 0)
total (suc n) f = total n f +ᶠ f n
