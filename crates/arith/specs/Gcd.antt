-- Common divisors, and fractions in lowest terms.
--   Divides d n     d divides n
--   gcd_in t a b     Euclid's way in at most t rounds
--   gcd_of a b       the greatest common divisor; gcd 0 0 is 0
--   signed z n      n with the sign of z
--   lowest p q      p / q in lowest terms: no common divisor above 1, zero is 0 / 1
use Rattle.std.specs.Prelude.{◌≡◌, ℕ, zero, suc, ◌*◌, ◌/◌, ◌%◌, ℤ, pos, negsuc, neg_ℤ, nat_abs}
use Rattle.arith.specs.declared.Fraction.{Fraction}

abbrev pub Divides : ℕ → ℕ → Type 0
Divides d n = (k : ℕ) × (n ≡ k * d)

-- a remainder falls at each round, so b rounds are enough
unfoldable pub gcd_in : ℕ → ℕ → ℕ → ℕ
gcd_in zero a b = a
gcd_in (suc rounds) a zero = a
gcd_in (suc rounds) a (suc b) = gcd_in rounds (suc b) (a % suc b)

unfoldable pub gcd_of : ℕ → ℕ → ℕ
gcd_of a b = gcd_in b a b

unfoldable pub signed : ℤ → ℕ → ℤ
signed (pos k) n = pos n
signed (negsuc k) n = neg_ℤ (pos n)

unfoldable pub lowest : ℤ → ℕ → Fraction
lowest p q = record { p = signed p (nat_abs p / gcd_of (nat_abs p) q); q = q / gcd_of (nat_abs p) q }
