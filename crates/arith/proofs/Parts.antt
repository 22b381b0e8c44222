-- The parts of a signed number z, which is up z minus dn z: for proofs in context, where no variable is to be split.
--   zs             the ruleset: `omega (arith, zs, sum x y, diff x y, prod x y)` reads and proves orders and equations of
--                  integers, and that they fit 64 bits; list one of sum, diff, neg, prod for each compound term
--   Within n z     z is at most n from zero
-- plain-lt: a test of two signed locals is the test of their numbers.
use mathlib.Core.Path.{◌≡◌, refl, sym, ap, ap₂, ◌∙◌, subst}
use Prim.Native.Nat.{◌^◌, max, ℕ, zero, suc, ◌+◌, ◌*◌, ◌-◌, ◌≤◌, ◌<◌}
use native.Mathlib.Omega.{arith}
use lib.IntN.{ℤ, pos, negsuc, neg_ℤ, ◌+ℤ◌, ◌-ℤ◌, ◌*ℤ◌}
use lib.Signed.{non_neg, ◌≤ℤ◌, ◌<ℤ◌, le_z, lt_z, le_z_yes, lt_z_yes, lt_z_no}
use borrow.Author.Tests.{leb-false}
use mir.Syntax.{Width, w64}
use mir.Val.{Fits, SFits, to_z, of_z, hbits}
use mir.Facts.{to_z-of_z}
use mathlib.Core.Bool.{Bool, true, false}
use lib.IntN.{nat_abs}
use native.Mathlib.Nat.{mul-le-mul}
use lib.Dec.{T, ltb, ltb→lt, leb→le, lt→ltb}
use Rattle.arith.specs.Within.{up, dn, Within}
use Rattle.arith.proofs.Integers.{split, zed, Is, is-add, is-neg, is_mul, is_le, le_is}

abbrev yes-type : Bool → Type 0
yes-type true = Unit {0}
yes-type false = ⊥

pub is-parts : (z : ℤ) → Is z (up z) (dn z)
is-parts (pos n) = omega arith
is-parts (negsuc n) = omega arith

pub from_le : {x y : ℤ} → x ≤ℤ y → up x + dn y ≤ up y + dn x
from_le {x} {y} h = le_is x y (up x) (dn x) (up y) (dn y) (is-parts x) (is-parts y) h

pub to_le : {x y : ℤ} → up x + dn y ≤ up y + dn x → x ≤ℤ y
to_le {x} {y} h = is_le x y (up x) (dn x) (up y) (dn y) (is-parts x) (is-parts y) h

pub from-lt : {x y : ℤ} → x <ℤ y → up x + dn y < up y + dn x
from-lt {x = pos m} {y = pos n} h = omega (arith, ltb→lt m n h.lt)
from-lt {x = pos m} {y = negsuc n} h = absurd h.lt
from-lt {x = negsuc m} {y = pos n} h = omega arith
from-lt {x = negsuc m} {y = negsuc n} h = omega (arith, ltb→lt n m h.lt)

pub to-lt : {x y : ℤ} → up x + dn y < up y + dn x → x <ℤ y
to-lt {x = pos m} {y = pos n} h = lt_z_yes (lt→ltb m n (omega arith))
to-lt {x = pos m} {y = negsuc n} h = absurd (omega arith)
to-lt {x = negsuc m} {y = pos n} h = lt_z_yes tt
to-lt {x = negsuc m} {y = negsuc n} h = lt_z_yes (lt→ltb n m (omega arith))

pub from-eq : {x y : ℤ} → x ≡ y → up x + dn y ≡ up y + dn x
from-eq {x} {y} h = rw h

pub to-eq : {x y : ℤ} → up x + dn y ≡ up y + dn x → x ≡ y
to-eq {x = pos m} {y = pos n} h = ap pos (omega arith)
to-eq {x = pos m} {y = negsuc n} h = absurd (omega arith)
to-eq {x = negsuc m} {y = pos n} h = absurd (omega arith)
to-eq {x = negsuc m} {y = negsuc n} h = ap negsuc (omega arith)

move : (z : ℤ) (a b : ℕ) → Is z a b → up z + b ≡ a + dn z
move (pos n) a b h = omega arith
move (negsuc n) a b h = omega arith

-- the parts of a sum, a difference and a product
pub sum : (x y : ℤ) → up (x +ℤ y) + (dn x + dn y) ≡ (up x + up y) + dn (x +ℤ y)
sum x y = move (x +ℤ y) _ _ (is-add x y _ _ _ _ (is-parts x) (is-parts y))

pub neg : (x : ℤ) → up (neg_ℤ x) + up x ≡ dn x + dn (neg_ℤ x)
neg x = move (neg_ℤ x) _ _ (is-neg x _ _ (is-parts x))

pub diff : (x y : ℤ) → up (x -ℤ y) + (dn x + up y) ≡ (up x + dn y) + dn (x -ℤ y)
diff x y = move (x -ℤ y) _ _ (is-add x (neg_ℤ y) _ _ _ _ (is-parts x) (is-neg y _ _ (is-parts y)))

pub zero-less : (x : ℤ) → pos 0 -ℤ x ≡ neg_ℤ x
zero-less = split _ (λ a b. simp zed (omega arith))

pub prod : (x y : ℤ) → up (x *ℤ y) + (up x * dn y + dn x * up y) ≡ (up x * up y + dn x * dn y) + dn (x *ℤ y)
prod x y = move (x *ℤ y) _ _ (is_mul x y _ _ _ _ (is-parts x) (is-parts y))

-- a 64-bit signed number, and one that fits
pub from-sfits : {z : ℤ} → SFits w64 z → up z + dn z ≤ 2 ^ 63
from-sfits {z = pos n} h = omega (arith, h.sfits)
from-sfits {z = negsuc n} h = omega (arith, h.sfits)

pub to-sfits : {z : ℤ} → max (up z - dn z) (dn z - up z) < 2 ^ 63 → SFits w64 z
to-sfits {z = pos n} h = record { sfits = omega arith }
to-sfits {z = negsuc n} h = record { sfits = omega arith }

pub impossible : false ≡ true → ⊥
impossible h = subst yes-type (sym h) tt

true-is-not : true ≡ false → ⊥
true-is-not h = subst yes-type h tt

-- a signed local holds bits: what is read back from them
pub from_bits : {z : ℤ} → SFits w64 z → up (to_z w64 (of_z w64 z)) + dn z ≡ up z + dn (to_z w64 (of_z w64 z))
from_bits h = rw (to_z-of_z h)

-- a test of two signed locals, as a test of the numbers
pub plain-lt : {x y : ℤ} {b : Bool} → SFits w64 x → SFits w64 y → lt_z (to_z w64 (of_z w64 x)) (to_z w64 (of_z w64 y)) ≡ b → lt_z x y ≡ b
plain-lt {x} {y} p q e = sym (ap₂ lt_z (to_z-of_z p) (to_z-of_z q)) ∙ e

-- what a test of two signed numbers says
pub from-lt_z : (x y : ℤ) → lt_z x y ≡ true → up x + dn y < up y + dn x
from-lt_z x y h = from-lt {x = x} {y = y} (lt_z_yes {a = x} {b = y} (rw h tt))

pub from-lt_z-no : (x y : ℤ) → lt_z x y ≡ false → up y + dn x ≤ up x + dn y
from-lt_z-no x y h = from_le {x = y} {y = x} (lt_z_no (rw h tt))

pub from-le_z : (x y : ℤ) → le_z x y ≡ true → up x + dn y ≤ up y + dn x
from-le_z x y h = from_le {x = x} {y = y} (le_z_yes (rw h tt))

pub from-le_z-no : (x y : ℤ) → le_z x y ≡ false → up y + dn x < up x + dn y
from-le_z-no (pos m) (pos n) h = omega (arith, leb-false m n h)
from-le_z-no (pos m) (negsuc n) h = omega arith
from-le_z-no (negsuc m) (pos n) h = absurd (true-is-not h)
from-le_z-no (negsuc m) (negsuc n) h = omega (arith, leb-false n m h)

-- a sign leaves one part empty
pub above-dn : {z : ℤ} → pos 0 ≤ℤ z → dn z ≡ 0
above-dn {z = pos n} h = refl
above-dn {z = negsuc n} h = absurd h.le

pub below_up : {z : ℤ} → z ≤ℤ pos 0 → up z ≡ 0
below_up {z = pos n} h = omega (arith, leb→le n 0 h.le)
below_up {z = negsuc n} h = refl

pub lt-le : {x y : ℤ} → x <ℤ y → x ≤ℤ y
lt-le h = to_le (omega (arith, from-lt h))

pub neg-within : {n : ℕ} (k : ℕ) → k ≤ n → Within n (neg_ℤ (pos k))
neg-within zero h = record { above = omega arith; below = omega arith }
neg-within (suc k) h = record { above = omega arith; below = h }

pub within-neg : {n : ℕ} (z : ℤ) → Within n z → Within n (neg_ℤ z)
within-neg (pos k) h = neg-within k h.above
within-neg (negsuc k) h = record { above = h.below; below = omega arith }

pub within-abs : {n : ℕ} (z : ℤ) → Within n z → nat_abs z ≤ n
within-abs (pos k) h = h.above
within-abs (negsuc k) h = h.below

pub abs-within : {n : ℕ} (z : ℤ) → nat_abs z ≤ n → Within n z
abs-within (pos k) h = record { above = h; below = omega arith }
abs-within (negsuc k) h = record { above = omega arith; below = h }

pub to-within : {n : ℕ} {z : ℤ} → up z ≤ dn z + n → dn z ≤ up z + n → Within n z
to-within {z = pos k} h g = record { above = omega arith; below = omega arith }
to-within {z = negsuc k} h g = record { above = omega arith; below = omega arith }

pub within-mul : {m n : ℕ} {x y : ℤ} → Within m x → Within n y → Within (m * n) (x *ℤ y)
within-mul {m} {n} {x = pos a} {y = pos b} p q = record { above = mul-le-mul p.above q.above; below = omega arith }
within-mul {m} {n} {x = pos a} {y = negsuc b} p q = neg-within _ (mul-le-mul p.above q.below)
within-mul {m} {n} {x = negsuc a} {y = pos b} p q = neg-within _ (mul-le-mul p.below q.above)
within-mul {m} {n} {x = negsuc a} {y = negsuc b} p q = record { above = mul-le-mul p.below q.below; below = omega arith }

pub within-add : {m n : ℕ} {x y : ℤ} → Within m x → Within n y → Within (m + n) (x +ℤ y)
within-add {m} {n} {x} {y} p q = to-within (omega (arith, sum x y)) (omega (arith, sum x y))

pub within-sub : {m n : ℕ} {x y : ℤ} → Within m x → Within n y → Within (m + n) (x -ℤ y)
within-sub {m} {n} {x} {y} p q = to-within (omega (arith, diff x y)) (omega (arith, diff x y))

pub within_more : {m n : ℕ} {z : ℤ} → m ≤ n → Within m z → Within n z
within_more h w = record { above = omega (arith, w.above); below = omega (arith, w.below) }

-- a range that fits a width
pub within-width : (v : Width) {n : ℕ} {z : ℤ} → n < 2 ^ hbits v → Within n z → SFits v z
within-width v {z = pos k} h w = record { sfits = omega (arith, w.above) }
within-width v {z = negsuc k} h w = record { sfits = omega (arith, w.below) }

pub within-sfits : {n : ℕ} {z : ℤ} → n < 2 ^ 63 → Within n z → SFits w64 z
within-sfits h w = within-width w64 h w

-- a number in a range that fits, read back from its bits: `within-back tt h`
pub within-back : {n : ℕ} {z : ℤ} → T (ltb n (2 ^ 63)) → Within n z → to_z w64 (of_z w64 z) ≡ z
within-back {n} t h = to_z-of_z (within-sfits (ltb→lt n (2 ^ 63) t) h)

-- a cast of a signed number that is not below zero
pub cast-in : {z : ℤ} → pos 0 ≤ℤ z → SFits w64 z → T (non_neg z) × Fits w64 (nat_abs z)
cast-in {z = pos n} h f = (tt, record { fits = omega (arith, f.sfits) })
cast-in {z = negsuc n} h f = absurd h.le

pub ruleset zs = (from_le, to_le, from-lt, to-lt, from-eq, to-eq, to-sfits, from_bits, from-lt_z, from-lt_z-no, from-le_z, from-le_z-no)
