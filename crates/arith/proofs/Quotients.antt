-- Division towards zero and its remainder.
use mathlib.Core.Path.{◌≡◌, refl, sym, ap}
use Prim.Native.Nat.{ℕ, zero, suc, ◌+◌, ◌/◌, ◌%◌, ◌<◌}
use native.Mathlib.Nat.{div-add-mod, mod-lt, div-le_self, mod-le}
use native.Mathlib.Omega.{arith}
use lib.IntN.{ℤ, pos, negsuc, neg_ℤ, nat_abs, ◌+ℤ◌, ◌-ℤ◌, ◌*ℤ◌}
use lib.Signed.{quot_z, rem_z}
use mir.Syntax.{w64}
use mir.Val.{SFits, of_z}
use Rattle.arith.proofs.Integers.{zed, split, split3}
use Rattle.arith.specs.Within.{up, dn, Within}
use Rattle.arith.proofs.Parts.{neg-within}

pub mul-sub : (x y z : ℤ) → x *ℤ (y -ℤ z) ≡ x *ℤ y -ℤ x *ℤ z
mul-sub = split3 _ (λ a b c e f g. simp zed (omega arith))

pub mul-one : (x : ℤ) → x *ℤ pos 1 ≡ x
mul-one = split _ (λ a b. simp zed (omega arith))

pub quot-rem : (n d : ℤ) → n ≡ d *ℤ quot_z n d +ℤ rem_z n d
quot-rem (pos a) (pos b) = ap pos (sym (div-add-mod a b))
quot-rem (pos a) (negsuc b) = simp zed (omega (arith, div-add-mod a (suc b)))
quot-rem (negsuc a) (pos b) = simp zed (omega (arith, div-add-mod (suc a) b))
quot-rem (negsuc a) (negsuc b) = simp zed (omega (arith, div-add-mod (suc a) (suc b)))

neg-up : (k : ℕ) → up (neg_ℤ (pos k)) ≡ 0
neg-up zero = refl
neg-up (suc k) = refl

neg-dn : (k : ℕ) → dn (neg_ℤ (pos k)) ≡ k
neg-dn zero = refl
neg-dn (suc k) = refl

-- the remainder is nearer to zero than the divisor
pub rem-small : (n d : ℤ) → 0 < up d + dn d → up (rem_z n d) + dn (rem_z n d) < up d + dn d
rem-small (pos a) (pos b) h = omega (arith, mod-lt a {m = b} (omega arith))
rem-small (pos a) (negsuc b) h = omega (arith, mod-lt a {m = suc b} (omega arith))
rem-small (negsuc a) (pos b) h = omega (arith, mod-lt (suc a) {m = b} (omega arith), neg-up (suc a % b), neg-dn (suc a % b))
rem-small (negsuc a) (negsuc b) h = omega (arith, mod-lt (suc a) {m = suc b} (omega arith), neg-up (suc a % suc b), neg-dn (suc a % suc b))

pub quot-within : {m : ℕ} (n d : ℤ) → Within m n → Within m (quot_z n d)
quot-within (pos a) (pos b) h = record { above = omega (arith, div-le_self a b); below = omega arith }
quot-within (pos a) (negsuc b) h = neg-within (a / suc b) (omega (arith, div-le_self a (suc b)))
quot-within (negsuc a) (pos b) h = neg-within (suc a / b) (omega (arith, div-le_self (suc a) b))
quot-within (negsuc a) (negsuc b) h = record { above = omega (arith, div-le_self (suc a) (suc b)); below = omega arith }

pub rem-within : {m : ℕ} (n d : ℤ) → Within m n → Within m (rem_z n d)
rem-within (pos a) d h = record { above = omega (arith, mod-le a (nat_abs d)); below = omega arith }
rem-within (negsuc a) d h = neg-within (suc a % nat_abs d) (omega (arith, mod-le (suc a) (nat_abs d)))

-- the bits of a number that is not zero
pub bits-zero : (z : ℤ) → SFits w64 z → of_z w64 z ≡ 0 → z ≡ pos 0
bits-zero (pos n) h e = ap pos e
bits-zero (negsuc n) h e = absurd (omega (arith, h.sfits))

pub bits_pos : (z : ℤ) → SFits w64 z → (z ≡ pos 0 → ⊥) → 0 < of_z w64 z
bits_pos z h ne = go (of_z w64 z) refl
  where
    go : (k : ℕ) → of_z w64 z ≡ k → 0 < k
    go zero e = absurd (ne (bits-zero z h e))
    go (suc k) e = omega arith
