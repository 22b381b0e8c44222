-- Facts for proofs of code on signed integers: what a test says, and what fits.
use mathlib.Core.Path.{◌≡◌, refl, sym, subst, subst₂}
use mathlib.Core.Bool.{Bool, true, false, not}
use Prim.Native.Nat.{◌<◌, ◌^◌}
use native.Mathlib.Omega.{arith}
use lib.IntN.{ℤ, pos, negsuc, ◌+ℤ◌, ◌-ℤ◌}
use lib.Signed.{◌≤ℤ◌, ◌<ℤ◌, lt_z, mag, lt_z_yes, lt_z_no, clash_ℤ}
use lib.Dec.{T, leb→le}
use mir.Syntax.{Width, w64}
use mir.Val.{SFits, to_z, of_z}
use mir.Facts.{to_z-of_z}
use Rattle.arith.proofs.Integers.{split, split2, zed}

-- a signed test `a < b` on two values that fit, as a condition leaves it: on the numbers themselves
pub on_values : {w : Width} {a b : ℤ} {t : Bool} → SFits w a → SFits w b → lt_z (to_z w (of_z w a)) (to_z w (of_z w b)) ≡ t → lt_z a b ≡ t
on_values {w} {a} {b} {t} f g h = subst₂ (λ x y. lt_z x y ≡ t) (to_z-of_z f) (to_z-of_z g) h

pub yes_lt : {a b : ℤ} → lt_z a b ≡ true → a <ℤ b
yes_lt h = lt_z_yes (subst T (sym h) tt)

pub no_lt : {a b : ℤ} → lt_z a b ≡ false → b ≤ℤ a
no_lt h = lt_z_no (subst (λ t. T (not t)) (sym h) tt)

pub le-no : {a b : ℤ} → b ≤ℤ a → lt_z a b ≡ false
le-no {a} {b} h = go (lt_z a b) refl
  where
    go : (t : Bool) → lt_z a b ≡ t → lt_z a b ≡ false
    go true e = clash_ℤ (yes_lt e) h
    go false e = e

pub lt_yes : {a b : ℤ} → a <ℤ b → lt_z a b ≡ true
lt_yes {a} {b} h = go (lt_z a b) refl
  where
    go : (t : Bool) → lt_z a b ≡ t → lt_z a b ≡ true
    go true e = e
    go false e = clash_ℤ h (no_lt e)

-- what lies between two numbers that fit fits
pub between : {w : Width} (a b z : ℤ) → SFits w a → SFits w b → a ≤ℤ z → z ≤ℤ b → SFits w z
between {w} a (pos k) (pos n) f g h l = record { sfits = omega (arith, leb→le n k l.le, g.sfits) }
between {w} a (negsuc k) (pos n) f g h l = absurd l.le
between {w} (pos k) b (negsuc n) f g h l = absurd h.le
between {w} (negsuc k) b (negsuc n) f g h l = record { sfits = omega (arith, leb→le n k h.le, f.sfits) }

-- x - 1 where something less than x fits, x + 1 where something greater does
pub less-fits : {w : Width} {a x : ℤ} → SFits w a → SFits w x → a <ℤ x → SFits w (x -ℤ pos 1)
less-fits {w} {a} {x} f g h = between a x (x -ℤ pos 1) f g (low a x h) (high x)
  where
    low : (a x : ℤ) → a <ℤ x → a ≤ℤ (x -ℤ pos 1)
    low = split2 _ (λ a b c e. simp zed (omega arith))

    high : (x : ℤ) → (x -ℤ pos 1) ≤ℤ x
    high = split _ (λ a b. simp zed (omega arith))

pub more-fits : {w : Width} {b x : ℤ} → SFits w b → SFits w x → x <ℤ b → SFits w (x +ℤ pos 1)
more-fits {w} {b} {x} f g h = between x b (x +ℤ pos 1) g f (low x) (high x b h)
  where
    high : (x b : ℤ) → x <ℤ b → (x +ℤ pos 1) ≤ℤ b
    high = split2 _ (λ a b c e. simp zed (omega arith))

    low : (x : ℤ) → x ≤ℤ (x +ℤ pos 1)
    low = split _ (λ a b. simp zed (omega arith))

-- the same from the bound alone, as an array's element or a variant's field hands it over
pub back : (z : ℤ) → mag z < 2 ^ 63 → to_z w64 (of_z w64 z) ≡ z
back z h = to_z-of_z {w = w64} (record { sfits = h })
