-- The light and the heavy end are what Greedy calls so.
-- is-lightest, is-heaviest; lift-price: what raising an item from the one to the other is worth.
use mathlib.Core.Path.{◌≡◌, refl, sym, ap, ap₂, ◌∙◌}
use mathlib.Core.Bool.{Bool, true, false, cond}
use mathlib.Core.Logic.{◌≢◌, ◌⊎◌, inl, inr}
use native.Mathlib.Omega.{arith}
use lib.IntN.{ℤ, pos, neg_ℤ, ◌-ℤ◌, ◌*ℤ◌}
use lib.Signed.{◌≤ℤ◌, ◌<ℤ◌, lt_z, clash_ℤ}
use Rattle.arith.proofs.Integers.{split, split3, zed}
use Rattle.arith.proofs.Words.{yes_lt, no_lt}
use Rattle.arith.specs.Signs.{times_sign}
use Rattle.greedy.specs.Fill.{lightest, heaviest}
use Rattle.greedy.proofs.Greedy.{LightAt, HeavyAt, sign_of, times-sign-up, times-sign-dn}

above-not : (a : ℤ) → pos 0 <ℤ a → a <ℤ pos 0 → ⊥
above-not = split _ (λ a b. simp zed (omega arith))

above-nonzero : (a : ℤ) → pos 0 <ℤ a → a ≡ pos 0 → ⊥
above-nonzero = split _ (λ a b. simp zed (omega arith))

below-nonzero : (a : ℤ) → a <ℤ pos 0 → a ≡ pos 0 → ⊥
below-nonzero = split _ (λ a b. simp zed (omega arith))

above-no : (a : ℤ) → pos 0 <ℤ a → a ≤ℤ pos 0 → ⊥
above-no = split _ (λ a b. simp zed (omega arith))

pub is-lightest : (a c l u : ℤ) → LightAt a c l u (lightest a c l u)
is-lightest a c l u = go (lt_z (pos 0) a) (lt_z a (pos 0)) (lt_z (pos 0) c) refl refl refl
  where
    go : (p q r : Bool) → lt_z (pos 0) a ≡ p → lt_z a (pos 0) ≡ q → lt_z (pos 0) c ≡ r → LightAt a c l u (cond p l (cond q u (cond r u l)))
    go true q r ep eq er =
        record { heavy = λ h. refl; light = λ h. absurd (above-not a (yes_lt ep) h); good = λ z h. absurd (above-nonzero a (yes_lt ep) z); bad = λ z h. refl }
    go false true r ep eq er =
        record { heavy = λ h. absurd (above-not a h (yes_lt eq)); light = λ h. refl; good = λ z h. refl; bad = λ z h. absurd (below-nonzero a (yes_lt eq) z) }
    go false false true ep eq er =
        record { heavy = λ h. absurd (above-no a h (no_lt ep)); light = λ h. refl; good = λ z h. refl; bad = λ z h. absurd (above-no c (yes_lt er) h) }
    go false false false ep eq er =
        record { heavy = λ h. refl; light = λ h. absurd (clash_ℤ h (no_lt eq)); good = λ z h. absurd (clash_ℤ h (no_lt er)); bad = λ z h. refl }

pub is-heaviest : (a l u : ℤ) → HeavyAt a l u (heaviest a l u)
is-heaviest a l u = go (lt_z a (pos 0)) refl
  where
    go : (b : Bool) → lt_z a (pos 0) ≡ b → HeavyAt a l u (cond b l u)
    go true e = record { heavy = λ h. absurd (above-not a h (yes_lt e)); light = λ h. refl }
    go false e = record { heavy = λ h. refl; light = λ h. absurd (clash_ℤ h (no_lt e)) }

-- the same change of the amount, priced
pub lift-price : (a c l u x y : ℤ) → a ≢ pos 0 → LightAt a c l u x → HeavyAt a l u y → c *ℤ (y -ℤ x) ≡ times_sign a c *ℤ (u -ℤ l)
lift-price a c l u x y nz lt hv = go (sign_of a nz)
  where
    dn : (c l u : ℤ) → c *ℤ (l -ℤ u) ≡ neg_ℤ c *ℤ (u -ℤ l)
    dn = split3 _ (λ a b c e f g. simp zed (omega arith))

    go : (pos 0 <ℤ a) ⊎ (a <ℤ pos 0) → c *ℤ (y -ℤ x) ≡ times_sign a c *ℤ (u -ℤ l)
    go (inl h) = ap₂ (λ p q. c *ℤ (p -ℤ q)) (hv.heavy h) (lt.heavy h) ∙ ap (λ z. z *ℤ (u -ℤ l)) (sym (times-sign-up a c h))
    go (inr h) = ap₂ (λ p q. c *ℤ (p -ℤ q)) (hv.light h) (lt.light h) ∙ dn c l u ∙ ap (λ z. z *ℤ (u -ℤ l)) (sym (times-sign-dn a c h))
