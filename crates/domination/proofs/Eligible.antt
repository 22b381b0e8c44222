-- Which items may be paired: the test, and what it says.
-- eligible-iff: the test `eligible` is 01's condition.
use mathlib.Core.Path.{◌≡◌, refl}
use mathlib.Core.Bool.{Bool, true, false, cond}
use mathlib.Core.Logic.{◌↔◌, ◌⊎◌, inl, inr}
use native.Mathlib.Omega.{arith}
use lib.IntN.{ℤ, pos}
use lib.Signed.{◌<ℤ◌, lt_z}
use Rattle.arith.proofs.Parts.{zs, lt-le}
use Rattle.arith.proofs.Words.{lt_yes, le-no}
use Rattle.knapsack.specs.declared.Mark.{Mark}
use Rattle.knapsack.specs.declared.Mark.TheVariants.{Integer, Continuous}
use Rattle.knapsack.specs.declared.Item.{Item}
use Rattle.domination.proofs.Tests.{not-both}
use Rattle.domination.specs.Eligible.{Eligible}
use Rattle.domination.specs.Pairs.{is_integer, one_sign, eligible}

abbrev OneSign : ℤ → ℤ → Type 0
OneSign w c = ((pos 0 <ℤ w) × (pos 0 <ℤ c)) ⊎ ((w <ℤ pos 0) × (c <ℤ pos 0))

sign-yes : (w c : ℤ) → one_sign w c ≡ true → OneSign w c
sign-yes w c h = go (lt_z (pos 0) w) (lt_z w (pos 0)) refl refl h
  where
    go : (s t : Bool) → lt_z (pos 0) w ≡ s → lt_z w (pos 0) ≡ t → cond s (lt_z (pos 0) c) (cond t (lt_z c (pos 0)) false) ≡ true → OneSign w c
    go true t p q e = inl (omega (arith, zs), omega (arith, zs))
    go false true p q e = inr (omega (arith, zs), omega (arith, zs))
    go false false p q e = absurd (not-both false e refl)

sign-no : (w c : ℤ) → OneSign w c → one_sign w c ≡ true
sign-no w c (inl h) = rw (lt_yes h.0) (lt_yes h.1)
sign-no w c (inr h) = rw (le-no (lt-le h.0), lt_yes h.0) (lt_yes h.1)

mark-yes : (m : Mark) (b : Bool) → cond (is_integer m) b false ≡ true → (m ≡ Integer) × (b ≡ true)
mark-yes Integer b e = (refl, e)
mark-yes Continuous b e = absurd (not-both false e refl)

pub eligible-iff : (x : Item) → (eligible x ≡ true) ↔ Eligible x
eligible-iff x = (there, λ h. rw h.integer (sign-no x.weight x.price h.one-sign))
  where
    there : eligible x ≡ true → Eligible x
    there e = let h = mark-yes x.mark (one_sign x.weight x.price) e in record { integer = h.0; one-sign = sign-yes x.weight x.price h.1 }
