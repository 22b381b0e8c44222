-- What less_mixed says: whole + part / parts, cross-multiplied.
--   over m          the number of parts in m, over m.parts
-- less-true, less-false: the order of two numbers from the test.
use mathlib.Core.Path.{◌≡◌, refl, sym, ◌∙◌}
use mathlib.Core.Bool.{Bool, true, false, cond}
use Prim.Native.Nat.{ℕ, ◌*◌, ◌<◌, ◌≤◌}
use native.Mathlib.Nat.{mul-le-mul_right}
use native.Mathlib.Omega.{arith}
use lib.Dec.{ltb}
use lib.IntN.{ℤ, pos, ◌+ℤ◌, ◌*ℤ◌}
use lib.Signed.{◌≤ℤ◌, ◌<ℤ◌, lt_z}
use borrow.Author.Tests.{ltb-true, ltb-false}
use Rattle.arith.specs.declared.Mixed.{Mixed}
use Rattle.arith.specs.Mixed.{Proper, less_mixed}
use Rattle.arith.proofs.Integers.{split, split2, zed, ≤ℤ-antisym}
use Rattle.arith.proofs.Parts.{impossible}
use Rattle.arith.proofs.Words.{yes_lt, no_lt}

abbrev pub over : Mixed → ℤ
over m = m.whole *ℤ pos m.parts +ℤ pos m.part

-- a lower whole part decides
lower : (i m j n : ℕ) → i < m → 1 ≤ n → (x y : ℤ) → x <ℤ y → ((x *ℤ pos m +ℤ pos i) *ℤ pos n) <ℤ ((y *ℤ pos n +ℤ pos j) *ℤ pos m)
lower i m j n h k = split2 _ (λ a b c e. simp zed (λ l. omega (arith, mul-le-mul_right (m * n) l, mul-le-mul_right n h)))

weak : (x y : ℤ) → x <ℤ y → x ≤ℤ y
weak = split2 _ (λ a b c e. simp zed (omega arith))

-- at equal whole parts the remainders decide
level< : (i m j n : ℕ) → i * n < j * m → (x : ℤ) → ((x *ℤ pos m +ℤ pos i) *ℤ pos n) <ℤ ((x *ℤ pos n +ℤ pos j) *ℤ pos m)
level< i m j n h = split _ (λ a b. simp zed (omega arith))

level≤ : (i m j n : ℕ) → i * n ≤ j * m → (x : ℤ) → ((x *ℤ pos m +ℤ pos i) *ℤ pos n) ≤ℤ ((x *ℤ pos n +ℤ pos j) *ℤ pos m)
level≤ i m j n h = split _ (λ a b. simp zed (omega arith))

module _ (a b : Mixed) (p : Proper a) (q : Proper b) where
  abbrev Below : Type 0
  Below = (over a *ℤ pos b.parts) <ℤ (over b *ℤ pos a.parts)

  abbrev NotAbove : Type 0
  NotAbove = (over b *ℤ pos a.parts) ≤ℤ (over a *ℤ pos b.parts)

  parts : (1 ≤ a.parts) × (1 ≤ b.parts)
  parts = (omega (arith, p.low), omega (arith, q.low))

  -- by the three tests
  decide : (s t u r : Bool) → lt_z a.whole b.whole ≡ s → lt_z b.whole a.whole ≡ t → ltb (a.part * b.parts) (b.part * a.parts) ≡ u
      → cond s true (cond t false u) ≡ r → (r ≡ true → Below) × (r ≡ false → NotAbove)
  decide true t u r es et eu e =
      (λ h. lower a.part a.parts b.part b.parts p.low parts.1 a.whole b.whole (yes_lt es), λ h. absurd (impossible (sym h ∙ sym e)))
  decide false true u r es et eu e =
      (λ h. absurd (impossible (e ∙ h)), λ h. weak _ _ (lower b.part b.parts a.part a.parts q.low parts.0 b.whole a.whole (yes_lt et)))
  decide false false u r es et eu e =
      let w : a.whole ≡ b.whole = ≤ℤ-antisym (no_lt et) (no_lt es) in (
        λ h. rw w (level< a.part a.parts b.part b.parts (ltb-true _ _ (eu ∙ e ∙ h)) b.whole),
        λ h. rw w (level≤ b.part b.parts a.part a.parts (ltb-false _ _ (eu ∙ e ∙ h)) b.whole),
      )

  pub less-true : less_mixed a b ≡ true → Below
  unfolding less_mixed
  less-true e = (decide _ _ _ true refl refl refl e).0 refl

  pub less-false : less_mixed a b ≡ false → NotAbove
  unfolding less_mixed
  less-false e = (decide _ _ _ false refl refl refl e).1 refl
