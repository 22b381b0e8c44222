-- Row 20 of a sheet: the first item whose weight is a range and whose amount may be below 0.
-- none_yet, ranged-more, ranged-found, ranged-most: while the items are looked at. ranged-none, none-ranged: no number exactly if there is no such item.
-- unranged: a sheet that row 20 does not refuse has none, and stays as it was read.
use mathlib.Core.Path.{◌≡◌, refl}
use mathlib.Core.Bool.{Bool, true, false, cond}
use Prim.Native.Nat.{ℕ, zero, suc, ◌≤◌, ◌<◌}
use native.Mathlib.Decide.{ℕ_discrete}
use native.Mathlib.Omega.{arith}
use Rattle.arith.specs.Sum.{Each}
use Rattle.std.specs.Prelude.{Ok}
use Rattle.model.specs.declared.ModelItem.{ModelItem}
use Rattle.model.specs.Records.{item_at, is_ranged_below}
use Rattle.sheet.specs.declared.Progress.{Progress}
use Rattle.sheet.specs.Sections.{onward}
use Rattle.sheet.specs.Reading.{or_number, first_ranged, ranged_at, ranges_of}
use Rattle.sheet.proofs.Sections.{no-refusal, went}

module _ (f : ℕ → ModelItem) where
  pub none_yet : first_ranged 0 f ≡ 0
  unfolding first_ranged
  none_yet = refl

  pub ranged-more : (n : ℕ) → first_ranged n f ≡ 0 → is_ranged_below (f n) ≡ false → first_ranged (suc n) f ≡ 0
  unfolding first_ranged
  ranged-more n h e = rw (h, e)

  pub ranged-found : (n k : ℕ) → k < n → first_ranged k f ≡ 0 → is_ranged_below (f k) ≡ true → first_ranged n f ≡ suc k
  unfolding first_ranged
  ranged-found zero k l h e = absurd (omega arith)
  ranged-found (suc n) k l h e = go (ℕ_discrete k n) (λ m. ranged-found n k m h e)
    where
      go : Dec (k ≡ n) → (k < n → first_ranged n f ≡ suc k) → or_number (first_ranged n f) (cond (is_ranged_below (f n)) (suc n) 0) ≡ suc k
      go (yes d) ih = rw (← d, h, e)
      go (no d) ih = rw (ih (omega arith))

  pub ranged-most : (n : ℕ) → first_ranged n f ≤ n
  unfolding first_ranged
  ranged-most zero = omega arith
  ranged-most (suc n) = go (first_ranged n f) (is_ranged_below (f n)) (ranged-most n)
    where
      go : (k : ℕ) (b : Bool) → k ≤ n → or_number k (cond b (suc n) 0) ≤ suc n
      go zero true h = omega arith
      go zero false h = omega arith
      go (suc k) b h = omega arith

  pub ranged-none : (n : ℕ) → first_ranged n f ≡ 0 → Each n (λ k. is_ranged_below (f k) ≡ false)
  unfolding first_ranged
  ranged-none zero h k l = absurd (omega arith)
  ranged-none (suc n) h k l = go (first_ranged n f) (is_ranged_below (f n)) refl refl (ℕ_discrete k n) (λ d. ranged-none n d k) h
    where
      go : (a : ℕ) (b : Bool) → first_ranged n f ≡ a → is_ranged_below (f n) ≡ b → Dec (k ≡ n) →
          (first_ranged n f ≡ 0 → k < n → is_ranged_below (f k) ≡ false) → or_number a (cond b (suc n) 0) ≡ 0 → is_ranged_below (f k) ≡ false
      go zero true d e i ih h = absurd (omega (arith, h))
      go zero false d e (yes i) ih h = rw i e
      go zero false d e (no i) ih h = ih d (omega arith)
      go (suc a) b d e i ih h = absurd (omega (arith, h))

  pub none-ranged : (n : ℕ) → Each n (λ k. is_ranged_below (f k) ≡ false) → first_ranged n f ≡ 0
  none-ranged zero h = none_yet
  none-ranged (suc n) h = ranged-more n (none-ranged n (λ k l. h k (omega arith))) (h n (omega arith))

pub record Unranged (p : Progress) : Type 0 where
  pub before : p.verdict ≡ Ok tt
  pub is : ranges_of p ≡ p
  pub none : first_ranged p.model.count (item_at p.model) ≡ 0

pub unranged : (p : Progress) → (ranges_of p).verdict ≡ Ok tt → Unranged p
unfolding ranges_of
unranged p h =
    let w = went p (ranged_at (first_ranged p.model.count (item_at p.model)) p) h in
    go (first_ranged p.model.count (item_at p.model)) refl w.before w.is w.after
  where
    go : (k : ℕ) → first_ranged p.model.count (item_at p.model) ≡ k → p.verdict ≡ Ok tt → onward p (ranged_at (first_ranged p.model.count (item_at p.model)) p) ≡ ranged_at k p →
        (ranged_at k p).verdict ≡ Ok tt → Unranged p
    go zero e b i a = record { before = b; is = i; none = e }
    go (suc k) e b i a = no-refusal a
