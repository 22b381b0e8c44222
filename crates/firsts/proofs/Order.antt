-- Points compared item by item, as the code does it.
--   Alike x y k       the first k amounts of two lists are the same
-- default_free: an element that is there is the same whatever stands for those that are not.
-- alike-first, -step: from item to item.  earlier-made: the first amounts that differ decide.  alike-back: either way round.
use mathlib.Core.Path.{◌≡◌, refl, sym, ap, subst₂}
use mathlib.Core.List.{List, [], ◌∷◌}
use Prim.Native.Nat.{ℕ, zero, suc, ◌+◌, ◌≤◌, ◌<◌, max}
use native.Mathlib.Omega.{arith}
use native.Mathlib.Decide.{ℕ_discrete}
use lib.IntN.{pos, ◌*ℤ◌}
use lib.ListN.{length, get_or}
use lib.Signed.{◌≤ℤ◌, ◌<ℤ◌}
use Rattle.arith.specs.Fractions.{Frac, ◌<ᶠ◌, ◌≈ᶠ◌}
use Rattle.arith.specs.declared.Fraction.{Fraction}
use Rattle.arith.proofs.Integers.{≤ℤ-antisym}
use Rattle.firsts.specs.Order.{amount_in, point_in, SmallFraction}
use Rattle.knapsack.specs.Meaning.{Earlier}

abbrev pub Alike : List Fraction → List Fraction → ℕ → Type 0
Alike x y k = (j : ℕ) → j < k → point_in x j ≈ᶠ point_in y j

≈-sym : (x y : Frac) → x ≈ᶠ y → y ≈ᶠ x
unfolding ◌≈ᶠ◌
≈-sym x y h = sym h

pub alike-back : (x y : List Fraction) (k : ℕ) → Alike x y k → Alike y x k
alike-back x y k h j l = ≈-sym (point_in x j) (point_in y j) (h j l)

-- a product as the code has it, and as the order has it
cross : (a b : Fraction) → SmallFraction b → a.p *ℤ pos b.q ≡ a.p *ℤ pos (max 1 b.q)
cross a b h = ap (λ (t : ℕ). a.p *ℤ pos t) (own b.q h.some)
  where
    own : (q : ℕ) → 1 ≤ q → q ≡ max 1 q
    own q h = omega arith

module _ (x y : List Fraction) (k : ℕ) (sx : SmallFraction (amount_in x k)) (sy : SmallFraction (amount_in y k)) where
  pub earlier-made : (n : ℕ) → k < n → Alike x y k
      → ((amount_in x k).p *ℤ pos (amount_in y k).q) <ℤ ((amount_in y k).p *ℤ pos (amount_in x k).q) → Earlier n (point_in x) (point_in y)
  unfolding ◌<ᶠ◌
  earlier-made n l h g = record {
    place = k;
    below = l;
    same = h;
    less = subst₂ ◌<ℤ◌ (cross (amount_in x k) (amount_in y k) sy) (cross (amount_in y k) (amount_in x k) sx) g;
  }

  same-made : ((amount_in x k).p *ℤ pos (amount_in y k).q) ≡ ((amount_in y k).p *ℤ pos (amount_in x k).q) → point_in x k ≈ᶠ point_in y k
  unfolding ◌≈ᶠ◌
  same-made g = subst₂ ◌≡◌ (cross (amount_in x k) (amount_in y k) sy) (cross (amount_in y k) (amount_in x k) sx) g

  pub alike-step : Alike x y k → ((amount_in y k).p *ℤ pos (amount_in x k).q) ≤ℤ ((amount_in x k).p *ℤ pos (amount_in y k).q)
      → ((amount_in x k).p *ℤ pos (amount_in y k).q) ≤ℤ ((amount_in y k).p *ℤ pos (amount_in x k).q) → Alike x y (k + 1)
  alike-step h f g j l = go (ℕ_discrete j k)
    where
      go : Dec (j ≡ k) → point_in x j ≈ᶠ point_in y j
      go (yes i) = rw i (same-made (≤ℤ-antisym g f))
      go (no i) = h j (omega arith)

pub alike-first : (x y : List Fraction) → Alike x y 0
alike-first x y j l = absurd (omega arith)

pub default_free : {A : Type 0} (l : List A) (k : ℕ) (d e : A) → k < length l → get_or l k d ≡ get_or l k e
default_free [] k d e h = absurd (omega arith)
default_free (x ∷ l) zero d e h = refl
default_free (x ∷ l) (suc k) d e h = default_free l k d e (omega arith)
