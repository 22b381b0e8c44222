-- Points compared item by item, as the code does it.
--   Alike x y k       the first k amounts of two lists are the same
-- alike-first, -step: from item to item.  earlier-made: the first amounts that differ decide.  alike-back: either way round.
-- earlier-not, alike-not: a point that comes later, or is the same, does not come before.
-- default_free: an element that is there is the same whatever stands for those that are not.
use mathlib.Core.Path.{◌≡◌, refl, sym, ap, subst, subst₂}
use mathlib.Core.List.{List, [], ◌∷◌}
use Prim.Native.Nat.{ℕ, zero, suc, ◌+◌, ◌≤◌, ◌<◌, max}
use native.Mathlib.Omega.{arith}
use native.Mathlib.Decide.{ℕ_discrete, dec_lt}
use lib.IntN.{ℤ, pos, ◌*ℤ◌}
use lib.ListN.{length, get_or}
use lib.Signed.{◌≤ℤ◌, ◌<ℤ◌}
use Rattle.arith.specs.Fractions.{Frac, ◌<ᶠ◌, ◌≈ᶠ◌}
use Rattle.arith.specs.declared.Fraction.{Fraction}
use Rattle.arith.proofs.Integers.{split2, zed, ≤ℤ-antisym}
use Rattle.knapsack.specs.Meaning.{Point}
use Rattle.knapsack.specs.Meaning.{Earlier}
use Rattle.comparing.specs.Comparing.{amount_in, point_in}

abbrev pub Alike : List Fraction → List Fraction → ℕ → Type 0
Alike x y k = (j : ℕ) → j < k → point_in x j ≈ᶠ point_in y j

≈-sym : (x y : Frac) → x ≈ᶠ y → y ≈ᶠ x
unfolding ◌≈ᶠ◌
≈-sym x y h = sym h

pub alike-back : (x y : List Fraction) (k : ℕ) → Alike x y k → Alike y x k
alike-back x y k h j l = ≈-sym (point_in x j) (point_in y j) (h j l)

-- a product as the code has it, and as the order has it
cross : (a b : Fraction) → 1 ≤ b.q → a.p *ℤ pos b.q ≡ a.p *ℤ pos (max 1 b.q)
cross a b h = ap (λ (t : ℕ). a.p *ℤ pos t) (own b.q h)
  where
    own : (q : ℕ) → 1 ≤ q → q ≡ max 1 q
    own q h = omega arith

module _ (x y : List Fraction) (k : ℕ) (sx : 1 ≤ (amount_in x k).q) (sy : 1 ≤ (amount_in y k).q) where
  pub earlier-made : (n : ℕ) → k < n → Alike x y k
      → ((amount_in x k).p *ℤ pos (amount_in y k).q) <ℤ ((amount_in y k).p *ℤ pos (amount_in x k).q) → Earlier n (point_in x) (point_in y)
  unfolding ◌<ᶠ◌
  earlier-made n l h g = record {
    place = k;
    below = l;
    same = h;
    less = subst₂ ◌<ℤ◌ (cross (amount_in x k) (amount_in y k) sy) (cross (amount_in y k) (amount_in x k) sx) g;
  }

  same-made : ((amount_in x k).p *ℤ pos (amount_in y k).q) ≡ ((amount_in y k).p *ℤ pos (amount_in x k).q) → point_in x k ≈ᶠ point_in y k
  unfolding ◌≈ᶠ◌
  same-made g = subst₂ ◌≡◌ (cross (amount_in x k) (amount_in y k) sy) (cross (amount_in y k) (amount_in x k) sx) g

  pub alike-step : Alike x y k → ((amount_in y k).p *ℤ pos (amount_in x k).q) ≤ℤ ((amount_in x k).p *ℤ pos (amount_in y k).q)
      → ((amount_in x k).p *ℤ pos (amount_in y k).q) ≤ℤ ((amount_in y k).p *ℤ pos (amount_in x k).q) → Alike x y (k + 1)
  alike-step h f g j l = go (ℕ_discrete j k)
    where
      go : Dec (j ≡ k) → point_in x j ≈ᶠ point_in y j
      go (yes i) = rw i (same-made (≤ℤ-antisym g f))
      go (no i) = h j (omega arith)

pub alike-first : (x y : List Fraction) → Alike x y 0
alike-first x y j l = absurd (omega arith)

pub default_free : {A : Type 0} (l : List A) (k : ℕ) (d e : A) → k < length l → get_or l k d ≡ get_or l k e
default_free [] k d e h = absurd (omega arith)
default_free (x ∷ l) zero d e h = refl
default_free (x ∷ l) (suc k) d e h = default_free l k d e (omega arith)

-- ---- what does not come before

less-same : (x y : Frac) → x <ᶠ y → x ≈ᶠ y → ⊥
unfolding ◌<ᶠ◌ ◌≈ᶠ◌
less-same x y h e = go (x.num *ℤ pos y.den) (y.num *ℤ pos x.den) h e
  where
    go : (a b : ℤ) → a <ℤ b → a ≡ b → ⊥
    go = split2 _ (λ a b c e. simp zed (omega arith))

less-less : (x y : Frac) → x <ᶠ y → y <ᶠ x → ⊥
unfolding ◌<ᶠ◌
less-less x y h k = go (x.num *ℤ pos y.den) (y.num *ℤ pos x.den) h k
  where
    go : (a b : ℤ) → a <ℤ b → b <ℤ a → ⊥
    go = split2 _ (λ a b c e. simp zed (omega arith))

pub alike-not : (n : ℕ) (x y : Point) → ((j : ℕ) → j < n → x j ≈ᶠ y j) → ¬ Earlier n x y
alike-not n x y h e = less-same (x e.place) (y e.place) e.less (h e.place e.below)

pub earlier-not : (n : ℕ) (x y : Point) → Earlier n y x → ¬ Earlier n x y
earlier-not n x y f e = go (dec_lt e.place f.place) (dec_lt f.place e.place)
  where
    go : Dec (e.place < f.place) → Dec (f.place < e.place) → ⊥
    go (yes l) r = less-same (x e.place) (y e.place) e.less (≈-sym (y e.place) (x e.place) (f.same e.place l))
    go (no l) (yes m) = less-same (y f.place) (x f.place) f.less (≈-sym (x f.place) (y f.place) (e.same f.place m))
    go (no l) (no m) = let p : f.place ≡ e.place = omega arith in
        less-less (x e.place) (y e.place) e.less (subst (λ k. y k <ᶠ x k) p f.less)
