-- An instance with items left out that weigh nothing and bring nothing.
--   Idle i               weight 0, price 0, bounds that do not cross
--   Drops keep s t       t has the kept items of s, moved down; the others are idle
--   Agree keep s x y     y has at each kept item's new place what x has at the old one
--   between l u          an amount within two bounds that do not cross;  between-keeps: an item allows it
--   restricted, extended a point of s at the kept items, and a point of t with an amount of each idle item within its bounds
-- keeps-≃: an item allows an amount by its value.
-- weight-same, to-feasible, from-feasible, worth-same: points that agree are feasible together and worth the same.
-- restrict-agree, extend-agree, restrict-feasible, extend-feasible: so are restricted and extended points.
use mathlib.Core.Bool.{Bool, true, false, cond}
use mathlib.Core.Path.{◌≡◌, refl, sym, ap, ◌∙◌, subst}
use Prim.Native.Nat.{ℕ, ◌<◌}
use native.Mathlib.Omega.{arith}
use lib.IntN.{ℤ, pos, ◌*ℤ◌}
use lib.Signed.{◌≤ℤ◌}
use Rattle.arith.proofs.Integers.{split, zed, ≤ℤ-reflexive, times-≤, times-≡-back}
use Rattle.arith.specs.Fractions.{Frac, int, ◌·ᶠ◌, ◌≤ᶠ◌, ◌≈ᶠ◌, total}
use Rattle.arith.specs.Sum.{Each}
use Rattle.knapsack.specs.Meaning.{Instance, Point, KeepsMark, KeepsLower, KeepsUpper, Keeps, weighs, value, Feasible}
use Rattle.knapsack.specs.Ranges.{BoundsInOrder}
use Rattle.std.specs.Prelude.{Option, None, Some}
use Rattle.knapsack.specs.declared.Item.{Item}
use Rattle.knapsack.specs.declared.Mark.{Mark}
use Rattle.knapsack.specs.declared.Mark.TheVariants.{Integer, Continuous}
use Rattle.dropping.proofs.Kept.{place, rank-strict, place-rank, at-rank, Source}
use Rattle.dropping.proofs.Sums.{◌≃◌, ≃-refl, ≃-sym, none-≃, ≤-≃, total_kept}
use Rattle.dropping.specs.Kept.{rank}

pub record Idle (i : Item) : Type 0 where
  pub weightless : i.weight ≡ pos 0
  pub worthless : i.price ≡ pos 0
  pub ordered : BoundsInOrder i.lower i.upper

pub record Drops (keep : ℕ → Bool) (s t : Instance) : Type 0 where
  pub capacity : t.capacity ≡ s.capacity
  pub count : t.count ≡ rank keep s.count
  pub moved : (k : ℕ) → k < s.count → keep k ≡ true → t.item (rank keep k) ≡ s.item k
  pub idle : (k : ℕ) → k < s.count → keep k ≡ false → Idle (s.item k)

abbrev pub Agree : (ℕ → Bool) → Instance → Point → Point → Type 0
Agree keep s x y = (k : ℕ) → k < s.count → keep k ≡ true → y (rank keep k) ≡ x k

-- ---- an amount of an idle item: its lower bound, else its upper one, else 0

abbrev pub between : Option ℤ → Option ℤ → ℤ
between (Some l) u = l
between None (Some u) = u
between None None = pos 0

whole : (m : Mark) (n : ℤ) → KeepsMark m (int n)
whole Integer n = (n, one n)
  where
    one : (n : ℤ) → n ≡ n *ℤ pos 1
    one = split _ (λ a b. simp zed (omega arith))
whole Continuous n = tt

int-≤ : (m n : ℤ) → m ≤ℤ n → int m ≤ᶠ int n
unfolding ◌≤ᶠ◌
int-≤ m n h = times-≤ 1 m n h

between-above : (l u : Option ℤ) → KeepsLower l (int (between l u))
between-above None u = tt
between-above (Some l) u = int-≤ l l (≤ℤ-reflexive refl)

between-below : (l u : Option ℤ) → BoundsInOrder l u → KeepsUpper u (int (between l u))
between-below l None h = tt
between-below None (Some u) h = int-≤ u u (≤ℤ-reflexive refl)
between-below (Some l) (Some u) h = int-≤ l u h

pub between-keeps : (i : Item) → BoundsInOrder i.lower i.upper → Keeps i (int (between i.lower i.upper))
between-keeps i h = record { marked = whole i.mark _; above = between-above i.lower i.upper; below = between-below i.lower i.upper h }

-- ---- what an item allows depends on the value alone

mark-≃ : (m : Mark) {x y : Frac} → x ≃ y → KeepsMark m x → KeepsMark m y
unfolding ◌≈ᶠ◌
mark-≃ Integer {x} {y} h (n, e) =
    (n, times-≡-back x.den y.num (n *ℤ pos y.den) x.den≥1 (sym h.same ∙ ap (λ z. z *ℤ pos y.den) e ∙ swap n x.den y.den))
  where
    swap : (p : ℤ) (s D : ℕ) → (p *ℤ pos s) *ℤ pos D ≡ (p *ℤ pos D) *ℤ pos s
    swap = split _ (λ a b s D. simp zed (omega arith))
mark-≃ Continuous h k = tt

lower-≃ : (b : Option ℤ) {x y : Frac} → x ≃ y → KeepsLower b x → KeepsLower b y
lower-≃ None h k = tt
lower-≃ (Some l) h k = ≤-≃ (≃-refl (int l)) h k

upper-≃ : (b : Option ℤ) {x y : Frac} → x ≃ y → KeepsUpper b x → KeepsUpper b y
upper-≃ None h k = tt
upper-≃ (Some u) h k = ≤-≃ h (≃-refl (int u)) k

pub keeps-≃ : (i : Item) {x y : Frac} → x ≃ y → Keeps i x → Keeps i y
keeps-≃ i h k = record { marked = mark-≃ i.mark h k.marked; above = lower-≃ i.lower h k.above; below = upper-≃ i.upper h k.below }

-- ---- points

abbrev pub restricted : (ℕ → Bool) → Instance → Point → Point
restricted keep s x j = x (place keep s.count j)

abbrev pub extended : (ℕ → Bool) → Instance → Point → Point
extended keep s y k = cond (keep k) (y (rank keep k)) (int (between (s.item k).lower (s.item k).upper))

pub restrict-agree : (keep : ℕ → Bool) (s : Instance) (x : Point) → Agree keep s x (restricted keep s x)
restrict-agree keep s x k l e = ap x (place-rank keep s.count k l e)

pub extend-agree : (keep : ℕ → Bool) (s : Instance) (y : Point) → Agree keep s (extended keep s y) y
extend-agree keep s y k l e = rw e

module _ (keep : ℕ → Bool) (s t : Instance) (d : Drops keep s t) where
  -- a figure that idle items have none of adds up to the same
  figures-same : (figure : Item → ℤ) → ((i : Item) → Idle i → figure i ≡ pos 0) → (x y : Point) → Agree keep s x y
      → total s.count (λ k. figure (s.item k) ·ᶠ x k) ≃ total t.count (λ j. figure (t.item j) ·ᶠ y j)
  figures-same figure none x y h =
      rw d.count
      (total_kept keep s.count (λ k. figure (s.item k) ·ᶠ x k) (λ j. figure (t.item j) ·ᶠ y j)
      (λ k l e. rw (d.moved k l e, h k l e) (≃-refl (figure (s.item k) ·ᶠ x k)))
      (λ k l e. rw (none (s.item k) (d.idle k l e)) (none-≃ (x k))))

  pub weight-same : (x y : Point) → Agree keep s x y → weighs s x ≃ weighs t y
  weight-same = figures-same (λ i. i.weight) (λ i o. o.weightless)

  pub worth-same : (x y : Point) → Agree keep s x y → value s x ≃ value t y
  worth-same = figures-same (λ i. i.price) (λ i o. o.worthless)

  limit-same : int s.capacity ≃ int t.capacity
  limit-same = rw d.capacity (≃-refl (int s.capacity))

  -- a point of t that agrees with a feasible one of s
  pub to-feasible : (x y : Point) → Agree keep s x y → Feasible s x → Feasible t y
  to-feasible x y h f = record {
    keeps = λ j l. at j (at-rank keep s.count j (omega (arith, d.count)));
    fits = ≤-≃ (weight-same x y h) limit-same f.fits;
  }
    where
      at : (j : ℕ) → Source keep s.count j → Keeps (t.item j) (y j)
      at j c = subst (λ i. Keeps (t.item i) (y i)) c.goes
          (rw (d.moved c.from c.from_in c.from-kept, h c.from c.from_in c.from-kept) (f.keeps c.from c.from_in))

  -- a point of s that agrees with a feasible one of t, if the idle items allow their amounts
  pub from-feasible : (x y : Point) → Agree keep s x y → Each s.count (λ k. keep k ≡ false → Keeps (s.item k) (x k)) → Feasible t y → Feasible s x
  from-feasible x y h o f = record {
    keeps = λ k l. at k l (keep k) refl;
    fits = ≤-≃ (≃-sym (weight-same x y h)) (≃-sym limit-same) f.fits;
  }
    where
      at : (k : ℕ) → k < s.count → (b : Bool) → keep k ≡ b → Keeps (s.item k) (x k)
      at k l true e = rw (← d.moved k l e, ← h k l e) (f.keeps (rank keep k) (omega (arith, d.count, rank-strict keep s.count k l e)))
      at k l false e = o k l e

  pub restrict-feasible : (x : Point) → Feasible s x → Feasible t (restricted keep s x)
  restrict-feasible x = to-feasible x (restricted keep s x) (restrict-agree keep s x)

  pub extend-feasible : (y : Point) → Feasible t y → Feasible s (extended keep s y)
  extend-feasible y = from-feasible (extended keep s y) y (extend-agree keep s y) (λ k l e. rw e (between-keeps (s.item k) (d.idle k l e).ordered))
