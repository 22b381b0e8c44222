-- Unbounded with needs: the steps never move an item that a need may name, so they run on from every point that keeps the needs.
--   Still d n            the steps d do not move the items of the need n
--   worthless s          s at price 0
-- unbounded-still: an item with both bounds is not moved.  still-keeps: so needs stay kept.  unbounded-needs: and the steps are unbounded with needs.
-- passes, unbounded-passes: along the steps the value passes every number.
-- needs-priced, allowed-priced: prices play no part in what is feasible with needs, nor in what a need may name.
use mathlib.Core.Path.{◌≡◌, sym, ap, subst, ◌∙◌}
use mathlib.Core.List.{List}
use mathlib.Core.Logic.{◌⊎◌, inl, inr, ◌↔◌}
use Prim.Native.Nat.{ℕ, ◌*◌, ◌≤◌}
use native.Mathlib.Omega.{arith}
use native.Mathlib.Nat.{mul-le-mul, mul-le-mul_left}
use lib.IntN.{ℤ, pos, ◌+ℤ◌, ◌*ℤ◌}
use lib.Signed.{◌≤ℤ◌, ◌<ℤ◌}
use Rattle.arith.proofs.Fractions.{Over, over-<, over-own, over-scale, over-total, Common, common}
use Rattle.arith.proofs.Integers.{split, split3, zed, ≤ℤ-or-<, ≤ℤ-antisym}
use Rattle.arith.specs.Fractions.{Frac, ◌<ᶠ◌}
use Rattle.knapsack.proofs.Climb.{gap}
use Rattle.knapsack.proofs.Common.{valueᴰ}
use Rattle.knapsack.proofs.Rays.{steppedᴰ, over-stepped, sum-stepped, Ray, unbounded-ray}
use Rattle.knapsack.specs.Meaning.{Instance, Point, Keeps, value, prices, stepped, Unbounded}
use Rattle.knapsack.specs.declared.Item.{Item}
use Rattle.foremost.proofs.Foremost.{priced_item, priced}
use Rattle.model.specs.Needs.{Every, KeepsNeeds, FeasibleNeeds, UnboundedNeeds, NotNegative, Present, Named, Allowed}
use Rattle.model.specs.declared.Need.{Need}
use Rattle.cases.proofs.Needs.{KeepsNeedsᴰ, needs-agree}
use Rattle.cases.proofs.Points.{inside-allowed, bridge-need}

-- ---- steps

abbrev pub Still : (ℕ → ℤ) → Need → Type 0
Still d n = (d n.item ≡ pos 0) × (d n.cover ≡ pos 0)

pub still-keeps : (d : ℕ → ℤ) (ns : List Need) → Every (Still d) ns → (D : ℕ) (N : ℕ → ℤ) (t : ℕ) → KeepsNeedsᴰ D ns N → KeepsNeedsᴰ D ns (steppedᴰ D N d t)
still-keeps d ns still D N t h = needs-agree D N (steppedᴰ D N d t) ns
    (λ n i. (there (N n.item) (d n.item) (still n i).0, there (N n.cover) (d n.cover) (still n i).1)) h
  where
    there : (x y : ℤ) → y ≡ pos 0 → x ≡ x +ℤ (pos t *ℤ y) *ℤ pos D
    there x y e = go x ∙ ap (λ z. x +ℤ (pos t *ℤ z) *ℤ pos D) (sym e)
      where
        go : (x : ℤ) → x ≡ x +ℤ (pos t *ℤ pos 0) *ℤ pos D
        go = split _ (λ a b. simp zed (omega arith))

module _ (s : Instance) (x : Point) (d : ℕ → ℤ) (u : Unbounded s x d) where
  pub unbounded-still : (k : ℕ) → Named s k → d k ≡ pos 0
  unbounded-still k n = ≤ℤ-antisym (low (≤ℤ-or-< (d k) (pos 0))) (high (≤ℤ-or-< (pos 0) (d k)))
    where
      r : Ray s d
      r = unbounded-ray s x d u

      low : (d k ≤ℤ pos 0) ⊎ (pos 0 <ℤ d k) → d k ≤ℤ pos 0
      low (inl h) = h
      low (inr h) = absurd (subst Present (r.up k n.inside h) n.below)

      high : (pos 0 ≤ℤ d k) ⊎ (d k <ℤ pos 0) → pos 0 ≤ℤ d k
      high (inl h) = h
      high (inr h) = absurd (subst NotNegative (r.down k n.inside h) n.above)

  -- so steps that are unbounded are so with needs, from every point that keeps them
  pub unbounded-needs : (ns : List Need) → Every (Allowed s) ns → FeasibleNeeds s ns x → UnboundedNeeds s ns x d
  unbounded-needs ns a p = record { plain = u; from = p; stays = λ t. record { plain = u.stays t; kept = kept t (common s.count x) } }
    where
      still : Every (Still d) ns
      still n i = (unbounded-still n.item (a n i).item, unbounded-still n.cover (a n i).cover)

      kept : (t : ℕ) → Common s.count x → KeepsNeeds ns (stepped x d t)
      kept t c n i = (bridge-need s c.D (stepped x d t) (steppedᴰ c.D c.N d t) c.D≥1 (over-stepped s c.D x c.N d t c.reads) n
          (inside-allowed s ns a n i)).1
          (still-keeps d ns still c.D c.N t (λ m j. (bridge-need s c.D x c.N c.D≥1 c.reads m (inside-allowed s ns a m j)).0 (p.kept m j)) n i)

-- ---- along the steps the value passes every number

pub passes : (s : Instance) (x : Point) (d : ℕ → ℤ) → Ray s d → (v : Frac) → (t : ℕ) × (v <ᶠ value s (stepped x d t))
passes s x d r v = go (common s.count x)
  where
    -- t steps are enough if t is at least what is missing
    enough : (D E t : ℕ) → 1 ≤ D → 1 ≤ E → (n g u : ℤ) → pos 0 <ℤ g → (u +ℤ pos 1) ≤ℤ (n *ℤ pos E +ℤ pos t) → u <ℤ ((n +ℤ pos (t * D) *ℤ g) *ℤ pos E)
    enough D E t d e = split3 _ (λ a b c f h i. simp zed (λ k l. omega (arith, mul-le-mul_left (t * D * E) k, mul-le-mul_left t (mul-le-mul d e))))

    worth : (c : Common s.count x) (t : ℕ) → Over c.D (value s (stepped x d t)) (valueᴰ s c.N +ℤ pos (t * c.D) *ℤ valueᴰ s d)
    worth c t = rw (sum-stepped s.count c.D (prices s) c.N d t) at
        (over-total c.D s.count (stepped x d t) (steppedᴰ c.D c.N d t) (over-stepped s c.D x c.N d t c.reads) (prices s))

    go : Common s.count x → (t : ℕ) × (v <ᶠ value s (stepped x d t))
    go c =
        let g = gap (v.num *ℤ pos c.D +ℤ pos 1) (valueᴰ s c.N *ℤ pos v.den) in (
          g.0,
          over-< (mul-le-mul c.D≥1 v.den≥1) (over-own c.D v) (over-scale v.den (worth c g.0))
              (enough c.D v.den g.0 c.D≥1 v.den≥1 (valueᴰ s c.N) (valueᴰ s d) (v.num *ℤ pos c.D) r.gain g.1),
        )

pub unbounded-passes : (s : Instance) (ns : List Need) (x : Point) (d : ℕ → ℤ) → UnboundedNeeds s ns x d → (v : Frac)
    → (y : Point) × FeasibleNeeds s ns y × (v <ᶠ value s y)
unbounded-passes s ns x d u v = let z = passes s x d (unbounded-ray s x d u.plain) v in (stepped x d z.0, u.stays z.0, z.1)

-- ---- other prices

-- prices play no part in what is feasible
pub needs-priced : (s : Instance) (ns : List Need) (p : ℕ → ℤ) (x : Point) → FeasibleNeeds s ns x ↔ FeasibleNeeds (priced s p) ns x
needs-priced s ns p x = (
  λ f. record { plain = record { keeps = λ k l. kept-as (f.plain.keeps k l); fits = f.plain.fits }; kept = f.kept },
  λ f. record { plain = record { keeps = λ k l. kept_of (f.plain.keeps k l); fits = f.plain.fits }; kept = f.kept },
)
  where
    kept-as : {i : Item} {q : ℤ} {y : Frac} → Keeps i y → Keeps (priced_item i q) y
    kept-as h = record { marked = h.marked; above = h.above; below = h.below }

    kept_of : {i : Item} {q : ℤ} {y : Frac} → Keeps (priced_item i q) y → Keeps i y
    kept_of h = record { marked = h.marked; above = h.above; below = h.below }

pub allowed-priced : (s : Instance) (p : ℕ → ℤ) (ns : List Need) → Every (Allowed s) ns → Every (Allowed (priced s p)) ns
allowed-priced s p ns a n i = record {
  item = record { inside = (a n i).item.inside; whole = (a n i).item.whole; above = (a n i).item.above; below = (a n i).item.below };
  cover = record { inside = (a n i).cover.inside; whole = (a n i).cover.whole; above = (a n i).cover.above; below = (a n i).cover.below };
}

abbrev pub worthless : Instance → Instance
worthless s = priced s (λ k. pos 0)
