-- The relaxation of a problem with needs: items that a need names keep their marks, all others become continuous.
-- relaxed-needs: what is feasible with needs stays so.  relaxed-never-below: so the relaxed value is never below the best.
-- rounded-needs, relaxed-ray: where it has a point, or a ray, the problem has: bounds are whole, so that amounts can be rounded.
-- allowed-relaxed: allowed needs stay allowed, so that it is solved by the same cases.
-- relaxed-own, named-own (end theorems): amounts of items that no need names are shown over their weights, those of the others over 1.
-- relaxed-none (end theorem): where there are no needs every item becomes continuous.  names-item, names-cover: the items of a need are named.
--   Rounded D w n r     r / D is whole, weighs no more than n / D at weight w, and keeps every whole bound that n / D keeps
use mathlib.Core.Path.{◌≡◌, refl, sym, ap, subst, ◌∙◌}
use mathlib.Core.Bool.{Bool, true, false, cond}
use mathlib.Core.List.{List, []}
use mathlib.Core.Logic.{◌⊎◌, inl, inr}
use Prim.Native.Nat.{ℕ, ◌≤◌}
use native.Mathlib.Omega.{arith}
use native.Mathlib.Nat.{mul-le-mul_left, mul-le-mul_right}
use lib.Dec.{eqb}
use lib.IntN.{ℤ, pos, negsuc, neg_ℤ, ◌+ℤ◌, ◌*ℤ◌}
use lib.Signed.{◌≤ℤ◌, ◌<ℤ◌}
use borrow.Author.Tests.{eq-eqb}
use Rattle.arith.proofs.Integers.{split, split2, split3, zed, ≤ℤ-trans, ≤ℤ-reflexive, ≤ℤ-or-<, times-≤}
use Rattle.arith.proofs.Rounding.{floor-is}
use Rattle.arith.proofs.Sums.{sum_mono}
use Rattle.arith.specs.Division.{floor_div}
use Rattle.arith.specs.Fractions.{Frac, frac, ◌≤ᶠ◌}
use Rattle.arith.proofs.Fractions.{Common, common}
use Rattle.knapsack.proofs.Common.{KeepsMarkᴰ, KeepsLowerᴰ, KeepsUpperᴰ}
use Rattle.knapsack.proofs.Rays.{ray-unbounded, unbounded-ray}
use Rattle.knapsack.specs.Meaning.{Instance, Point, KeepsMark, Unbounded, weights, value, relaxed, weight_divisor, divisor_by, own_divisor}
use Rattle.std.specs.Prelude.{Option, None, Some}
use Rattle.knapsack.specs.declared.Mark.{Mark}
use Rattle.knapsack.specs.declared.Mark.TheVariants.{Integer, Continuous}
use Rattle.model.specs.Needs.{In, here, there, Every, Named, Allowed, Inside, names, loosened, relaxed_but, FeasibleNeeds, OptimalNeeds, UnboundedNeeds}
use Rattle.model.specs.declared.Need.{Need}
use Rattle.cases.proofs.Endless.{unbounded-needs}
use Rattle.cases.proofs.Needs.{FeasibleNeedsᴰ, needs-agree}
use Rattle.cases.proofs.Points.{inside-allowed, bridge-needs, fractions}

-- ---- the items of a need are named

first : (a b c : Bool) → a ≡ true → cond a true (cond b true c) ≡ true
first a b c e = subst (λ t. cond t true (cond b true c) ≡ true) (sym e) refl

second : (a b c : Bool) → b ≡ true → cond a true (cond b true c) ≡ true
second true b c e = refl
second false b c e = subst (λ t. cond t true c ≡ true) (sym e) refl

third : (a b c : Bool) → c ≡ true → cond a true (cond b true c) ≡ true
third true b c e = refl
third false true c e = refl
third false false c e = e

pub names-item : {n : Need} {ns : List Need} → In n ns → names ns n.item ≡ true
names-item {n} (here {ns = ns}) = first (eqb n.item n.item) (eqb n.cover n.item) (names ns n.item) (eq-eqb n.item n.item refl)
names-item {n} (there {m = m} {ns = ns} i) = third (eqb m.item n.item) (eqb m.cover n.item) (names ns n.item) (names-item i)

pub names-cover : {n : Need} {ns : List Need} → In n ns → names ns n.cover ≡ true
names-cover {n} (here {ns = ns}) = second (eqb n.item n.cover) (eqb n.cover n.cover) (names ns n.cover) (eq-eqb n.cover n.cover refl)
names-cover {n} (there {m = m} {ns = ns} i) = third (eqb m.item n.cover) (eqb m.cover n.cover) (names ns n.cover) (names-cover i)

-- ---- feasible points

loosened-keeps : (b : Bool) (m : Mark) (x : Frac) → KeepsMark m x → KeepsMark (loosened b m) x
loosened-keeps true m x h = h
loosened-keeps false m x h = tt

pub relaxed-needs : (s : Instance) (ms ns : List Need) (x : Point) → FeasibleNeeds s ns x → FeasibleNeeds (relaxed_but ms s) ns x
relaxed-needs s ms ns x p = record {
  plain = record {
    keeps = λ k l. record {
      marked = loosened-keeps (names ms k) (s.item k).mark (x k) (p.plain.keeps k l).marked;
      above = (p.plain.keeps k l).above;
      below = (p.plain.keeps k l).below;
    };
    fits = p.plain.fits;
  };
  kept = p.kept;
}

pub relaxed-never-below : (s : Instance) (ns : List Need) (x y : Point) → OptimalNeeds s ns x → OptimalNeeds (relaxed_but ns s) ns y → value s x ≤ᶠ value s y
relaxed-never-below s ns x y o p = p.highest x (relaxed-needs s ns ns x o.feasible)

-- ---- its cases

named-relaxed : (s : Instance) (ns : List Need) (k : ℕ) → names ns k ≡ true → Named s k → Named (relaxed_but ns s) k
named-relaxed s ns k e n = record {
  inside = n.inside;
  whole = subst (λ b. loosened b (s.item k).mark ≡ Integer) (sym e) n.whole;
  above = n.above;
  below = n.below;
}

pub allowed-relaxed : (s : Instance) (ns : List Need) → Every (Allowed s) ns → Every (Allowed (relaxed_but ns s)) ns
allowed-relaxed s ns a n i = record {
  item = named-relaxed s ns n.item (names-item i) (a n i).item;
  cover = named-relaxed s ns n.cover (names-cover i) (a n i).cover;
}

pub relaxed-none : (s : Instance) → relaxed_but [] s ≡ relaxed s
relaxed-none s = refl

-- ---- what its amounts are shown over

pub relaxed-own : (s : Instance) (ns : List Need) (k : ℕ) → names ns k ≡ false → own_divisor ((relaxed_but ns s).item k) ≡ weight_divisor (weights s k)
relaxed-own s ns k e = subst (λ b. divisor_by (loosened b (s.item k).mark) (weights s k) ≡ weight_divisor (weights s k)) (sym e) refl

pub named-own : (s : Instance) (ns : List Need) (k : ℕ) → names ns k ≡ true → Named s k → own_divisor ((relaxed_but ns s).item k) ≡ 1
named-own s ns k e n = subst (λ m. divisor_by m (weights s k) ≡ 1) (sym (named-relaxed s ns k e n).whole) refl

-- ---- where it has a point the problem has, and where it has a ray

-- r / D is whole, weighs no more than n / D at weight w, and keeps every whole bound that n / D keeps
record Rounded (D : ℕ) (w n r : ℤ) : Type 0 where
  whole : (m : ℤ) × (r ≡ m *ℤ pos D)
  light : (w *ℤ r) ≤ℤ (w *ℤ n)
  above : (l : ℤ) → (l *ℤ pos D) ≤ℤ n → (l *ℤ pos D) ≤ℤ r
  below : (u : ℤ) → n ≤ℤ (u *ℤ pos D) → r ≤ℤ (u *ℤ pos D)

module _ (D : ℕ) (d : 1 ≤ D) where
  some-parts : pos D ≡ pos 0 → ⊥
  some-parts = simp zed (λ e. omega (arith, e))

  more_parts : pos 0 <ℤ pos D
  more_parts = simp zed (omega arith)

  -- what is whole and at most n / D is at most its floor
  floor-above : (n q l : ℤ) → n <ℤ (pos D *ℤ q +ℤ pos D) → (l *ℤ pos D) ≤ℤ n → (l *ℤ pos D) ≤ℤ (q *ℤ pos D)
  floor-above n q l h k = go (≤ℤ-or-< l q)
    where
      clash : (n q l : ℤ) → n <ℤ (pos D *ℤ q +ℤ pos D) → (l *ℤ pos D) ≤ℤ n → q <ℤ l → ⊥
      clash = split3 _ (λ a b c e f g. simp zed (λ h k m. omega (arith, mul-le-mul_right D m)))

      go : (l ≤ℤ q) ⊎ (q <ℤ l) → (l *ℤ pos D) ≤ℤ (q *ℤ pos D)
      go (inl m) = times-≤ D l q m
      go (inr m) = absurd (clash n q l h k m)

  down : (w n : ℤ) → pos 0 ≤ℤ w → (r : ℤ) × Rounded D w n r
  down w n h = let q = floor_div n (pos D) in let f = (floor-is n (pos D) some-parts).positive more_parts in (
    q *ℤ pos D,
    record {
      whole = (q, refl);
      light = lighter w n (q *ℤ pos D) h (≤ℤ-trans (turn q) f.0);
      above = λ l k. floor-above n q l f.1 k;
      below = λ u k. ≤ℤ-trans (≤ℤ-trans (turn q) f.0) k;
    },
  )
    where
      turn : (q : ℤ) → (q *ℤ pos D) ≤ℤ (pos D *ℤ q)
      turn = split _ (λ a b. simp zed (omega arith))

      lighter : (w n r : ℤ) → pos 0 ≤ℤ w → r ≤ℤ n → (w *ℤ r) ≤ℤ (w *ℤ n)
      lighter (pos w) n r h k = go n r k
        where
          go : (n r : ℤ) → r ≤ℤ n → (pos w *ℤ r) ≤ℤ (pos w *ℤ n)
          go = split2 _ (λ a b c e. simp zed (λ k. omega (arith, mul-le-mul_left w k)))
      lighter (negsuc w) n r h k = absurd h.le

  -- the other way round
  up : (w n : ℤ) → w ≤ℤ pos 0 → (r : ℤ) × Rounded D w n r
  up w n h = let x = down (neg_ℤ w) (neg_ℤ n) (nonneg w h) in (
    neg_ℤ x.0,
    record {
      whole = (neg_ℤ x.1.whole.0, ap neg_ℤ x.1.whole.1 ∙ turn x.1.whole.0);
      light = flip w n x.0 x.1.light;
      above = λ l k. over l x.0 (x.1.below (neg_ℤ l) (back l n k));
      below = λ u k. under u x.0 (x.1.above (neg_ℤ u) (forth u n k));
    },
  )
    where
      nonneg : (w : ℤ) → w ≤ℤ pos 0 → pos 0 ≤ℤ neg_ℤ w
      nonneg = split _ (λ a b. simp zed (omega arith))

      turn : (m : ℤ) → neg_ℤ (m *ℤ pos D) ≡ neg_ℤ m *ℤ pos D
      turn = split _ (λ a b. simp zed (omega arith))

      flip : (w n r : ℤ) → (neg_ℤ w *ℤ r) ≤ℤ (neg_ℤ w *ℤ neg_ℤ n) → (w *ℤ neg_ℤ r) ≤ℤ (w *ℤ n)
      flip = split3 _ (λ a b c e f g. simp zed (omega arith))

      back : (l n : ℤ) → (l *ℤ pos D) ≤ℤ n → neg_ℤ n ≤ℤ (neg_ℤ l *ℤ pos D)
      back = split2 _ (λ a b c e. simp zed (omega arith))

      forth : (u n : ℤ) → n ≤ℤ (u *ℤ pos D) → (neg_ℤ u *ℤ pos D) ≤ℤ neg_ℤ n
      forth = split2 _ (λ a b c e. simp zed (omega arith))

      over : (l r : ℤ) → r ≤ℤ (neg_ℤ l *ℤ pos D) → (l *ℤ pos D) ≤ℤ neg_ℤ r
      over = split2 _ (λ a b c e. simp zed (omega arith))

      under : (u r : ℤ) → (neg_ℤ u *ℤ pos D) ≤ℤ r → neg_ℤ r ≤ℤ (u *ℤ pos D)
      under = split2 _ (λ a b c e. simp zed (omega arith))

  rounded : (w n : ℤ) → (r : ℤ) × Rounded D w n r
  rounded w n = go (≤ℤ-or-< (pos 0) w)
    where
      weak : (w : ℤ) → w <ℤ pos 0 → w ≤ℤ pos 0
      weak = split _ (λ a b. simp zed (omega arith))

      go : (pos 0 ≤ℤ w) ⊎ (w <ℤ pos 0) → (r : ℤ) × Rounded D w n r
      go (inl h) = down w n h
      go (inr h) = up w n (weak w h)

  -- an integer item that is not named is rounded, any other stays
  abbrev settled : Bool → Mark → ℤ → ℤ → ℤ
  settled true m w n = n
  settled false Continuous w n = n
  settled false Integer w n = (rounded w n).0

  settled-mark : (b : Bool) (m : Mark) (w n : ℤ) → KeepsMarkᴰ D (loosened b m) n → KeepsMarkᴰ D m (settled b m w n)
  settled-mark true m w n h = h
  settled-mark false Continuous w n h = tt
  settled-mark false Integer w n h = (rounded w n).1.whole

  settled-light : (b : Bool) (m : Mark) (w n : ℤ) → (w *ℤ settled b m w n) ≤ℤ (w *ℤ n)
  settled-light true m w n = ≤ℤ-reflexive refl
  settled-light false Continuous w n = ≤ℤ-reflexive refl
  settled-light false Integer w n = (rounded w n).1.light

  settled-above : (b : Bool) (m : Mark) (w n : ℤ) (l : Option ℤ) → KeepsLowerᴰ D l n → KeepsLowerᴰ D l (settled b m w n)
  settled-above b m w n None h = tt
  settled-above true m w n (Some l) h = h
  settled-above false Continuous w n (Some l) h = h
  settled-above false Integer w n (Some l) h = (rounded w n).1.above l h

  settled-below : (b : Bool) (m : Mark) (w n : ℤ) (u : Option ℤ) → KeepsUpperᴰ D u n → KeepsUpperᴰ D u (settled b m w n)
  settled-below b m w n None h = tt
  settled-below true m w n (Some u) h = h
  settled-below false Continuous w n (Some u) h = h
  settled-below false Integer w n (Some u) h = (rounded w n).1.below u h

  settled_same : (b : Bool) (m : Mark) (w n : ℤ) → b ≡ true → n ≡ settled b m w n
  settled_same b m w n e = subst (λ c. n ≡ settled c m w n) (sym e) refl

  pub relaxed-rounded : (s : Instance) (ns : List Need) (N : ℕ → ℤ) → FeasibleNeedsᴰ (relaxed_but ns s) ns D N → (M : ℕ → ℤ) × FeasibleNeedsᴰ s ns D M
  relaxed-rounded s ns N p = (
    M,
    record {
      plain = record {
        keeps = λ k l. record {
          marked = settled-mark (names ns k) (s.item k).mark (weights s k) (N k) (p.plain.keeps k l).marked;
          above = settled-above (names ns k) (s.item k).mark (weights s k) (N k) (s.item k).lower (p.plain.keeps k l).above;
          below = settled-below (names ns k) (s.item k).mark (weights s k) (N k) (s.item k).upper (p.plain.keeps k l).below;
        };
        fits = ≤ℤ-trans (sum_mono s.count (λ k. weights s k *ℤ M k) (λ k. weights s k *ℤ N k)
            (λ k l. settled-light (names ns k) (s.item k).mark (weights s k) (N k))) p.plain.fits;
      };
      kept = needs-agree D N M ns (λ n i. (stays n.item (names-item i), stays n.cover (names-cover i))) p.kept;
    },
  )
    where
      M : ℕ → ℤ
      M k = settled (names ns k) (s.item k).mark (weights s k) (N k)

      stays : (k : ℕ) → names ns k ≡ true → N k ≡ M k
      stays k e = settled_same (names ns k) (s.item k).mark (weights s k) (N k) e

-- so the problem has a point where the relaxation has
pub rounded-needs : (s : Instance) (ns : List Need) → Every (Inside s) ns → (y : Point) → FeasibleNeeds (relaxed_but ns s) ns y
    → (x : Point) × FeasibleNeeds s ns x
rounded-needs s ns inside y p = go (common s.count y)
  where
    go : Common s.count y → (x : Point) × FeasibleNeeds s ns x
    go c =
        let r = relaxed-rounded c.D c.D≥1 s ns c.N ((bridge-needs (relaxed_but ns s) ns inside c.D y c.N c.D≥1 c.reads).0 p) in
        let x : Point = λ k. frac (r.0 k) c.D in
        (x, (bridge-needs s ns inside c.D x r.0 c.D≥1 (fractions s c.D r.0 c.D≥1)).1 r.1)

-- and steps that are unbounded in it are so in the problem
pub relaxed-ray : (s : Instance) (ns : List Need) → Every (Allowed s) ns → (y : Point) (d : ℕ → ℤ) → UnboundedNeeds (relaxed_but ns s) ns y d
    → (x : Point) × UnboundedNeeds s ns x d
relaxed-ray s ns a y d u =
    let v = u.plain in
    let r = unbounded-ray (relaxed_but ns s) y d v in
    let p = rounded-needs s ns (inside-allowed s ns a) y u.from in
    let w : Unbounded s p.0 d = ray-unbounded s p.0 d v.i v.j v.i-in v.j-in v.i-moves v.j-moves v.others
    (record { up = r.up; down = r.down; light = r.light; gain = r.gain }) p.1.plain in
    (p.0, unbounded-needs s p.0 d w ns a p.1)
