-- What pairs discard. Paper 01, "Least pair": a point from which r and t can be taken away within both bounds is not best; an
-- equal-value pair may only discard a point in favour of one that comes first, item by item, never both of two.
--   Removable s D N i j r t   two different items, and N / D keeps their bounds without the steps r of i and t of j
--   without D N i r j t       N / D without those steps, over D
--   ComesFirst N M f          N comes before M, item by item: equal before place f and less there
--   taken x i r j t           the point x without those steps
--   Apart ns k                no need of ns names item k;  MarkedIn named ns: the items that a need of ns names are marked
-- cost-discard: without a cost pair's steps a feasible point is feasible, and worth at least 1 more;  cost-gain: the same of points.
-- cost-not-optimal: so it was not optimal, if no need names one of the two items (paper 02, request 7). tabled-not-optimal: the table's entries are such
-- steps, whatever the needs are. Of a pair with an item that a need names nothing is claimed.
-- equal-discard: without an equal-value pair's steps it is feasible, with the same weight and value.
-- equal-first: and comes first, if the step of the first of the two items is above zero.
-- first-once: no two points come before each other.
use Rattle.std.specs.Prelude.{Some}
use mathlib.Core.Path.{◌≡◌, refl, sym, ap, ◌∙◌, subst₂}
use mathlib.Core.Bool.{Bool, true, false}
use mathlib.Core.List.{List}
use mathlib.Core.Logic.{◌≢◌}
use Prim.Native.Nat.{ℕ, ◌*◌, ◌≤◌, ◌<◌}
use native.Mathlib.Decide.{dec_lt, ℕ_discrete}
use native.Mathlib.Nat.{mul-le-mul_left}
use native.Mathlib.Omega.{arith}
use lib.IntN.{ℤ, pos, neg_ℤ, ◌+ℤ◌, ◌-ℤ◌, ◌*ℤ◌}
use lib.Signed.{◌≤ℤ◌, ◌<ℤ◌, clash_ℤ}
use Rattle.arith.specs.Fractions.{Frac, int, ◌+ᶠ◌, ◌≤ᶠ◌, ◌<ᶠ◌}
use Rattle.arith.specs.Sum.{sum, Each, pick, bump}
use Rattle.arith.proofs.Fractions.{Over, over-int, over-+, over-<, over-total, common, <ᶠ-not-≤}
use Rattle.arith.proofs.Integers.{split, split2, split3, split4, zed, ≤ℤ-reflexive}
use Rattle.arith.proofs.Parts.{impossible, lt-le}
use Rattle.arith.proofs.Sums.{bump-same, bump-other}
use Rattle.knapsack.specs.declared.Item.{Item}
use Rattle.knapsack.specs.declared.Problem.{Problem}
use Rattle.knapsack.specs.Ranges.{item_at}
use Rattle.model.specs.declared.Need.{Need}
use Rattle.model.specs.Needs.{Every, KeepsNeed, OptimalNeeds}
use Rattle.model.specs.Records.{FiguresInRange}
use Rattle.knapsack.specs.Meaning.{Instance, instance_of, Point, Keeps, weights, prices, value, Feasible, CostPair, EqualPair}
use Rattle.knapsack.proofs.Common.{Keepsᴰ, weighsᴰ, valueᴰ, Feasibleᴰ}
use Rattle.knapsack.proofs.Bridge.{over-lower, over-upper, Reads, bridge-feasible}
use Rattle.knapsack.proofs.Dual.{Within}
use Rattle.knapsack.proofs.Moves.{shift, sum-shift, keeps-shift}
use Rattle.domination.specs.Pairs.{is_named, tabled}
use Rattle.domination.proofs.Entry.{tabled-steps}

pub record Removable (s : Instance) (D : ℕ) (N : ℕ → ℤ) (i j : ℕ) (r t : ℤ) : Type 0 where
  pub first-in : i < s.count
  pub second-in : j < s.count
  pub different : j ≢ i
  pub first-within : Within D (s.item i) (N i -ℤ r *ℤ pos D)
  pub second-within : Within D (s.item j) (N j -ℤ t *ℤ pos D)

abbrev pub without : ℕ → (ℕ → ℤ) → ℕ → ℤ → ℕ → ℤ → ℕ → ℤ
without D N i r j t = shift D N i (neg_ℤ r) j (neg_ℤ t)

abbrev pub Apart : List Need → ℕ → Type 0
Apart ns k = Every (λ n. (n.item ≢ k) × (n.cover ≢ k)) ns

abbrev pub MarkedIn : List Bool → List Need → Type 0
MarkedIn named ns = Every (λ n. (is_named named n.item ≡ true) × (is_named named n.cover ≡ true)) ns

-- to take a step away is to add its opposite
away : (D : ℕ) (n r : ℤ) → n -ℤ r *ℤ pos D ≡ n +ℤ neg_ℤ r *ℤ pos D
away D = split2 _ (λ a b c e. simp zed (omega arith))

module _ (s : Instance) (D : ℕ) (N : ℕ → ℤ) (i j : ℕ) (r t : ℤ) (h : Removable s D N i j r t) where
  abbrev N' : ℕ → ℤ
  N' = without D N i r j t

  keeps-without : Each s.count (λ k. Keepsᴰ D (s.item k) (N k)) → Each s.count (λ k. Keepsᴰ D (s.item k) (N' k))
  keeps-without p = keeps-shift s D N i j (neg_ℤ r) (neg_ℤ t) h.first-in h.second-in h.different p (rw (away D (N i) r) at h.first-within)
      (rw (away D (N j) t) at h.second-within)

  -- a weighted sum falls by what the steps weigh
  sum-without : (a : ℕ → ℤ) → sum s.count (λ k. a k *ℤ N' k) ≡ sum s.count (λ k. a k *ℤ N k) -ℤ (a i *ℤ r +ℤ a j *ℤ t) *ℤ pos D
  sum-without a = sum-shift s.count D a N i j (neg_ℤ r) (neg_ℤ t) h.first-in h.second-in ∙ turned (sum s.count (λ k. a k *ℤ N k)) (a i) (a j) r t
    where
      turned : (w x y r t : ℤ) → w +ℤ (x *ℤ neg_ℤ r +ℤ y *ℤ neg_ℤ t) *ℤ pos D ≡ w -ℤ (x *ℤ r +ℤ y *ℤ t) *ℤ pos D
      turned = split _ (λ h i. split4 _ (λ a b c e f g k l. simp zed (omega arith)))

  pub cost-discard : CostPair (s.item i) (s.item j) r t → Feasibleᴰ s D N → Feasibleᴰ s D N' × ((valueᴰ s N +ℤ pos D) ≤ℤ valueᴰ s N')
  cost-discard c p = (
    record {
      keeps = keeps-without p.keeps;
      fits = rw (sum-without (weights s)) (lighter (weighsᴰ s N) (s.capacity *ℤ pos D) ((s.item i).weight *ℤ r +ℤ (s.item j).weight *ℤ t) p.fits
          c.heavy);
    },
    rw (sum-without (prices s)) (more (valueᴰ s N) ((s.item i).price *ℤ r +ℤ (s.item j).price *ℤ t) c.loss),
  )
    where
      lighter : (w b x : ℤ) → w ≤ℤ b → pos 0 ≤ℤ x → (w -ℤ x *ℤ pos D) ≤ℤ b
      lighter = split3 _ (λ a b c e f g. simp zed (λ k l. omega (arith, mul-le-mul_left D l)))

      more : (v x : ℤ) → x <ℤ pos 0 → (v +ℤ pos D) ≤ℤ (v -ℤ x *ℤ pos D)
      more = split2 _ (λ a b c e. simp zed (λ l. omega (arith, mul-le-mul_left D l)))

  pub equal-discard : EqualPair (s.item i) (s.item j) r t → Feasibleᴰ s D N → Feasibleᴰ s D N' × ((weighsᴰ s N' ≡ weighsᴰ s N) × (valueᴰ s N' ≡ valueᴰ s N))
  equal-discard c p = (record { keeps = keeps-without p.keeps; fits = rw weight p.fits }, (weight, worth))
    where
      same : (w x : ℤ) → x ≡ pos 0 → w -ℤ x *ℤ pos D ≡ w
      same = split2 _ (λ a b c e. simp zed (λ l. omega (arith, ap (λ (n : ℕ). n * D) l)))

      weight : weighsᴰ s N' ≡ weighsᴰ s N
      weight = sum-without (weights s) ∙ same (weighsᴰ s N) ((s.item i).weight *ℤ r +ℤ (s.item j).weight *ℤ t) c.level

      worth : valueᴰ s N' ≡ valueᴰ s N
      worth = sum-without (prices s) ∙ same (valueᴰ s N) ((s.item i).price *ℤ r +ℤ (s.item j).price *ℤ t) c.even

-- ---- the same of points

abbrev pub taken : Point → ℕ → ℤ → ℕ → ℤ → Point
taken x i r j t k = pick (ℕ_discrete k j) (x k +ᶠ int (neg_ℤ t)) (pick (ℕ_discrete k i) (x k +ᶠ int (neg_ℤ r)) (x k))

-- all other amounts stay
taken-other : (x : Point) (i : ℕ) (r : ℤ) (j : ℕ) (t : ℤ) (k : ℕ) → k ≢ i → k ≢ j → taken x i r j t k ≡ x k
taken-other x i r j t k p q = go (ℕ_discrete k j) (ℕ_discrete k i)
  where
    go : (d : Dec (k ≡ j)) (e : Dec (k ≡ i)) → pick d (x k +ᶠ int (neg_ℤ t)) (pick e (x k +ᶠ int (neg_ℤ r)) (x k)) ≡ x k
    go (yes e) d = absurd (q e)
    go (no n) (yes e) = absurd (p e)
    go (no n) (no m) = refl

taken-reads : (s : Instance) (D : ℕ) (x : Point) (N : ℕ → ℤ) (i j : ℕ) (r t : ℤ) → j ≢ i → Reads s D x N → Reads s D (taken x i r j t) (without D N i r j t)
unfolding bump
taken-reads s D x N i j r t ne h k l = go (ℕ_discrete k j) (ℕ_discrete k i)
  where
    go : (d : Dec (k ≡ j)) (e : Dec (k ≡ i)) → Over D (pick d (x k +ᶠ int (neg_ℤ t)) (pick e (x k +ᶠ int (neg_ℤ r)) (x k)))
        (pick d (pick e (N k +ℤ neg_ℤ r *ℤ pos D) (N k) +ℤ neg_ℤ t *ℤ pos D) (pick e (N k +ℤ neg_ℤ r *ℤ pos D) (N k)))
    go (yes e) (yes d) = absurd (ne (sym e ∙ d))
    go (yes e) (no m) = over-+ (h k l) (over-int D (neg_ℤ t))
    go (no n) (yes e) = over-+ (h k l) (over-int D (neg_ℤ r))
    go (no n) (no m) = h k l

within-over : (D : ℕ) (x : Frac) (n r : ℤ) (i : Item) → 1 ≤ D → Over D x n → Keeps i (x +ᶠ int (neg_ℤ r)) → Within D i (n -ℤ r *ℤ pos D)
within-over D x n r i d h k =
    let o = over-+ h (over-int D (neg_ℤ r)) in
    rw (away D n r) (record { above = (over-lower d o i.lower).0 k.above; below = (over-upper d o i.upper).0 k.below })

module _ (s : Instance) (x : Point) (i j : ℕ) (r t : ℤ) (l : i < s.count) (m : j < s.count) (ne : j ≢ i) (c : CostPair (s.item i) (s.item j) r t)
    (ki : Keeps (s.item i) (x i +ᶠ int (neg_ℤ r))) (kj : Keeps (s.item j) (x j +ᶠ int (neg_ℤ t))) where
  abbrev y : Point
  y = taken x i r j t

  pub cost-gain : Feasible s x → Feasible s y × (value s x <ᶠ value s y)
  cost-gain f =
      let z = common s.count x in
      let h : Removable s z.D z.N i j r t = record {
        first-in = l;
        second-in = m;
        different = ne;
        first-within = within-over z.D (x i) (z.N i) r (s.item i) z.D≥1 (z.reads i l) ki;
        second-within = within-over z.D (x j) (z.N j) t (s.item j) z.D≥1 (z.reads j m) kj;
      } in
      let g = cost-discard s z.D z.N i j r t h c ((bridge-feasible s z.D x z.N z.D≥1 z.reads).0 f) in
      let n = without z.D z.N i r j t in
      let read = taken-reads s z.D x z.N i j r t ne z.reads in (
        (bridge-feasible s z.D y n z.D≥1 read).1 g.0,
        over-< z.D≥1 (over-total z.D s.count x z.N z.reads (prices s)) (over-total z.D s.count y n read (prices s))
            (more z.D z.D≥1 (valueᴰ s z.N) (valueᴰ s n) g.1),
      )
    where
      more : (D : ℕ) → 1 ≤ D → (v w : ℤ) → (v +ℤ pos D) ≤ℤ w → v <ℤ w
      more D d = split2 _ (λ a b c e. simp zed (omega (arith, d)))

  pub cost-not-optimal : (ns : List Need) → Apart ns i → Apart ns j → ¬ OptimalNeeds s ns x
  cost-not-optimal ns p q o =
      let g = cost-gain o.feasible.plain in
      <ᶠ-not-≤ (value s x) (value s y) g.1 (o.highest y (record { plain = g.0; kept = λ n h. kept n (p n h) (q n h) (o.feasible.kept n h) }))
    where
      kept : (n : Need) → (n.item ≢ i) × (n.cover ≢ i) → (n.item ≢ j) × (n.cover ≢ j) → KeepsNeed n x → KeepsNeed n y
      kept n a b = subst₂ (λ u v. int (pos 0) <ᶠ u → int (pos 1) ≤ᶠ v) (sym (taken-other x i r j t n.item a.0 b.0))
          (sym (taken-other x i r j t n.cover a.1 b.1))

-- End theorem: an entry of the table discards, whatever needs there are whose items are marked.
pub tabled-not-optimal : (p : Problem) → FiguresInRange p → (named : List Bool) (ns : List Need) → MarkedIn named ns
    → (i j : ℕ) (r t : ℤ) → tabled p named i j ≡ Some (r, t) → (x : Point) → Keeps (item_at p i) (x i +ᶠ int (neg_ℤ r)) → Keeps (item_at p j) (x j +ᶠ int (neg_ℤ t))
    → ¬ OptimalNeeds (instance_of p) ns x
tabled-not-optimal p range named ns marks i j r t e x ki kj =
    let a = tabled-steps r t p range named i j e in
    cost-not-optimal (instance_of p) x i j r t a.first-place a.second-place (λ n. a.different (sym n)) a.pair ki kj ns
    (apart i a.first-unnamed) (apart j a.second-unnamed)
  where
    apart : (k : ℕ) → is_named named k ≡ false → Apart ns k
    apart k f n h = (λ e. impossible (sym f ∙ sym (ap (is_named named) e) ∙ (marks n h).0), λ e. impossible (sym f ∙ sym (ap (is_named named) e) ∙ (marks n h).1))

-- ---- which of two points of equal value comes first

pub record ComesFirst (N M : ℕ → ℤ) (f : ℕ) : Type 0 where
  pub before : (k : ℕ) → k < f → N k ≡ M k
  pub less : N f <ℤ M f

-- End theorem: a point without an equal-value pair's steps comes first, if the first step is above zero.
pub equal-first : (D : ℕ) (N : ℕ → ℤ) (i j : ℕ) (r t : ℤ) → 1 ≤ D → i < j → pos 0 <ℤ r → ComesFirst (without D N i r j t) N i
equal-first D N i j r t d l h = record {
  before = λ k m. later k (omega arith) ∙ bump-other N i (neg_ℤ r *ℤ pos D) k (omega arith);
  less = rw (later i (omega arith), bump-same N i (neg_ℤ r *ℤ pos D)) (falls (N i) r h);
}
  where
    later : (k : ℕ) → k ≢ j → without D N i r j t k ≡ bump N i (neg_ℤ r *ℤ pos D) k
    later k ne = bump-other (bump N i (neg_ℤ r *ℤ pos D)) j (neg_ℤ t *ℤ pos D) k ne

    falls : (n r : ℤ) → pos 0 <ℤ r → (n +ℤ neg_ℤ r *ℤ pos D) <ℤ n
    falls = split2 _ (λ a b c e. simp zed (λ l. omega (arith, mul-le-mul_left D l)))

-- End theorem: no two points come before each other.
pub first-once : (N M : ℕ → ℤ) (f g : ℕ) → ComesFirst N M f → ComesFirst M N g → ⊥
first-once N M f g p q = go (dec_lt f g) (dec_lt g f)
  where
    go : Dec (f < g) → Dec (g < f) → ⊥
    go (yes l) m = clash_ℤ p.less (≤ℤ-reflexive (q.before f l))
    go (no l) (yes m) = clash_ℤ q.less (≤ℤ-reflexive (p.before g m))
    go (no l) (no m) = let e : g ≡ f = omega arith in clash_ℤ p.less (lt-le (rw e at q.less))
