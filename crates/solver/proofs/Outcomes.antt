-- Why each answer of the solver is true: of a problem in range, and what its preparation, its rays and its search say.
-- infeasible-corner: even the light ends do not fit.
-- unbounded-corner: they fit, and there is a ray. corner-work: what that takes.
-- optimal-found: there is no ray, and a best place was found.
-- must-find: one is found where there is a feasible point, as the light ends are if they fit (corner-feasible-at).
use mathlib.Core.Path.{◌≡◌, refl, sym, ap, ap₂, ◌∙◌, subst}
use mathlib.Core.Bool.{Bool, true, false, cond}
use mathlib.Core.List.{List}
use mathlib.Core.Logic.{◌⊎◌, inl, inr}
use Prim.Native.Nat.{ℕ, ◌*◌, ◌≤◌, ◌<◌, max}
use native.Mathlib.Omega.{arith}
use lib.Dec.{ltb, eqb}
use lib.IntN.{ℤ, pos, nat_abs, ◌+ℤ◌, ◌-ℤ◌, ◌*ℤ◌}
use lib.Signed.{◌≤ℤ◌, ◌<ℤ◌, lt_z}
use borrow.Author.Tests.{le-ltb}
use Rattle.arith.specs.Limits.{farthest}
use Rattle.arith.specs.declared.Fraction.{Fraction}
use Rattle.arith.proofs.Divisors.{lowest-den, lowest-coprime}
use Rattle.arith.proofs.Fractions.{over-total, over-≈}
use Rattle.arith.proofs.Integers.{split, split2, zed, diff-≤ℤ}
use Rattle.arith.proofs.Mixes.{over}
use Rattle.arith.proofs.Parts.{lt-le}
use Rattle.arith.proofs.Sums.{sum-cong}
use Rattle.arith.proofs.Words.{lt_yes, le-no}
use Rattle.ceiling.specs.Frames.{Levelled}
use Rattle.greedy.specs.Amounts.{divisor_in, amount_of}
use Rattle.greedy.specs.Ordered.{weight_at}
use Rattle.greedy.proofs.Owning.{fill-over}
use Rattle.greedy.specs.Fill.{numerator, at, weight_of, price_of, rank_of, lightest, light_of, corner_weight, begun, unit, solution}
use Rattle.greedy.specs.declared.Columns.{Columns}
use Rattle.greedy.specs.declared.Ends.{Ends}
use Rattle.greedy.specs.declared.Fill.{Fill}
use Rattle.foremost.specs.Order.{TiedOf}
use Rattle.knapsack.specs.Ranges.{item_at, InRange}
use Rattle.knapsack.specs.Meaning.{Instance, instance_of, amount_at, point_of, weights, prices, own_divisor, Shown, ShownOptimal, bare, Answers}
use Rattle.knapsack.specs.declared.Answer.{Answer}
use Rattle.knapsack.specs.declared.Item.{Item}
use Rattle.knapsack.specs.declared.Kind.{Kind}
use Rattle.knapsack.specs.declared.Refusal.{Refusal}
use Rattle.knapsack.specs.declared.Kind.TheVariants as kind
use Rattle.knapsack.specs.declared.Problem.{Problem}
use Rattle.knapsack.proofs.Bridge.{Reads, bridge-optimal}
use Rattle.knapsack.proofs.Reach.{NoRay}
use Rattle.knapsack.proofs.Common.{weighsᴰ, valueᴰ, Feasibleᴰ, Optimalᴰ}
use Rattle.model.proofs.Showing.{own-some, over-lowest}
use Rattle.prepare.specs.Narrowing.{span_of}
use Rattle.prepare.specs.Prepared.{PreparedAt, Prepared}
use Rattle.prepare.proofs.Box.{box, box-same, box-is-shut, box-optimal, box-empty}
use Rattle.prepare.proofs.Nearer.{near-optimal, near-empty}
use Rattle.std.specs.Prelude.{Option, Some}
use Rattle.rays.specs.Rays.{RayFound}
use Rattle.rays.proofs.Corner.{LightCorner, ranges-of, corner-feasible, corner-infeasible, corner-shown, corner-unbounded}
use Rattle.setting.specs.declared.Setting.{Setting}
use Rattle.solver.specs.Outcomes.{unfilled, Cornered, box_at, fill_at, value_at, Best, BestIn, CountsAs, Counts, CellsAs, Cells}
use Rattle.firsts.proofs.Shown.{level-fixed}
use Rattle.placed.proofs.Amounts.{ColumnsOf, near-zero, setting-marks, own_is, filling-shown}

-- no other kind is optimal
pub not-unbounded : (k : Kind) → k ≡ kind.Unbounded → k ≡ kind.Optimal → ⊥
not-unbounded k e h = let z : ◌≡◌ {A = ℕ} 0 1 = cc in omega arith

pub not-refused : (k : Kind) (f : Refusal) → k ≡ kind.Refused f → k ≡ kind.Optimal → ⊥
not-refused k f e h = let z : ◌≡◌ {A = ℕ} 0 1 = cc in omega arith

pub not-infeasible : (k : Kind) → k ≡ kind.Infeasible → k ≡ kind.Optimal → ⊥
not-infeasible k e h = let z : ◌≡◌ {A = ℕ} 0 1 = cc in omega arith

-- ---- the light end of an item

light-heavy : (a c l u : ℤ) → pos 0 <ℤ a → lightest a c l u ≡ l
light-heavy a c l u h = rw (lt_yes h)

light-light : (a c l u : ℤ) → a <ℤ pos 0 → lightest a c l u ≡ u
light-light a c l u h = rw (le-no {a = pos 0} (lt-le h), lt_yes h)

light-flat : (a c l u : ℤ) → a ≡ pos 0 → (lightest a c l u ≡ l) ⊎ (lightest a c l u ≡ u)
light-flat a c l u h = rw h (go (lt_z (pos 0) c))
  where
    go : (b : Bool) → (cond b u l ≡ l) ⊎ (cond b u l ≡ u)
    go true = inr refl
    go false = inl refl

-- columns of an instance, whatever list tells the levels of s; each live rank has its item's size
pub record OwnColumns (i : Instance) (s : Setting) (c : Columns) : Type 0 where
  pub of : (w : List Bool) → Levelled s.level s.levels w → ColumnsOf i c w
  pub sizes : (u : ℕ) → u < c.live → at c.size u ≡ pos (nat_abs (weight_at c u))

-- the columns of a prepared setting are those of its problem
setting-columns : {R : ℕ → ℕ} (p : Problem) (s : Setting) → PreparedAt R p s → (w : List Bool) → Levelled s.level s.levels w
    → ColumnsOf (instance_of p) s.cols w
setting-columns p s q w lw = record {
  count = q.count;
  own-weight = q.weights;
  item-rank = q.ready.ordered.item-rank;
  whole = λ k l. (setting-marks s w lw (λ j. (item_at p j).mark) q.marked k (omega (arith, q.count))).0;
  loose = λ k l. (setting-marks s w lw (λ j. (item_at p j).mark) q.marked k (omega (arith, q.count))).1;
}

module _ (p : Problem) (range : InRange p) (s : Setting) (q : Prepared p s) where
  abbrev I : Instance
  I = instance_of p

  abbrev c : Columns
  c = s.cols

  abbrev light : ℕ → ℤ
  light k = light_of s.cols s.ends k

  abbrev lo : ℕ → ℤ
  lo k = at s.ends.lo k

  abbrev hi : ℕ → ℤ
  hi k = at s.ends.hi k

  in-box : (k : ℕ) → k < p.count → k < s.cols.count
  in-box k l = omega (arith, q.count)

  -- ---- the light corner

  corner : LightCorner I lo hi light
  corner = record {
    lows = λ k l. sym (ap (λ (i : Item). i.lower) ((box-same p s q).items k (in-box k l)));
    highs = λ k l. sym (ap (λ (i : Item). i.upper) ((box-same p s q).items k (in-box k l)));
    ordered = λ k l. q.ready.in_order k (in-box k l);
    heavy = λ k l h. light-heavy (weight_of c k) (price_of c k) (lo k) (hi k) (rw (q.weights k l) h);
    light = λ k l h. light-light (weight_of c k) (price_of c k) (lo k) (hi k) (rw (q.weights k l) h);
    flat = λ k l h. light-flat (weight_of c k) (price_of c k) (lo k) (hi k) (q.weights k l ∙ h);
  }

  corner-weighs : corner_weight s.cols s.ends s.cols.count ≡ weighsᴰ I light
  corner-weighs = ap (corner_weight s.cols s.ends) q.count ∙ sum-cong p.count (λ k. weight_of c k *ℤ light k) (λ k. weights I k *ℤ light k)
      (λ k l. ap (λ z. z *ℤ light k) (q.weights k l))

  room-is : (begun s.cols s.ends).room ≡ p.capacity -ℤ weighsᴰ I light
  room-is = ap₂ ◌-ℤ◌ q.capacity corner-weighs

  pub infeasible-corner : (begun s.cols s.ends).room <ℤ pos 0 → Answers I (bare kind.Infeasible)
  infeasible-corner h = (corner-infeasible I (ranges-of p range) lo hi light corner (less p.capacity (weighsᴰ I light) (rw room-is at h)), refl)
    where
      less : (b w : ℤ) → (b -ℤ w) <ℤ pos 0 → b <ℤ w
      less = split2 _ (λ a b c e. simp zed (omega arith))

  corner-fits : pos 0 ≤ℤ (begun s.cols s.ends).room → weighsᴰ I light ≤ℤ p.capacity
  corner-fits h = diff-≤ℤ p.capacity (weighsᴰ I light) (rw room-is at h)

  pub corner-feasible-at : pos 0 ≤ℤ (begun s.cols s.ends).room → Feasibleᴰ I 1 light
  corner-feasible-at h = corner-feasible I (ranges-of p range) lo hi light corner (corner-fits h)

  -- ---- the corner as an answer shows it

  corner-numerator : (d k : ℕ) → numerator s.cols s.ends unfilled d k ≡ light k *ℤ pos d
  corner-numerator d k = rw (le-ltb (rank_of c k) 0 (omega arith)) (go (ltb 0 c.live) (eqb (rank_of c k) 0))
    where
      none : (x : ℤ) → x +ℤ pos 0 ≡ x
      none = split _ (λ a b. simp zed (omega arith))

      still : (x : ℤ) → x *ℤ pos 0 ≡ pos 0
      still = split _ (λ a b. simp zed (omega arith))

      go : (b t : Bool) → light k *ℤ pos d +ℤ cond b (cond t (unit (weight_of c k) *ℤ pos 0) (pos 0)) (pos 0) ≡ light k *ℤ pos d
      go false t = none _
      go true false = none _
      go true true = rw (still (unit (weight_of c k))) (none _)

  corner-amount : (d : List ℤ) (a : Answer) → Cornered s d a → (k : ℕ) → k < p.count
      → amount_at a k ≡ record { p = light k *ℤ pos (own_divisor (I.item k)); q = own_divisor (I.item k) }
  corner-amount d a h k l = h.point-is.amounts.counted k (in-box k l)
      ∙ ap (λ z. made z (divisor_in c h.point-is.whole k)) (corner-numerator (divisor_in c h.point-is.whole k) k)
      ∙ ap (λ (t : ℕ). made (light k *ℤ pos t) t)
      (own_is I c h.point-is.whole (setting-columns p s q h.point-is.whole h.point-is.levelled) k l)
    where
      made : ℤ → ℕ → Fraction
      made n t = record { p = n; q = t }

  corner-reads : (d : List ℤ) (a : Answer) → Cornered s d a → Reads I 1 (point_of a) light
  corner-reads d a h k l = rw (corner-amount d a h k l) (record { eq = once (light k) (own_divisor (I.item k)) (own-some (I.item k)) })
    where
      twice : (x : ℤ) (t : ℕ) → (x *ℤ pos t) *ℤ pos 1 ≡ x *ℤ pos t
      twice = split _ (λ a b t. simp zed (omega arith))

      once : (x : ℤ) (t : ℕ) → 1 ≤ t → (x *ℤ pos t) *ℤ pos 1 ≡ x *ℤ pos (max 1 t)
      once x t m = twice x t ∙ ap (λ (n : ℕ). x *ℤ pos n) (omega arith)

  pub unbounded-corner : (r : Option (List ℤ)) (l : List ℤ) (a : Answer) → pos 0 ≤ℤ (begun s.cols s.ends).room → RayFound p r → r ≡ Some l → Cornered s l a
      → Answers I a
  unbounded-corner r l a fits found y h = rw h.kind-is (record {
    unbounded = rw h.steps-are (corner-unbounded p r l lo hi light (point_of a) range found y corner (corner-reads l a h) (corner-fits fits));
    shown = corner-shown I (ranges-of p range) lo hi light corner (amount_at a) (corner-amount l a h)
        (λ k l. h.point-is.amounts.beyond k (omega (arith, q.count)));
    steps = rw h.steps-are (found.small l y);
    endless = h.value-is;
  })

pub corner-work : (most : ℕ) (p : Problem) (named : List Bool) (s : Setting) (d : List ℤ) (a : Answer) → Prepared p s → Cornered s d a
    → Counts most p named a 0 × Cells most p named a 0
corner-work most p named s d a q h = (
  subst (λ k. CountsAs most k p named a 0) (sym h.kind-is) (record { setting = s; prepared = q; moves = d; cornered = h; none = refl }),
  subst (λ k. CellsAs most k p named 0) (sym h.kind-is) refl,
)

-- ---- what a search says, where an absent bound is at the problem's reach

module _ (p : Problem) (range : InRange p) (s : Setting) (q : PreparedAt (span_of p) p s) where
  abbrev J : Instance
  J = instance_of p

  abbrev d : Columns
  d = s.cols

  in_near : (k : ℕ) → k < p.count → k < s.cols.count
  in_near k l = omega (arith, q.count)

  -- ---- a search finds a place, if there is a feasible point

  pub must-find : NoRay J → (N : ℕ → ℤ) → Feasibleᴰ J 1 N → (c : Columns) (f : Bool) (x : List ℤ) → BestIn s c f x → f ≡ true
  must-find none N feasible c f x g = go f refl
    where
      go : (t : Bool) → f ≡ t → f ≡ true
      go true e = e
      go false e = absurd (near-empty p range none (box-empty p s q (g.empty e (λ k. (item_at p k).mark) q.marked)) 1 N (omega arith) feasible)

  -- the setting's own columns
  pub columns_of_lem : OwnColumns J s d
  columns_of_lem = record { of = setting-columns p s q; sizes = q.ready.ordered.sizes }

  -- and tied ones
  pub tied-columns : (c : Columns) → TiedOf d c → OwnColumns J s c
  tied-columns c t = record {
    of = λ w lw. let o = setting-columns p s q w lw in record {
      count = t.count ∙ q.count;
      own-weight = λ k l. ap (λ z. at z k) t.weight ∙ q.weights k l;
      item-rank = t.tied.item-rank;
      whole = o.whole;
      loose = o.loose;
    };
    sizes = t.tied.sizes;
  }

  -- ---- a search that found a place

  module _ (c : Columns) (o : OwnColumns J s c) (b : Bool) (x : List ℤ) (g : BestIn s c b x) (y : b ≡ true) where
    abbrev e : Ends
    e = box_at s x

    abbrev f : Fill
    f = fill_at s c x

    abbrev D : ℕ
    D = (value_at s c x).parts

    abbrev N : ℕ → ℤ
    N = solution c e f

    D≥1 : 1 ≤ D
    D≥1 = omega (arith, (g.proper y).low)

    best-box : Optimalᴰ (box p s q) D N
    best-box = g.optimal y (λ k. (item_at p k).mark) q.marked

    best-value : valueᴰ J N ≡ over (value_at s c x)
    best-value = sym (box-is-shut p s q D N).1 ∙ g.value-is y (λ k. (item_at p k).mark) q.marked

    amount-small : (k : ℕ) → k < p.count → nat_abs (N k) ≤ farthest * D
    amount-small k l = near-zero (at s.ends.lo k) (at s.ends.hi k) (N k) D (q.ready.sized.ends.lo-in k) (q.ready.sized.ends.hi-in k)
        (best-box.feasible.keeps k (in_near k l)).above (best-box.feasible.keeps k (in_near k l)).below

    module _ (a : Answer) (h : Best s c x a) where
      abbrev w : List Bool
      w = h.point-is.whole

      own : ColumnsOf J c w
      own = o.of w h.point-is.levelled

      in-own : (k : ℕ) → k < p.count → k < c.count
      in-own k l = omega (arith, own.count)

      shows : (k : ℕ) → k < p.count → amount_at a k ≡ amount_of c e f (divisor_in c w k) k
      shows k l = h.point-is.amounts.counted k (in-own k l)

      reads : Reads J D (point_of a) N
      reads k l = rw (shows k l) (fill-over c e w own.item-rank o.sizes D≥1
          (λ j i. level-fixed s q.ready h.long (at x) w h.point-is.levelled j) (g.roomy y) k (in-own k l))

      shown : Shown J (amount_at a)
      shown = filling-shown J c w own e f D D≥1 N amount-small (amount_at a) shows
          (λ k l. h.point-is.amounts.beyond k (omega (arith, own.count))) reads

      pub optimal-found : NoRay J → ShownOptimal J a
      optimal-found none = record {
        optimal = bridge-optimal J D (point_of a) N D≥1 reads (near-optimal p range none D N (box-optimal p s q D N best-box));
        shown = shown;
        exact = rw h.value-is (over-≈ (over-lowest (over (value_at s c x)) D D≥1) (over-total D p.count (point_of a) N reads (prices J)) D≥1
            (sym best-value));
        divisor = rw h.value-is (lowest-den (over (value_at s c x)) D D≥1);
        lowest = rw h.value-is (lowest-coprime (over (value_at s c x)) D D≥1);
        still = h.steps-are;
      }
