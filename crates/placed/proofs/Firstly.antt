-- Why an answer shows the first best point of its problem.
-- lower-first, -step, -found: item by item, whether every item has a lower bound.
-- prepared-closes: the box of a prepared setting, at columns in the order of Tied, is the problem with its absent bounds closed.
-- first-optimal, first-foremost: with the first point of that box an optimal answer shows the first best point.
use mathlib.Core.Path.{◌≡◌, refl, sym, ap, ◌∙◌}
use mathlib.Core.Bool.{true, false}
use mathlib.Core.Logic.{◌≢◌}
use Prim.Native.Nat.{ℕ, ◌+◌, ◌*◌, ◌≤◌, ◌<◌}
use native.Mathlib.Omega.{arith}
use native.Mathlib.Decide.{ℕ_discrete}
use lib.IntN.{ℤ, nat_abs}
use Rattle.arith.specs.Fractions.{Frac, frac, ◌≈ᶠ◌}
use Rattle.arith.specs.Limits.{farthest}
use Rattle.arith.proofs.Fractions.{≤ᶠ-trans, ≤ᶠ-antisym, ≈ᶠ-≤, ≈ᶠ-≥}
use Rattle.arith.proofs.Parts.{impossible}
use Rattle.greedy.specs.declared.Columns.{Columns}
use Rattle.greedy.specs.declared.Ends.{Ends}
use Rattle.greedy.specs.Amounts.{whole_in}
use Rattle.greedy.specs.Fill.{at, fill}
use Rattle.knapsack.specs.Items.{is_absent}
use Rattle.knapsack.specs.Meaning.{Instance, instance_of, Optimal, value, amount_at, point_of, ShownOptimal, Foremost, AllLower}
use Rattle.knapsack.specs.Ranges.{item_at}
use Rattle.knapsack.specs.declared.Answer.{Answer}
use Rattle.std.specs.Prelude.{Option, None, Some}
use Rattle.knapsack.specs.declared.Mark.{Mark}
use Rattle.knapsack.specs.declared.Mark.TheVariants.{Integer, Continuous}
use Rattle.knapsack.specs.declared.Problem.{Problem}
use Rattle.knapsack.proofs.Bridge.{Reads}
use Rattle.prepare.specs.Prepared.{PreparedAt}
use Rattle.prepare.proofs.Box.{box-is-shut}
use Rattle.prepare.proofs.Nearer.{ranges, reaches}
use Rattle.setting.specs.declared.Setting.{Setting}
use Rattle.foremost.specs.Order.{TiedOf}
use Rattle.foremost.proofs.Filling.{parts, filling}
use Rattle.foremost.proofs.First.{Closes, FirstAt, tied-closes, first-point, first-is-foremost}
use Rattle.firsts.specs.Leading.{Tying, ends_at, FirstBest}
use Rattle.firsts.specs.declared.Lead.{Lead}
use Rattle.firsts.proofs.Places.{place-choice, place-feasible}
use Rattle.firsts.proofs.Shown.{shown-over}
use Rattle.placed.specs.Placed.{Showable}
use Rattle.placed.proofs.Amounts.{ColumnsOf, near-zero, setting-marks, filling-shown}

-- ---- lower bounds

-- the items before k have a lower bound
abbrev pub LowerTo : Problem → ℕ → Type 0
LowerTo p k = (j : ℕ) → j < k → (item_at p j).lower ≢ None

pub lower-first : (p : Problem) → LowerTo p 0
lower-first p j l = absurd (omega arith)

is-there : (b : Option ℤ) → is_absent b ≡ false → b ≢ None
is-there b h e = impossible (sym h ∙ ap is_absent e)

is_none : (b : Option ℤ) → is_absent b ≡ true → b ≡ None
is_none None h = refl
is_none (Some v) h = absurd (impossible h)

pub lower-step : (p : Problem) (k : ℕ) → LowerTo p k → is_absent (item_at p k).lower ≡ false → LowerTo p (k + 1)
lower-step p k h e j l = go (ℕ_discrete j k)
  where
    go : Dec (j ≡ k) → (item_at p j).lower ≢ None
    go (yes q) = rw q (is-there (item_at p k).lower e)
    go (no q) = h j (omega arith)

pub lower-found : (p : Problem) (k : ℕ) → k < p.count → is_absent (item_at p k).lower ≡ true → ¬ AllLower (instance_of p)
lower-found p k l e h = h k l (is_none (item_at p k).lower e)

-- ---- the box of a prepared setting

pub prepared-closes : {R : ℕ → ℕ} (p : Problem) (s : Setting) → PreparedAt R p s → (c : Columns) → TiedOf s.cols c
    → Closes R (instance_of p) c s.ends (λ k. (item_at p k).mark)
prepared-closes p s q c t = tied-closes (instance_of p) s.cols c s.ends (λ k. (item_at p k).mark) t
    (record { order = q.ready.in_order; count = q.count; same = box-is-shut p s q })

-- ---- the first best point

≈-trans : (x y z : Frac) → x ≈ᶠ y → y ≈ᶠ z → x ≈ᶠ z
≈-trans x y z h k = ≤ᶠ-antisym x z (≤ᶠ-trans x y z (≈ᶠ-≤ x y h) (≈ᶠ-≤ y z k)) (≤ᶠ-trans z y x (≈ᶠ-≥ y z k) (≈ᶠ-≥ x y h))

module _ (p : Problem) (s : Setting) (P : ℕ → ℤ) (a : Answer) (h : Showable p s P a) (low : AllLower (instance_of p)) (r : Lead)
    (b : FirstBest s r) where
  abbrev I : Instance
  I = instance_of p

  abbrev c : Columns
  c = b.cols

  abbrev f : Ends
  f = ends_at s b.place

  abbrev marks : ℕ → Mark
  marks k = (item_at p k).mark

  tying : Tying s c
  tying = record { ready = h.prepared.ready; long = b.long; spanned = h.spanned; tied = b.tied }

  first-at : FirstAt I c s.ends marks f
  first-at = first-point I (ranges p h.range) (reaches p h.range) h.no-ray low c s.ends marks b.tied.tied b.tied.rated
      (prepared-closes p s h.prepared c b.tied) f (place-choice s c tying b.place b.inside marks h.prepared.marked) b.room
      (b.first marks h.prepared.marked)

  inner : (k : ℕ) → k < p.count → k < c.count
  inner k l = omega (arith, b.tied.count, h.prepared.count)

  marks-are : (k : ℕ) → k < p.count → (whole_in b.shows.whole k ≡ true → marks k ≡ Integer) × (whole_in b.shows.whole k ≡ false → marks k ≡ Continuous)
  marks-are k l = setting-marks s b.shows.whole b.shows.levelled marks h.prepared.marked k (omega (arith, h.prepared.count))

  columns_of_lem : ColumnsOf I c b.shows.whole
  columns_of_lem = record {
    count = b.tied.count ∙ h.prepared.count;
    own-weight = λ k l. ap (λ w. at w k) b.tied.weight ∙ h.prepared.weights k l;
    item-rank = b.tied.tied.item-rank;
    whole = λ k l. (marks-are k l).0;
    loose = λ k l. (marks-are k l).1;
  }

  amount-small : (k : ℕ) → k < p.count → nat_abs (filling c f k) ≤ farthest * parts c f
  amount-small k l = let i = (place-feasible s c tying b.place b.inside marks h.prepared.marked b.room).keeps k (inner k l) in
      near-zero (at s.ends.lo k) (at s.ends.hi k) (filling c f k) (parts c f) (h.prepared.ready.sized.ends.lo-in k)
      (h.prepared.ready.sized.ends.hi-in k) i.above i.below

  module _ (z : Answer) (point-is : z.point ≡ r.point) (steps-are : z.steps ≡ a.steps) (value-is : z.value ≡ a.value) where
    reads : Reads I (parts c f) (point_of z) (filling c f)
    reads k l = rw point-is (shown-over s c tying b.place b.inside b.room r.point b.shows k (inner k l))

    best : Optimal I (point_of z) × Foremost I (point_of z)
    best = first-is-foremost I c s.ends marks f first-at (point_of z) reads

    pub first-foremost : Foremost I (point_of z)
    first-foremost = best.1

    pub first-optimal : ShownOptimal I z
    first-optimal = record {
      optimal = best.0;
      shown = filling-shown I c b.shows.whole columns_of_lem f (fill c f) (parts c f) first-at.divisor (filling c f) amount-small (amount_at z)
          (λ k l. rw point-is (b.shows.amounts.counted k (inner k l)))
          (λ k l. rw point-is (b.shows.amounts.beyond k (omega (arith, b.tied.count, h.prepared.count)))) reads;
      exact = rw value-is (≈-trans (frac a.value.p a.value.q) (value I (point_of a)) (value I (point_of z)) h.shown.exact
          (≤ᶠ-antisym (value I (point_of a)) (value I (point_of z)) (best.0.highest (point_of a) h.shown.optimal.feasible)
          (h.shown.optimal.highest (point_of z) best.0.feasible)));
      divisor = rw value-is h.shown.divisor;
      lowest = rw value-is h.shown.lowest;
      still = steps-are ∙ h.shown.still;
    }
