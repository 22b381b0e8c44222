-- The demands in their own words (specs/Demands), for every true answer.
--   Rounded w n D     n / D rounded to a whole number that weighs no more
--   Says s k          what holds of s where the kind k is told
-- rounded-feasible: a feasible point of the relaxation rounds to one of the problem, so the two are feasible together;
-- relaxed-unbounded: and unbounded together. says-once: at most one kind is true. demands: all of them.
use mathlib.Core.Path.{◌≡◌, refl, sym, ap, ◌∙◌, subst}
use mathlib.Core.Logic.{◌⊎◌, inl, inr}
use Prim.Native.Nat.{ℕ, suc, ◌≤◌}
use native.Mathlib.Omega.{arith}
use native.Mathlib.Nat.{mul-le-mul_left}
use lib.IntN.{ℤ, pos, negsuc, neg_ℤ, ◌*ℤ◌}
use lib.Signed.{◌≤ℤ◌, ◌<ℤ◌}
use Rattle.arith.proofs.Fractions.{over-int, common, ≤ᶠ-trans, ≤ᶠ-antisym, <ᶠ-not-≤, ≈ᶠ-≤, ≈ᶠ-≥}
use Rattle.arith.proofs.Integers.{split, split2, split3, zed, ≤ℤ-trans, times-≤-back}
use Rattle.arith.proofs.Lowest.{same-fraction}
use Rattle.arith.proofs.Rounding.{floor-is, floor-most}
use Rattle.arith.proofs.Sums.{sum_mono, sum-times}
use Rattle.arith.specs.Division.{floor_div}
use Rattle.arith.specs.Fractions.{int, ◌≤ᶠ◌}
use Rattle.arith.specs.Sum.{sum}
use Rattle.knapsack.proofs.Bridge.{bridge-feasible}
use Rattle.knapsack.proofs.Common.{KeepsMarkᴰ, KeepsLowerᴰ, KeepsUpperᴰ, weighsᴰ, Feasibleᴰ}
use Rattle.knapsack.proofs.Rays.{Ray, ray-unbounded, unbounded-ray, ray-endless}
use Rattle.knapsack.specs.Demands.{HasOptimal, HasRay, Endless, shown_value, Demands}
use Rattle.knapsack.specs.Meaning.{Instance, Point, weights, value, Feasible, Infeasible, relaxed}
use Rattle.knapsack.specs.Meaning.{point_of, steps_of, ShownOptimal, AnswersAs, Answers}
use Rattle.knapsack.specs.declared.Answer.{Answer}
use Rattle.std.specs.Prelude.{Option, None, Some}
use Rattle.knapsack.specs.declared.Kind.{Kind}
use Rattle.knapsack.specs.declared.Kind.TheVariants as kind
use Rattle.knapsack.specs.declared.Mark.{Mark}
use Rattle.knapsack.specs.declared.Mark.TheVariants.{Integer, Continuous}

-- ---- rounding towards the lighter side

-- m is n / D, rounded so that it weighs no more and passes no whole bound
record Rounded (w n : ℤ) (D : ℕ) : Type 0 where
  m : ℤ
  lighter : (w *ℤ (m *ℤ pos D)) ≤ℤ (w *ℤ n)
  above : (l : ℤ) → (l *ℤ pos D) ≤ℤ n → l ≤ℤ m
  below : (u : ℤ) → n ≤ℤ (u *ℤ pos D) → m ≤ℤ u

module _ (D : ℕ) (D≥1 : 1 ≤ D) where
  nonzero : pos D ≡ pos 0 → ⊥
  nonzero = simp zed (omega arith)

  above_zero : pos 0 <ℤ pos D
  above_zero = simp zed (omega arith)

  flip : (x y : ℤ) → x *ℤ y ≡ y *ℤ x
  flip = split2 _ (λ a b c e. simp zed (omega arith))

  under : (n : ℤ) → (floor_div n (pos D) *ℤ pos D) ≤ℤ n
  under n = subst (λ z. z ≤ℤ n) (flip (pos D) (floor_div n (pos D))) ((floor-is n (pos D) nonzero).positive above_zero).0

  most : (n l : ℤ) → (l *ℤ pos D) ≤ℤ n → l ≤ℤ floor_div n (pos D)
  most n l h = floor-most n (pos D) l above_zero (subst (λ z. z ≤ℤ n) (flip l (pos D)) h)

  rounded : (w n : ℤ) → Rounded w n D
  rounded (pos k) n = record {
    m = floor_div n (pos D);
    lighter = times k _ n (under n);
    above = most n;
    below = λ u h. times-≤-back D (floor_div n (pos D)) u D≥1 (≤ℤ-trans (under n) h);
  }
    where
      times : (k : ℕ) (x y : ℤ) → x ≤ℤ y → (pos k *ℤ x) ≤ℤ (pos k *ℤ y)
      times k = split2 _ (λ a b c e. simp zed (λ h. omega (arith, mul-le-mul_left k h)))
  rounded (negsuc k) n = up (floor_div (neg_ℤ n) (pos D)) (under (neg_ℤ n)) (most (neg_ℤ n))
    where
      times : (k : ℕ) (x y : ℤ) → x ≤ℤ y → (negsuc k *ℤ y) ≤ℤ (negsuc k *ℤ x)
      times k = split2 _ (λ a b c e. simp zed (λ h. omega (arith, mul-le-mul_left (suc k) h)))

      turn : (n f : ℤ) → (f *ℤ pos D) ≤ℤ neg_ℤ n → n ≤ℤ (neg_ℤ f *ℤ pos D)
      turn = split2 _ (λ a b c e. simp zed (omega arith))

      reach : (l n f : ℤ) → (f *ℤ pos D) ≤ℤ neg_ℤ n → (l *ℤ pos D) ≤ℤ n → (l *ℤ pos D) ≤ℤ (neg_ℤ f *ℤ pos D)
      reach = split3 _ (λ a b c e f g. simp zed (omega arith))

      mirror : (u n : ℤ) → n ≤ℤ (u *ℤ pos D) → (neg_ℤ u *ℤ pos D) ≤ℤ neg_ℤ n
      mirror = split2 _ (λ a b c e. simp zed (omega arith))

      over : (u f : ℤ) → neg_ℤ u ≤ℤ f → neg_ℤ f ≤ℤ u
      over = split2 _ (λ a b c e. simp zed (omega arith))

      up : (f : ℤ) → (f *ℤ pos D) ≤ℤ neg_ℤ n → ((l : ℤ) → (l *ℤ pos D) ≤ℤ neg_ℤ n → l ≤ℤ f) → Rounded (negsuc k) n D
      up f h g = record {
        m = neg_ℤ f;
        lighter = times k n (neg_ℤ f *ℤ pos D) (turn n f h);
        above = λ l e. times-≤-back D l (neg_ℤ f) D≥1 (reach l n f h e);
        below = λ u e. over u f (g (neg_ℤ u) (mirror u n e));
      }

-- ---- a problem and its relaxation are feasible together

pub relaxed-feasible : (s : Instance) (x : Point) → Feasible s x → Feasible (relaxed s) x
relaxed-feasible s x f = record { keeps = λ k h. record { marked = tt; above = (f.keeps k h).above; below = (f.keeps k h).below }; fits = f.fits }

module _ (s : Instance) (D : ℕ) (D≥1 : 1 ≤ D) (N : ℕ → ℤ) (r : (k : ℕ) → Rounded (weights s k) (N k) D) (f : Feasibleᴰ (relaxed s) D N) where
  -- the rounded amounts, over the divisor 1
  abbrev whole : ℕ → ℤ
  whole k = (r k).m *ℤ pos 1

  one : (z : ℤ) → z *ℤ pos 1 ≡ z
  one = split _ (λ a b. simp zed (omega arith))

  whole-marked : (k : ℕ) (m : Mark) → KeepsMarkᴰ 1 m (whole k)
  whole-marked k Integer = ((r k).m, refl)
  whole-marked k Continuous = tt

  whole_above : (k : ℕ) (b : Option ℤ) → KeepsLowerᴰ D b (N k) → KeepsLowerᴰ 1 b (whole k)
  whole_above k None h = tt
  whole_above k (Some l) h = rw (one l, one (r k).m) ((r k).above l h)

  whole_below : (k : ℕ) (b : Option ℤ) → KeepsUpperᴰ D b (N k) → KeepsUpperᴰ 1 b (whole k)
  whole_below k None h = tt
  whole_below k (Some u) h = rw (one u, one (r k).m) ((r k).below u h)

  whole-fits : weighsᴰ s whole ≤ℤ (s.capacity *ℤ pos 1)
  whole-fits = subst (λ z. weighsᴰ s whole ≤ℤ z) (sym (one s.capacity))
      (times-≤-back D (weighsᴰ s whole) s.capacity D≥1
      (≤ℤ-trans (subst (λ z. z ≤ℤ weighsᴰ s N) (sum-times s.count (weights s) whole D) lighter) f.fits))
    where
      lighter : sum s.count (λ k. weights s k *ℤ (whole k *ℤ pos D)) ≤ℤ weighsᴰ s N
      lighter = sum_mono s.count _ _ (λ k l. subst (λ z. (weights s k *ℤ (z *ℤ pos D)) ≤ℤ (weights s k *ℤ N k)) (sym (one (r k).m)) (r k).lighter)

  whole-feasible : Feasible s (λ k. int (r k).m)
  whole-feasible = (bridge-feasible s 1 _ whole (omega arith) (λ k l. over-int 1 (r k).m)).1 (record {
    keeps = λ k l. record {
      marked = whole-marked k (s.item k).mark;
      above = whole_above k (s.item k).lower (f.keeps k l).above;
      below = whole_below k (s.item k).upper (f.keeps k l).below;
    };
    fits = whole-fits;
  })

pub rounded-feasible : (s : Instance) (x : Point) → Feasible (relaxed s) x → (y : Point) × Feasible s y
rounded-feasible s x p =
    let c = common s.count x in
    let r : (k : ℕ) → Rounded (weights s k) (c.N k) c.D = λ k. rounded c.D c.D≥1 (weights s k) (c.N k) in
    (λ k. int (r k).m, whole-feasible s c.D c.D≥1 c.N r ((bridge-feasible (relaxed s) c.D x c.N c.D≥1 c.reads).0 p))

-- ---- and unbounded together

loosened : (s : Instance) (d : ℕ → ℤ) → Ray (relaxed s) d → Ray s d
loosened s d r = record { up = r.up; down = r.down; light = r.light; gain = r.gain }

pub relaxed-unbounded : (s : Instance) → HasRay (relaxed s) → HasRay s
relaxed-unbounded s (x, d, u) =
    let p = rounded-feasible s x u.from in
    let r = loosened s d (unbounded-ray (relaxed s) x d u) in
    (p.0, d, ray-unbounded s p.0 d u.i u.j u.i-in u.j-in u.i-moves u.j-moves u.others r p.1)

-- ---- the three exclude one another

pub ray-is-endless : (s : Instance) → HasRay s → Endless s
ray-is-endless s (x, d, u) = ray-endless s x d (unbounded-ray s x d u) u.from

endless-relaxed : (s : Instance) → Endless s → Endless (relaxed s)
endless-relaxed s h v = let z = h v in (z.0, relaxed-feasible s z.0 z.1, z.2)

optimal-ends : (s : Instance) → HasOptimal s → Endless s → ⊥
optimal-ends s (x, o) h = let z = h (value s x) in <ᶠ-not-≤ (value s x) (value s z.0) z.2 (o.highest z.0 z.1)

endless-feasible : (s : Instance) → Endless s → Infeasible s → ⊥
endless-feasible s h none = let z = h (int (pos 0)) in none z.0 z.1

optimal-feasible : (s : Instance) → HasOptimal s → Infeasible s → ⊥
optimal-feasible s (x, o) none = none x o.feasible

-- ---- what an answer of each kind says

-- the kinds, with what holds of the instance
abbrev Says : Instance → Kind → Type 0
Says s kind.Optimal = HasOptimal s
Says s kind.Infeasible = Infeasible s
Says s kind.Unbounded = HasRay s
Says s (kind.Refused f) = ⊥

says : (s : Instance) (a : Answer) (k : Kind) → AnswersAs s a k → Says s k
says s a kind.Optimal t = (point_of a, t.optimal)
says s a kind.Infeasible t = t.0
says s a kind.Unbounded t = (point_of a, steps_of a, t.unbounded)
says s a (kind.Refused f) t = t

-- at most one kind says something true
says-once : (s : Instance) (k m : Kind) → Says s k → Says s m → k ≡ m
says-once s kind.Optimal kind.Optimal x y = refl
says-once s kind.Optimal kind.Infeasible x y = absurd (optimal-feasible s x y)
says-once s kind.Optimal kind.Unbounded x y = absurd (optimal-ends s x (ray-is-endless s y))
says-once s kind.Infeasible kind.Optimal x y = absurd (optimal-feasible s y x)
says-once s kind.Infeasible kind.Infeasible x y = refl
says-once s kind.Infeasible kind.Unbounded x y = absurd (endless-feasible s (ray-is-endless s y) x)
says-once s kind.Unbounded kind.Optimal x y = absurd (optimal-ends s y (ray-is-endless s x))
says-once s kind.Unbounded kind.Infeasible x y = absurd (endless-feasible s (ray-is-endless s x) y)
says-once s kind.Unbounded kind.Unbounded x y = refl
says-once s (kind.Refused f) m x y = absurd x
says-once s kind.Optimal (kind.Refused f) x y = absurd y
says-once s kind.Infeasible (kind.Refused f) x y = absurd y
says-once s kind.Unbounded (kind.Refused f) x y = absurd y

-- only the kind unbounded agrees with a value that has no end
endless-kind : (s : Instance) (k : Kind) → Says s k → Endless s → k ≡ kind.Unbounded
endless-kind s kind.Optimal x h = absurd (optimal-ends s x h)
endless-kind s kind.Infeasible x h = absurd (endless-feasible s h x)
endless-kind s kind.Unbounded x h = refl
endless-kind s (kind.Refused f) x h = absurd x

-- what the relaxation says the problem says, by its own kind
relaxed-says : (s : Instance) (k m : Kind) → Says s k → Says (relaxed s) m → m ≡ k
relaxed-says s k kind.Infeasible x y = says-once s kind.Infeasible k (λ z p. y z (relaxed-feasible s z p)) x
relaxed-says s k kind.Unbounded x y = says-once s kind.Unbounded k (relaxed-unbounded s y) x
relaxed-says s kind.Optimal kind.Optimal x y = refl
relaxed-says s kind.Infeasible kind.Optimal x y = let p = rounded-feasible s y.0 y.1.feasible in absurd (x p.0 p.1)
relaxed-says s kind.Unbounded kind.Optimal x y = absurd (optimal-ends (relaxed s) y (endless-relaxed s (ray-is-endless s x)))
relaxed-says s (kind.Refused f) kind.Optimal x y = absurd x
relaxed-says s k (kind.Refused f) x y = absurd y

-- ---- the demands

-- values are shown in the order of the points shown
shown-order : (s t : Instance) (a b : Answer) → ShownOptimal s a → ShownOptimal t b → value s (point_of a) ≤ᶠ value t (point_of b) → shown_value a ≤ᶠ shown_value b
shown-order s t a b x y h =
    ≤ᶠ-trans (shown_value a) (value s (point_of a)) (shown_value b) (≈ᶠ-≤ (shown_value a) (value s (point_of a)) x.exact)
    (≤ᶠ-trans (value s (point_of a)) (value t (point_of b)) (shown_value b) h (≈ᶠ-≥ (shown_value b) (value t (point_of b)) y.exact))

-- no optimal point shows more than another, nor more than the relaxation's
optimal-order : (s : Instance) (a b : Answer) → ShownOptimal s a → ShownOptimal s b → shown_value a ≤ᶠ shown_value b
optimal-order s a b x y = shown-order s s a b x y (y.optimal.highest (point_of a) x.optimal.feasible)

relaxed-order : (s : Instance) (a c : Answer) → ShownOptimal s a → ShownOptimal (relaxed s) c → shown_value a ≤ᶠ shown_value c
relaxed-order s a c x y = shown-order s (relaxed s) a c x y (y.optimal.highest (point_of a) (relaxed-feasible s (point_of a) x.optimal.feasible))

-- the value that a kind of answer shows is the only one
same-value : (s : Instance) (a b : Answer) (k : Kind) → AnswersAs s a k → AnswersAs s b k → b.value ≡ a.value
same-value s a b kind.Optimal x y =
    same-fraction b.value a.value y.divisor x.divisor y.lowest x.lowest
    (≤ᶠ-antisym (shown_value b) (shown_value a) (optimal-order s b a y x) (optimal-order s a b x y))
same-value s a b kind.Infeasible x y = ap (λ (z : Answer). z.value) y.1 ∙ sym (ap (λ (z : Answer). z.value) x.1)
same-value s a b kind.Unbounded x y = y.endless ∙ sym x.endless
same-value s a b (kind.Refused f) x y = absurd x

one_of : (s : Instance) (k : Kind) → Says s k → HasOptimal s ⊎ (Infeasible s ⊎ HasRay s)
one_of s kind.Optimal x = inl x
one_of s kind.Infeasible x = inr (inl x)
one_of s kind.Unbounded x = inr (inr x)
one_of s (kind.Refused f) x = absurd x

pub demands : (s : Instance) (a : Answer) → Answers s a → Demands s a
demands s a t = record {
  optimal-exactly = (λ e. subst (Says s) e told, λ x. says-once s a.kind kind.Optimal told x);
  infeasible-exactly = (λ e. subst (Says s) e told, λ x. says-once s a.kind kind.Infeasible told x);
  unbounded-exactly = (λ e. subst (Says s) e told, λ x. says-once s a.kind kind.Unbounded told x);
  endless-exactly = (λ e. ray-is-endless s (subst (Says s) e told), λ x. endless-kind s a.kind told x);
  one_of_three = record {
    some = one_of s a.kind told;
    first-not-second = λ x. optimal-feasible s x.0 x.1;
    first-not-third = λ x. optimal-ends s x.0 (ray-is-endless s x.1);
    second-not-third = λ x. endless-feasible s (ray-is-endless s x.1) x.0;
  };
  kind-once = λ b u. says-once s b.kind a.kind (says s b b.kind u) told;
  value-once = λ b u. same-value s a b a.kind t (subst (AnswersAs s b) (says-once s b.kind a.kind (says s b b.kind u) told) u);
  relaxed-kind = λ c u. loose c u;
  relaxed-value = λ c u e. relaxed-order s a c (subst (AnswersAs s a) e t) (subst (AnswersAs (relaxed s) c) (loose c u ∙ e) u);
}
  where
    told : Says s a.kind
    told = says s a a.kind t

    loose : (c : Answer) → Answers (relaxed s) c → c.kind ≡ a.kind
    loose c u = relaxed-says s a.kind c.kind told (says (relaxed s) c c.kind u)
