-- One answer with needs: the first best point is the only one, and no two of the three answers hold.
--   Says s ns k        what holds of a problem that an answer of that kind is true of
--   SameAnswer a b     a and b are equal, or both are unbounded: the start and the steps of such an answer are free
-- foremost-needs-same: two optimal points with needs, before which no other comes, have the same amounts.
-- ray-endless, best-ends, endless-some, best-some: a ray passes every number, a best point does not; says, says-once: so one kind is true.
-- shown-order: values are shown in the order of points.  kind-once, value-once: two true answers are of one kind, and show one value.
-- amounts-once: and of best points that come first, one point.
-- planned-once (end theorem): where every lower bound is present two replies of the planner are the same.
use mathlib.Core.Path.{◌≡◌, refl, sym, ap, ◌∙◌, subst}
use mathlib.Core.List.{List}
use mathlib.Core.Logic.{◌⊎◌, inl, inr}
use Prim.Native.Nat.{ℕ, ◌<◌}
use native.Mathlib.Decide.{dec_lt}
use native.Mathlib.Omega.{arith}
use lib.IntN.{ℤ, pos}
use lib.ListN.{length}
use lib.Seq.{ext_get_or}
use Rattle.arith.proofs.Fractions.{<ᶠ-not-≤, ≤ᶠ-trans, ≤ᶠ-antisym, ≈ᶠ-≤, ≈ᶠ-≥}
use Rattle.arith.proofs.Lowest.{same-fraction}
use Rattle.arith.specs.Fractions.{int, ◌≤ᶠ◌, ◌≈ᶠ◌}
use Rattle.arith.specs.declared.Fraction.{Fraction}
use Rattle.knapsack.specs.Demands.{shown_value}
use Rattle.knapsack.specs.Meaning.{Instance, Point, instance_of, value, nought, own_divisor, amount_at, point_of, steps_of, AllLower}
use Rattle.knapsack.specs.declared.Answer.{Answer}
use Rattle.knapsack.specs.declared.Kind.{Kind}
use Rattle.knapsack.specs.declared.Kind.TheVariants as kind
use Rattle.knapsack.specs.Verdicts.{Verdict}
use Rattle.std.specs.Prelude.{Ok, Err}
use Rattle.foremost.proofs.Points.{neither-same}
use Rattle.model.proofs.Showing.{own-some, same_over}
use Rattle.model.specs.Needs.{InfeasibleNeeds, OptimalNeeds, ForemostNeeds, ShownOptimalNeeds, AnswersNeeds, AnswersAsNeeds, ShownFirstNeeds}
use Rattle.model.specs.Promises.{RepliesAs, Planned}
use Rattle.model.specs.Records.{plain_of, needs_of, verdict}
use Rattle.model.specs.declared.Model.{Model}
use Rattle.model.specs.declared.Need.{Need}
use Rattle.model.specs.declared.Sense.{Sense}
use Rattle.cases.specs.Demands.{HasOptimalNeeds, HasRayNeeds, EndlessNeeds}
use Rattle.cases.proofs.Endless.{unbounded-passes}

pub foremost-needs-same : (s : Instance) (ns : List Need) (x y : Point) → OptimalNeeds s ns x → ForemostNeeds s ns x → OptimalNeeds s ns y
    → ForemostNeeds s ns y → (k : ℕ) → k < s.count → x k ≈ᶠ y k
foremost-needs-same s ns x y o f p g = neither-same s.count x y (g x o) (f y p)

-- ---- no two of the three answers

-- what holds of a problem that an answer of each kind is true of
abbrev pub Says : Instance → List Need → Kind → Type 0
Says s ns kind.Optimal = HasOptimalNeeds s ns
Says s ns kind.Infeasible = InfeasibleNeeds s ns
Says s ns kind.Unbounded = HasRayNeeds s ns
Says s ns (kind.Refused f) = ⊥

module _ (s : Instance) (ns : List Need) where
  pub says : (a : Answer) (k : Kind) → AnswersAsNeeds s ns a k → Says s ns k
  says a kind.Optimal x = (point_of a, x.optimal)
  says a kind.Infeasible x = x.0
  says a kind.Unbounded x = (point_of a, steps_of a, x.unbounded)
  says a (kind.Refused f) x = x

  pub ray-endless : HasRayNeeds s ns → EndlessNeeds s ns
  ray-endless (x, d, u) = unbounded-passes s ns x d u

  pub best-ends : HasOptimalNeeds s ns → EndlessNeeds s ns → ⊥
  best-ends (x, o) h = let z = h (value s x) in <ᶠ-not-≤ (value s x) (value s z.0) z.2 (o.highest z.0 z.1)

  pub endless-some : EndlessNeeds s ns → InfeasibleNeeds s ns → ⊥
  endless-some h none = let z = h (int (pos 0)) in none z.0 z.1

  pub best-some : HasOptimalNeeds s ns → InfeasibleNeeds s ns → ⊥
  best-some (x, o) none = none x o.feasible

  pub says-once : (k m : Kind) → Says s ns k → Says s ns m → k ≡ m
  says-once kind.Optimal kind.Optimal x y = refl
  says-once kind.Optimal kind.Infeasible x y = absurd (best-some x y)
  says-once kind.Optimal kind.Unbounded x y = absurd (best-ends x (ray-endless y))
  says-once kind.Infeasible kind.Optimal x y = absurd (best-some y x)
  says-once kind.Infeasible kind.Infeasible x y = refl
  says-once kind.Infeasible kind.Unbounded x y = absurd (endless-some (ray-endless y) x)
  says-once kind.Unbounded kind.Optimal x y = absurd (best-ends y (ray-endless x))
  says-once kind.Unbounded kind.Infeasible x y = absurd (endless-some (ray-endless x) y)
  says-once kind.Unbounded kind.Unbounded x y = refl
  says-once (kind.Refused f) m x y = absurd x
  says-once kind.Optimal (kind.Refused f) x y = absurd y
  says-once kind.Infeasible (kind.Refused f) x y = absurd y
  says-once kind.Unbounded (kind.Refused f) x y = absurd y

-- ---- two answers

-- values are shown in the order of the points shown
pub shown-order : (s t : Instance) (ns : List Need) (a b : Answer) → ShownOptimalNeeds s ns a → ShownOptimalNeeds t ns b
    → value s (point_of a) ≤ᶠ value t (point_of b) → shown_value a ≤ᶠ shown_value b
shown-order s t ns a b x y h = ≤ᶠ-trans (shown_value a) (value s (point_of a)) (shown_value b) (≈ᶠ-≤ (shown_value a) (value s (point_of a)) x.exact)
    (≤ᶠ-trans (value s (point_of a)) (value t (point_of b)) (shown_value b) h (≈ᶠ-≥ (shown_value b) (value t (point_of b)) y.exact))

module _ (s : Instance) (ns : List Need) (a b : Answer) where
  pub kind-once : AnswersNeeds s ns a → AnswersNeeds s ns b → b.kind ≡ a.kind
  kind-once x y = says-once s ns b.kind a.kind (says s ns b b.kind y) (says s ns a a.kind x)

  pub value-once : (k : Kind) → AnswersAsNeeds s ns a k → AnswersAsNeeds s ns b k → a.value ≡ b.value
  value-once kind.Optimal x y = same-fraction a.value b.value x.divisor y.divisor x.lowest y.lowest
      (≤ᶠ-antisym (shown_value a) (shown_value b) (shown-order s s ns a b x y (y.optimal.highest (point_of a) x.optimal.feasible))
      (shown-order s s ns b a y x (x.optimal.highest (point_of b) y.optimal.feasible)))
  value-once kind.Infeasible x y = ap (λ (z : Answer). z.value) x.1 ∙ sym (ap (λ (z : Answer). z.value) y.1)
  value-once kind.Unbounded x y = x.endless ∙ sym y.endless
  value-once (kind.Refused f) x y = absurd x

  module _ (x : ShownOptimalNeeds s ns a) (y : ShownOptimalNeeds s ns b) where
    amounts-once : ForemostNeeds s ns (point_of a) → ForemostNeeds s ns (point_of b) → (k : ℕ) → amount_at a k ≡ amount_at b k
    amounts-once f g k = go (dec_lt k s.count)
      where
        go : Dec (k < s.count) → amount_at a k ≡ amount_at b k
        go (yes l) = same_over (amount_at a k) (amount_at b k) (own_divisor (s.item k)) (own-some (s.item k)) (x.shown.divisor k l) (y.shown.divisor k l)
            (foremost-needs-same s ns (point_of a) (point_of b) x.optimal f y.optimal g k l)
        go (no l) = x.shown.beyond k (omega arith) ∙ sym (y.shown.beyond k (omega arith))

abbrev pub SameAnswer : Answer → Answer → Type 0
SameAnswer a b = (a ≡ b) ⊎ ((a.kind ≡ kind.Unbounded) × (b.kind ≡ kind.Unbounded))

join : (a b : Answer) → a.kind ≡ b.kind → a.point ≡ b.point → a.steps ≡ b.steps → a.value ≡ b.value → a ≡ b
join a b k p t v = made a.kind a.point a.steps a.value b.kind b.point b.steps b.value k p t v
  where
    made : (k : Kind) (p : List Fraction) (t : List ℤ) (v : Fraction) (k' : Kind) (p' : List Fraction) (t' : List ℤ) (v' : Fraction) → k ≡ k' → p ≡ p'
        → t ≡ t' → v ≡ v'
        → ◌≡◌ {A = Answer} (record { kind = k; point = p; steps = t; value = v }) (record { kind = k'; point = p'; steps = t'; value = v' })
    made k p t v k' p' t' v' a b c d = cc

module _ (s : Instance) (ns : List Need) (low : AllLower s) (a b : Answer) (la : length a.point ≡ 16) (lb : length b.point ≡ 16)
    (f : ShownFirstNeeds s ns a) (g : ShownFirstNeeds s ns b) where
  answers-once : AnswersNeeds s ns a → AnswersNeeds s ns b → SameAnswer a b
  answers-once x y = go a.kind refl same x (subst (AnswersAsNeeds s ns b) same y)
    where
      same : b.kind ≡ a.kind
      same = kind-once s ns a b x y

      go : (m : Kind) → a.kind ≡ m → b.kind ≡ m → AnswersAsNeeds s ns a m → AnswersAsNeeds s ns b m → SameAnswer a b
      go kind.Optimal e h p q = inl
          (join a b (e ∙ sym h) (ext_get_or nought a.point b.point (la ∙ sym lb) (λ i l. amounts-once s ns a b p q (f low e) (g low h) i))
          (p.still ∙ sym q.still) (value-once s ns a b kind.Optimal p q))
      go kind.Infeasible e h p q = inl (p.1 ∙ sym q.1)
      go kind.Unbounded e h p q = inr (e, h)
      go (kind.Refused r) e h p q = absurd p

  replied-once : (v : Verdict) → RepliesAs s ns a v → RepliesAs s ns b v → SameAnswer a b
  replied-once (Ok _) x y = answers-once x y
  replied-once (Err r) x y = inl (x ∙ sym y)

-- End theorem: where every lower bound is present two replies of the planner are the same
pub planned-once : (sense : Sense) (m : Model) → AllLower (instance_of (plain_of sense m)) → (a b : Answer) → length a.point ≡ 16 → length b.point ≡ 16
    → Planned sense m a → Planned sense m b → SameAnswer a b
planned-once sense m low a b la lb x y =
    replied-once (instance_of (plain_of sense m)) (needs_of m.needs) low a b la lb x.first y.first (verdict m) x.replies y.replies
