-- What a point keeps where one item needs another: paper 02, request 7, "One item needs another". It comes on top of knapsack's Meaning.
-- The needs here name items by their places, from 0; a record's lines have their numbers, from 1 (Records, needs_of).
--   no_need, no_needs          a line that is not used: 0 0; a section with no lines
--   In n ns, Every P ns      n is one of the needs ns; P holds of each of them
--   KeepsNeed n x            if there is any of the item, there is at least 1 of its cover;  KeepsNeeds ns x: of each need
--   FeasibleNeeds s ns x     feasible, and the needs are kept (02: permitted);  InfeasibleNeeds s ns: no point is
--   OptimalNeeds s ns x      feasible with the needs, and no such point is worth more
--   ForemostNeeds s ns x     no optimal point with the needs comes before x
--   UnboundedNeeds s ns x d  unbounded by the steps d, which keep the needs
--   ShownOptimalNeeds, ShownUnboundedNeeds s ns a   an answer with a best point, with a ray
--   AnswersNeeds s ns a      the answer a is true of s with the needs;  AnswersAsNeeds: by its kind
--   ShownFirstNeeds s ns a   where every item has a lower bound, a best point that a shows is the one that comes first
--   NotNegative, Present     a lower bound that is not below 0; a bound that is not absent
--   Named s k                item k may be named: it is an integer item with both bounds, the lower not below 0
--   Allowed s n              both items of the need n may be;  Inside s n: both are items of s
--   names ns k               a need of ns names item k
--   loosened, relaxed_but ns s   the relaxation: items that ns names keep their marks, all others become continuous
use Rattle.std.specs.Prelude.{◌≡◌, Bool, true, false, cond, List, [], ◌∷◌, ℕ, ◌≤◌, ◌<◌, eqb, ℤ, pos, nat_abs, replicate, ◌≤ℤ◌}
use Rattle.arith.specs.Fractions.{int, frac, ◌≤ᶠ◌, ◌<ᶠ◌, ◌≈ᶠ◌}
use Rattle.arith.specs.Gcd.{gcd_of}
use Rattle.knapsack.specs.Meaning.{Instance, Point, value, Feasible, stepped, Unbounded, nought, Shown}
use Rattle.knapsack.specs.Meaning.{ShownSteps, amount_at, point_of, steps_of, bare, Earlier, AllLower}
use Rattle.knapsack.specs.declared.Answer.{Answer}
use Rattle.std.specs.Prelude.{Option, None, Some}
use Rattle.knapsack.specs.declared.Kind.{Kind}
use Rattle.knapsack.specs.declared.Kind.TheVariants as kind
use Rattle.knapsack.specs.declared.Mark.{Mark}
use Rattle.knapsack.specs.declared.Mark.TheVariants.{Integer, Continuous}
use Rattle.model.specs.declared.Need.{Need}
use Rattle.model.specs.declared.Needs.{Needs}

abbrev pub no_need : Need
no_need = record { item = 0; cover = 0 }

abbrev pub no_needs : Needs
no_needs = record { lines = replicate 16 no_need; count = 0 }

pub data In (n : Need) : List Need → Type 0 where
  here : {ns : List Need} → In n (n ∷ ns)
  there : {m : Need} {ns : List Need} → In n ns → In n (m ∷ ns)

abbrev pub Every : (Need → Type 0) → List Need → Type 0
Every P ns = (n : Need) → In n ns → P n

-- ---- points that keep needs

abbrev pub KeepsNeed : Need → Point → Type 0
KeepsNeed n x = int (pos 0) <ᶠ x n.item → int (pos 1) ≤ᶠ x n.cover

abbrev pub KeepsNeeds : List Need → Point → Type 0
KeepsNeeds ns x = Every (λ n. KeepsNeed n x) ns

pub record FeasibleNeeds (s : Instance) (ns : List Need) (x : Point) : Type 0 where
  pub plain : Feasible s x
  pub kept : KeepsNeeds ns x

-- ---- the answers

pub record OptimalNeeds (s : Instance) (ns : List Need) (x : Point) : Type 0 where
  pub feasible : FeasibleNeeds s ns x
  pub highest : (y : Point) → FeasibleNeeds s ns y → value s y ≤ᶠ value s x

abbrev pub ForemostNeeds : Instance → List Need → Point → Type 0
ForemostNeeds s ns x = (y : Point) → OptimalNeeds s ns y → ¬ Earlier s.count y x

abbrev pub InfeasibleNeeds : Instance → List Need → Type 0
InfeasibleNeeds s ns = (x : Point) → ¬ FeasibleNeeds s ns x

pub record UnboundedNeeds (s : Instance) (ns : List Need) (x : Point) (d : ℕ → ℤ) : Type 0 where
  pub plain : Unbounded s x d
  pub from : FeasibleNeeds s ns x
  pub stays : (t : ℕ) → FeasibleNeeds s ns (stepped x d t)

-- ---- what an answer shows: as without needs

pub record ShownOptimalNeeds (s : Instance) (ns : List Need) (a : Answer) : Type 0 where
  pub optimal : OptimalNeeds s ns (point_of a)
  pub shown : Shown s (amount_at a)
  pub exact : frac a.value.p a.value.q ≈ᶠ value s (point_of a)
  pub divisor : 1 ≤ a.value.q
  pub lowest : gcd_of (nat_abs a.value.p) a.value.q ≡ 1
  pub still : a.steps ≡ replicate 16 (pos 0)

pub record ShownUnboundedNeeds (s : Instance) (ns : List Need) (a : Answer) : Type 0 where
  pub unbounded : UnboundedNeeds s ns (point_of a) (steps_of a)
  pub shown : Shown s (amount_at a)
  pub steps : ShownSteps s (steps_of a)
  pub endless : a.value ≡ nought

abbrev pub AnswersAsNeeds : Instance → List Need → Answer → Kind → Type 0
AnswersAsNeeds s ns a kind.Optimal = ShownOptimalNeeds s ns a
AnswersAsNeeds s ns a kind.Infeasible = InfeasibleNeeds s ns × (a ≡ bare kind.Infeasible)
AnswersAsNeeds s ns a kind.Unbounded = ShownUnboundedNeeds s ns a
AnswersAsNeeds s ns a (kind.Refused f) = ⊥

abbrev pub AnswersNeeds : Instance → List Need → Answer → Type 0
AnswersNeeds s ns a = AnswersAsNeeds s ns a a.kind

abbrev pub ShownFirstNeeds : Instance → List Need → Answer → Type 0
ShownFirstNeeds s ns a = AllLower s → a.kind ≡ kind.Optimal → ForemostNeeds s ns (point_of a)

-- ---- the items that a need may name

abbrev pub NotNegative : Option ℤ → Type 0
NotNegative None = ⊥
NotNegative (Some l) = pos 0 ≤ℤ l

abbrev pub Present : Option ℤ → Type 0
Present None = ⊥
Present (Some u) = Unit {0}

pub record Named (s : Instance) (k : ℕ) : Type 0 where
  pub inside : k < s.count
  pub whole : (s.item k).mark ≡ Integer
  pub above : NotNegative (s.item k).lower
  pub below : Present (s.item k).upper

pub record Allowed (s : Instance) (n : Need) : Type 0 where
  pub item : Named s n.item
  pub cover : Named s n.cover

abbrev pub Inside : Instance → Need → Type 0
Inside s n = (n.item < s.count) × (n.cover < s.count)

-- ---- the relaxation

abbrev pub names : List Need → ℕ → Bool
names [] k = false
names (n ∷ ns) k = cond (eqb n.item k) true (cond (eqb n.cover k) true (names ns k))

abbrev pub loosened : Bool → Mark → Mark
loosened true m = m
loosened false m = Continuous

abbrev pub relaxed_but : List Need → Instance → Instance
relaxed_but ns s = record {
  capacity = s.capacity;
  count = s.count;
  item = λ k. record {
    mark = loosened (names ns k) (s.item k).mark;
    weight = (s.item k).weight;
    price = (s.item k).price;
    lower = (s.item k).lower;
    upper = (s.item k).upper;
  };
}
