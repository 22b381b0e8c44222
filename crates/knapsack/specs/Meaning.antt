-- What the answers mean: paper 01, "The problem". A reader has to believe this file and Ranges, and nothing behind them.
--   Instance          a problem as mathematics: capacity (01: limit), count, and an item for each place;  instance_of p: of a problem
--   Point             an amount for each item, a fraction of any size with any divisor
--   KeepsMark, KeepsLower, KeepsUpper, Keeps   an amount keeps its item's mark, its bounds, all three
--   weights s, prices s   the items' figures
--   weighs s x        what x weighs;  value s x: what it is worth
--   Feasible s x      x keeps marks, bounds and the capacity (01: permitted)
--   Optimal s x       feasible, and no feasible point is worth more (01: best)
--   Earlier n x y     x comes before y: least amount of item 1, then of item 2, and so on (02, request 5)
--   Foremost s x      no optimal point comes before x
--   AllLower s        every item has a lower bound
--   Infeasible s      no point is feasible
--   stepped x d t     x with the steps d taken t times
--   Unbounded s x d   steps d on one or two items that keep x feasible and raise its value every time (01: whole steps)
--   relaxed s         every item continuous
--   nought            zero as an answer shows it
--   weight_divisor a   a weight without its sign, 1 where it is 0
--   divisor_by, own_divisor   the divisor of an item's amounts, by its mark and weight, and of an item (02, request 12)
--   WholeAmount x     the amount is a whole number
--   Shown, ShownSteps the limits on the amounts and steps of an answer
--   amount_at, point_of, steps_of   the amounts of an answer, its point, its steps
--   ShownOptimal, ShownUnbounded, bare   an answer with a best point, with a ray, with no point
--   Answers s a       the answer a is true of s;  AnswersAs: by its kind
--   ShownFirst s a    where every item has a lower bound, a best point that a shows is the one that comes first
--   StepFits, TwoSteps   steps on two items that are no longer than from bound to bound
--   CostPair, LeastPair, NoPair, EqualPair   steps on two integer items that a search may take away (01: least pair, none, equal-value pair)
use Rattle.std.specs.Prelude.{◌≡◌, ◌≢◌, ℕ, suc, ◌*◌, ◌≤◌, ◌<◌, max, ℤ, pos, nat_abs, ◌+ℤ◌, ◌-ℤ◌, ◌*ℤ◌, get_or, replicate, ◌≤ℤ◌, ◌<ℤ◌}
use Rattle.arith.specs.Fractions.{Frac, int, frac, ◌+ᶠ◌, ◌·ᶠ◌, ◌≤ᶠ◌, ◌<ᶠ◌, ◌≈ᶠ◌, total}
use Rattle.arith.specs.Gcd.{gcd_of}
use Rattle.arith.specs.declared.Fraction.{Fraction}
use Rattle.std.specs.Prelude.{Option, None, Some}
use Rattle.knapsack.specs.declared.Mark.{Mark}
use Rattle.knapsack.specs.declared.Mark.TheVariants.{Integer, Continuous}
use Rattle.knapsack.specs.declared.Item.{Item}
use Rattle.knapsack.specs.declared.Problem.{Problem}
use Rattle.knapsack.specs.declared.Kind.{Kind}
use Rattle.knapsack.specs.declared.Kind.TheVariants as kind
use Rattle.knapsack.specs.declared.Answer.{Answer}
use Rattle.knapsack.specs.Ranges.{item_at}

-- ---- instances and points

-- the items are item 0 .. item (count - 1), and the places beyond play no part
pub record Instance : Type 0 where
  pub capacity : ℤ
  pub count : ℕ
  pub item : ℕ → Item

abbrev pub instance_of : Problem → Instance
instance_of p = record { capacity = p.capacity; count = p.count; item = item_at p }

abbrev pub Point : Type 0
Point = ℕ → Frac

-- an integer item's amount is a whole number; a continuous one's is any fraction
abbrev pub KeepsMark : Mark → Frac → Type 0
KeepsMark Integer x = (n : ℤ) × (x.num ≡ n *ℤ pos x.den)
KeepsMark Continuous x = Unit {0}

abbrev pub KeepsLower : Option ℤ → Frac → Type 0
KeepsLower None x = Unit {0}
KeepsLower (Some l) x = int l ≤ᶠ x

abbrev pub KeepsUpper : Option ℤ → Frac → Type 0
KeepsUpper None x = Unit {0}
KeepsUpper (Some u) x = x ≤ᶠ int u

pub record Keeps (i : Item) (x : Frac) : Type 0 where
  pub marked : KeepsMark i.mark x
  pub above : KeepsLower i.lower x
  pub below : KeepsUpper i.upper x

abbrev pub weights : Instance → ℕ → ℤ
weights s k = (s.item k).weight

abbrev pub prices : Instance → ℕ → ℤ
prices s k = (s.item k).price

abbrev pub weighs : Instance → Point → Frac
weighs s x = total s.count (λ k. weights s k ·ᶠ x k)

abbrev pub value : Instance → Point → Frac
value s x = total s.count (λ k. prices s k ·ᶠ x k)

pub record Feasible (s : Instance) (x : Point) : Type 0 where
  pub keeps : (k : ℕ) → k < s.count → Keeps (s.item k) (x k)
  pub fits : weighs s x ≤ᶠ int s.capacity

-- ---- the three answers

pub record Optimal (s : Instance) (x : Point) : Type 0 where
  pub feasible : Feasible s x
  pub highest : (y : Point) → Feasible s y → value s y ≤ᶠ value s x

-- less at some item, and equal at those before it
pub record Earlier (n : ℕ) (x y : Point) : Type 0 where
  pub place : ℕ
  pub below : place < n
  pub same : (j : ℕ) → j < place → x j ≈ᶠ y j
  pub less : x place <ᶠ y place

abbrev pub Foremost : Instance → Point → Type 0
Foremost s x = (y : Point) → Optimal s y → ¬ Earlier s.count y x

abbrev pub AllLower : Instance → Type 0
AllLower s = (k : ℕ) → k < s.count → (s.item k).lower ≢ None

abbrev pub Infeasible : Instance → Type 0
Infeasible s = (x : Point) → ¬ Feasible s x

-- x with the steps d taken t times
abbrev pub stepped : Point → (ℕ → ℤ) → ℕ → Point
stepped x d t k = x k +ᶠ int (pos t *ℤ d k)

-- the steps are on the items i and j alone (i may be j), and not zero
pub record Unbounded (s : Instance) (x : Point) (d : ℕ → ℤ) : Type 0 where
  pub i : ℕ
  pub j : ℕ
  pub i-in : i < s.count
  pub j-in : j < s.count
  pub i-moves : d i ≢ pos 0
  pub j-moves : d j ≢ pos 0
  pub others : (k : ℕ) → k ≢ i → k ≢ j → d k ≡ pos 0
  pub from : Feasible s x
  pub stays : (t : ℕ) → Feasible s (stepped x d t)
  pub rises : (t : ℕ) → value s (stepped x d t) <ᶠ value s (stepped x d (suc t))

abbrev pub relaxed : Instance → Instance
relaxed s = record {
  capacity = s.capacity;
  count = s.count;
  item = λ k. record { mark = Continuous; weight = (s.item k).weight; price = (s.item k).price; lower = (s.item k).lower; upper = (s.item k).upper };
}

-- ---- what an answer shows

abbrev pub nought : Fraction
nought = record { p = pos 0; q = 1 }

abbrev pub weight_divisor : ℤ → ℕ
weight_divisor a = max 1 (nat_abs a)

-- a continuous item's amounts are shown over its weight
abbrev pub divisor_by : Mark → ℤ → ℕ
divisor_by Integer a = 1
divisor_by Continuous a = weight_divisor a

abbrev pub own_divisor : Item → ℕ
own_divisor i = divisor_by i.mark i.weight

abbrev pub WholeAmount : Fraction → Type 0
WholeAmount x = (n : ℤ) × (x.p ≡ n *ℤ pos x.q)

-- over the item's own divisor, within ±1,000,000,000, and at most one not whole; zero beyond the items
pub record Shown (s : Instance) (x : ℕ → Fraction) : Type 0 where
  pub divisor : (k : ℕ) → k < s.count → (x k).q ≡ own_divisor (s.item k)
  pub small : (k : ℕ) → k < s.count → nat_abs (x k).p ≤ 1000000000 * (x k).q
  pub single : (j k : ℕ) → j < s.count → k < s.count → ¬ WholeAmount (x j) → ¬ WholeAmount (x k) → j ≡ k
  pub beyond : (k : ℕ) → s.count ≤ k → x k ≡ nought

abbrev pub ShownSteps : Instance → (ℕ → ℤ) → Type 0
ShownSteps s d = (k : ℕ) → k < s.count → nat_abs (d k) ≤ 1000

abbrev pub amount_at : Answer → ℕ → Fraction
amount_at a k = get_or a.point k nought

abbrev pub point_of : Answer → Point
point_of a k = frac (amount_at a k).p (amount_at a k).q

abbrev pub steps_of : Answer → ℕ → ℤ
steps_of a k = get_or a.steps k (pos 0)

-- the value shown is the point's, in lowest terms; there are no steps
pub record ShownOptimal (s : Instance) (a : Answer) : Type 0 where
  pub optimal : Optimal s (point_of a)
  pub shown : Shown s (amount_at a)
  pub exact : frac a.value.p a.value.q ≈ᶠ value s (point_of a)
  pub divisor : 1 ≤ a.value.q
  pub lowest : gcd_of (nat_abs a.value.p) a.value.q ≡ 1
  pub still : a.steps ≡ replicate 16 (pos 0)

-- there is no value
pub record ShownUnbounded (s : Instance) (a : Answer) : Type 0 where
  pub unbounded : Unbounded s (point_of a) (steps_of a)
  pub shown : Shown s (amount_at a)
  pub steps : ShownSteps s (steps_of a)
  pub endless : a.value ≡ nought

-- an answer with no point: a refusal's other fields, and those of infeasible, are zero
abbrev pub bare : Kind → Answer
bare k = record { kind = k; point = replicate 16 nought; steps = replicate 16 (pos 0); value = nought }

-- the answer is true of s, by its kind; no refusal is
abbrev pub AnswersAs : Instance → Answer → Kind → Type 0
AnswersAs s a kind.Optimal = ShownOptimal s a
AnswersAs s a kind.Infeasible = Infeasible s × (a ≡ bare kind.Infeasible)
AnswersAs s a kind.Unbounded = ShownUnbounded s a
AnswersAs s a (kind.Refused f) = ⊥

abbrev pub Answers : Instance → Answer → Type 0
Answers s a = AnswersAs s a a.kind

abbrev pub ShownFirst : Instance → Answer → Type 0
ShownFirst s a = AllLower s → a.kind ≡ kind.Optimal → Foremost s (point_of a)

-- ---- pairs of steps that a search may take away

-- a step fits if it is no longer than from one bound to the other; an absent bound allows every step
abbrev pub StepFits : Option ℤ → Option ℤ → ℤ → Type 0
StepFits None u r = Unit {0}
StepFits (Some l) None r = Unit {0}
StepFits (Some l) (Some u) r = pos (nat_abs r) ≤ℤ (u -ℤ l)

pub record TwoSteps (i j : Item) (r t : ℤ) : Type 0 where
  pub r-moves : r ≢ pos 0
  pub t-moves : t ≢ pos 0
  pub r-fits : StepFits i.lower i.upper r
  pub t-fits : StepFits j.lower j.upper t

-- without the steps a point weighs no more and is worth more (document 000, conditions 3.2 and 3.3)
pub record CostPair (i j : Item) (r t : ℤ) : Type 0 where
  pub steps : TwoSteps i j r t
  pub heavy : pos 0 ≤ℤ (i.weight *ℤ r +ℤ j.weight *ℤ t)
  pub loss : (i.price *ℤ r +ℤ j.price *ℤ t) <ℤ pos 0

-- the least pair: both steps least at once
pub record LeastPair (i j : Item) (r t : ℤ) : Type 0 where
  pub pair : CostPair i j r t
  pub least : (r' t' : ℤ) → CostPair i j r' t' → (nat_abs r ≤ nat_abs r') × (nat_abs t ≤ nat_abs t')

abbrev pub NoPair : Item → Item → Type 0
NoPair i j = (r t : ℤ) → ¬ CostPair i j r t

-- the equal-value pair (document 000, definition 3.9)
pub record EqualPair (i j : Item) (r t : ℤ) : Type 0 where
  pub steps : TwoSteps i j r t
  pub level : i.weight *ℤ r +ℤ j.weight *ℤ t ≡ pos 0
  pub even : i.price *ℤ r +ℤ j.price *ℤ t ≡ pos 0
