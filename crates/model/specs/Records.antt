-- Problems handed over as records, and what they are refused for: paper 01, the table of ranges and "Refused, by place"; paper 02, requests 7, 9 and 11.
--   no_item           what stands in the places beyond the count: integer, weights and price 0, no bounds
--   empty_model       the record of a refusal: blank items and unused lines of needs only, counts and capacity 0
--   item_at m k       the item at a place, from 0;  need_at ns j: the line of needs, from 0
--   placed n         a need by the places of its items, from 0
--   needs_of ns       a section's needs, by places;  needs_up_to n f: those of the first n lines, the last in front
--   Agree m o        the records are one problem: counts, capacity, the items and the lines of needs that are counted
--   weight_in s i     the weight that decides in a sense (02, request 11): high in the sure one, low in the possible;  item_in s i: the item so
--   plain_of s m      the solver's problem of a record in a sense;  unfilled m: with no items yet;  items_in s l: its items
--   outside n z      z is farther than n from zero
--   bad_bound, bad_weights, bad_figure   tests of a bound, of an item's weights, of its figures
--   crossed l u      a lower bound is above an upper;  crosses i, bounds_cross i: so it is of an item, of the solver's and of a record's
--   is_reversed i     low is above high
--   is_blank i        weight 0, low and high, and price 0 (02, request 9);  is_weightless i: weight 0
--   is_ranged_below i  low is below high, and the amount may be below 0
--   is_range i        the weight is not one figure;  some_range m: so it is of some item
--   Finds test m b    b is whether a test says yes to some item;  TriesItems test n m v: v is the row of a test with refusal n
--   barred b i       a blank item, where blank items are refused
--   some_item n f t   the test holds of one of the first n items
--   some_crosses p    the bounds of some item cross
--   bad_count n       n is no number of items
--   wrong_number n k, wrong_numbers n i j   k is no item number of 1 to n; i or j is none, or both are one
--   names_item n k    a need names item k, from 1
--   held n           how many of n items or lines there are to be tried: at most 16
--   out_of_order a b   the line b does not rise above the line a, by item and then by cover
--   bad_line n a b    refusal 5 of the line b, which follows a, over n items
--   is_continuous, below_zero, unfit   tests of a mark, of a lower bound, of an item: no need may name it
--   unfit_line f b    refusal 14 of the line b
--   line_before ns j  the line before line j: an unused one before the first
--   refusal_of n      a refusal of a record, and of an entry that was given one: line 0;  refusal_for r: by its reason
--   refuse r          refused for a reason
--   refused_if t n    refusal n if the test holds;  refused_for t r: by its reason
--   or_else v w       the first that refuses
--   item_verdict t n m   refusal n if the test holds of an item
--   count_verdict, figure_verdict, kind_verdict b   the rows of the refusals of a record: 3; 4; 19 and then 15
--   need_verdict m j, needs_verdict n m   5 and then 14 of one line of needs, and of the first n
--   verdict_by b m    accepted, or the first refusal, by what becomes of blank items;  verdict m: they are refused, as everywhere but in the converter
--   ItemFigures i    an item's figures within their ranges
--   FiguresInRange p a problem's figures within the ranges of the paper's table; its bounds may cross
--   Uncrossed p      no lower bound is above its upper: what the solver asks besides (proofs/Records, plain-in-range)
--   Numbers n i j    i and j are two item numbers of 1 to n
--   Rises a b        the line b rises above the line a
--   GoodLine m j     what row 5 and row 14 ask of a line of needs
--   AdmissibleBy b m the record keeps the ranges, low is not above high, no item is barred, its needs are good, and an item whose weight is a range has no
--                    amounts below 0; it is accepted exactly then (proofs/Records, accepted-iff)
--   Admissible m     where blank items are refused
use Rattle.std.specs.Prelude.{◌≡◌, Bool, true, false, cond, List, [], ◌∷◌, map, ◌⊎◌, ℕ, zero, suc, ◌-◌, ◌≤◌, ◌<◌, ltb, eqb, ℤ, pos, nat_abs, get_or, replicate, ◌≤ℤ◌, ◌<ℤ◌}
use Rattle.std.specs.Int.Signed.{lt_z}
use Rattle.arith.specs.Sum.{Each}
use Rattle.knapsack.specs.Items.{is_absent}
use Rattle.knapsack.specs.Meaning.{instance_of}
use Rattle.knapsack.specs.Ranges.{blank, item_at as plain_item, BoundInRange, BoundsInOrder}
use Rattle.std.specs.Prelude.{Option, None, Some}
use Rattle.knapsack.specs.declared.Item.{Item}
use Rattle.knapsack.specs.declared.Mark.{Mark}
use Rattle.knapsack.specs.declared.Mark.TheVariants.{Integer, Continuous}
use Rattle.knapsack.specs.declared.Problem.{Problem}
use Rattle.knapsack.specs.declared.Refusal.{Refusal}
use Rattle.knapsack.specs.Verdicts.{Verdict}
use Rattle.std.specs.Prelude.{Ok, Err}
use Rattle.model.specs.declared.Blanks.{Blanks}
use Rattle.model.specs.declared.Blanks.TheVariants as blanks
use Rattle.model.specs.declared.Model.{Model}
use Rattle.model.specs.declared.ModelItem.{ModelItem}
use Rattle.model.specs.declared.Need.{Need}
use Rattle.model.specs.declared.Needs.{Needs}
use Rattle.model.specs.declared.Sense.{Sense}
use Rattle.model.specs.declared.Sense.TheVariants.{Sure, Possible}
use Rattle.model.specs.Needs.{no_need, no_needs, NotNegative, Allowed}
use Rattle.model.specs.declared.refusals.Reason.{Reason}
use Rattle.model.specs.declared.refusals.Reason.TheVariants as refusal
use Rattle.model.specs.Refusals.{number_of}

abbrev pub no_item : ModelItem
no_item = record { mark = Integer; low = pos 0; high = pos 0; price = pos 0; lower = None; upper = None }

abbrev pub empty_model : Model
empty_model = record { items = replicate 16 no_item; count = 0; capacity = pos 0; needs = no_needs }

abbrev pub item_at : Model → ℕ → ModelItem
item_at m k = get_or m.items k no_item

abbrev pub need_at : Needs → ℕ → Need
need_at ns j = get_or ns.lines j no_need

abbrev pub weight_in : Sense → ModelItem → ℤ
weight_in Sure i = i.high
weight_in Possible i = i.low

abbrev pub item_in : Sense → ModelItem → Item
item_in s i = record { mark = i.mark; weight = weight_in s i; price = i.price; lower = i.lower; upper = i.upper }

unfoldable pub items_in : Sense → List ModelItem → List Item
items_in s l = map (item_in s) l

abbrev pub unfilled : Model → Problem
unfilled m = record { items = replicate 16 blank; count = m.count; capacity = m.capacity }

abbrev pub plain_of : Sense → Model → Problem
plain_of s m = record { items = items_in s m.items; count = m.count; capacity = m.capacity }

abbrev pub placed : Need → Need
placed n = record { item = n.item - 1; cover = n.cover - 1 }

unfoldable pub needs_up_to : ℕ → (ℕ → Need) → List Need
needs_up_to zero f = []
needs_up_to (suc n) f = placed (f n) ∷ needs_up_to n f

abbrev pub needs_of : Needs → List Need
needs_of ns = needs_up_to ns.count (need_at ns)

pub record Agree (m o : Model) : Type 0 where
  pub count : m.count ≡ o.count
  pub capacity : m.capacity ≡ o.capacity
  pub items : Each m.count (λ k. item_at m k ≡ item_at o k)
  pub need-count : m.needs.count ≡ o.needs.count
  pub needs : Each m.needs.count (λ j. need_at m.needs j ≡ need_at o.needs j)

-- ---- tests

abbrev pub outside : ℕ → ℤ → Bool
outside n z = ltb n (nat_abs z)

abbrev pub bad_bound : Option ℤ → Bool
bad_bound None = false
bad_bound (Some v) = outside 10000 v

abbrev pub bad_weights : ModelItem → Bool
bad_weights i = cond (outside 1000 i.low) true (outside 1000 i.high)

abbrev pub bad_figure : ModelItem → Bool
bad_figure i = cond (bad_weights i) true (cond (outside 10000 i.price) true (cond (bad_bound i.lower) true (bad_bound i.upper)))

abbrev pub crossed : Option ℤ → Option ℤ → Bool
crossed None u = false
crossed (Some l) None = false
crossed (Some l) (Some u) = lt_z u l

abbrev pub crosses : Item → Bool
crosses i = crossed i.lower i.upper

abbrev pub bounds_cross : ModelItem → Bool
bounds_cross i = crossed i.lower i.upper

abbrev pub is_reversed : ModelItem → Bool
is_reversed i = lt_z i.high i.low

abbrev pub is_weightless : ModelItem → Bool
is_weightless i = cond (eqb (nat_abs i.low) 0) (eqb (nat_abs i.high) 0) false

abbrev pub is_blank : ModelItem → Bool
is_blank i = cond (is_weightless i) (eqb (nat_abs i.price) 0) false

abbrev pub below_zero : Option ℤ → Bool
below_zero None = true
below_zero (Some l) = lt_z l (pos 0)

abbrev pub is_ranged_below : ModelItem → Bool
is_ranged_below i = cond (lt_z i.low i.high) (below_zero i.lower) false

abbrev pub is_range : ModelItem → Bool
is_range i = cond (lt_z i.low i.high) true (is_reversed i)

abbrev pub barred : Blanks → ModelItem → Bool
barred blanks.Refused i = is_blank i
barred blanks.Kept i = false

unfoldable pub some_item : {A : Type 0} → ℕ → (ℕ → A) → (A → Bool) → Bool
some_item zero f test = false
some_item (suc n) f test = cond (some_item n f test) true (test (f n))

abbrev pub some_crosses : Problem → Bool
some_crosses p = some_item p.count (plain_item p) crosses

abbrev pub bad_count : ℕ → Bool
bad_count n = cond (eqb n 0) true (ltb 16 n)

abbrev pub held : ℕ → ℕ
held n = cond (ltb 16 n) 16 n

abbrev pub some_range : Model → Bool
some_range m = some_item (held m.count) (item_at m) is_range

-- an item number outside 1 to n
abbrev pub wrong_number : ℕ → ℕ → Bool
wrong_number n k = cond (eqb k 0) true (ltb n k)

-- or one item twice
abbrev pub wrong_numbers : ℕ → ℕ → ℕ → Bool
wrong_numbers n i j = cond (wrong_number n i) true (cond (wrong_number n j) true (eqb i j))

-- ---- tests of a line of needs

abbrev pub names_item : Need → ℕ → Bool
names_item n k = cond (eqb n.item k) true (eqb n.cover k)

abbrev pub out_of_order : Need → Need → Bool
out_of_order a b = cond (ltb a.item b.item) false (cond (ltb b.item a.item) true (cond (ltb a.cover b.cover) false true))

unfoldable pub bad_line : ℕ → Need → Need → Bool
bad_line n a b = cond (wrong_numbers n b.item b.cover) true (out_of_order a b)

abbrev pub is_continuous : Mark → Bool
is_continuous Integer = false
is_continuous Continuous = true

unfoldable pub unfit : ModelItem → Bool
unfit i = cond (is_continuous i.mark) true (cond (below_zero i.lower) true (is_absent i.upper))

abbrev pub unfit_line : (ℕ → ModelItem) → Need → Bool
unfit_line f b = cond (unfit (f (b.item - 1))) true (unfit (f (b.cover - 1)))

abbrev pub line_before : Needs → ℕ → Need
line_before ns j = cond (eqb j 0) no_need (need_at ns (j - 1))

-- ---- verdicts

abbrev pub refusal_of : ℕ → Refusal
refusal_of n = record { number = n; line = 0 }

abbrev pub refusal_for : Reason → Refusal
refusal_for r = refusal_of (number_of r)

abbrev pub refuse : Reason → Verdict
refuse n = Err (refusal_for n)

abbrev pub refused_if : Bool → ℕ → Verdict
refused_if t n = cond t (Err (refusal_of n)) (Ok tt)

abbrev pub refused_for : Bool → Reason → Verdict
refused_for t r = refused_if t (number_of r)

abbrev pub or_else : Verdict → Verdict → Verdict
or_else (Ok _) w = w
or_else (Err f) w = Err f

-- the items, then the needs
abbrev pub count_verdict : Model → Verdict
count_verdict m = refused_for (cond (bad_count m.count) true (ltb 16 m.needs.count)) refusal.Count

abbrev pub item_verdict : (ModelItem → Bool) → Reason → Model → Verdict
item_verdict test n m = refused_for (some_item (held m.count) (item_at m) test) n

-- of a test that the code calls: what it says is a function of the item
abbrev pub Finds : (ModelItem → Bool → Type 0) → Model → Bool → Type 0
Finds says m b = (test : ModelItem → Bool) → ((i : ModelItem) (c : Bool) → says i c → c ≡ test i) → b ≡ some_item (held m.count) (item_at m) test

abbrev pub TriesItems : (ModelItem → Bool → Type 0) → Reason → Model → Verdict → Type 0
TriesItems says n m v = (test : ModelItem → Bool) → ((i : ModelItem) (c : Bool) → says i c → c ≡ test i) → v ≡ item_verdict test n m

-- the capacity, then each item's figures
abbrev pub figure_verdict : Model → Verdict
figure_verdict m = or_else (refused_for (outside 100000000 m.capacity) refusal.Figure) (item_verdict bad_figure refusal.Figure m)

-- the order of the weights on every item, then blank items
abbrev pub kind_verdict : Blanks → Model → Verdict
kind_verdict b m = or_else (item_verdict is_reversed refusal.WeightRange m) (item_verdict (barred b) refusal.BlankItem m)

abbrev pub need_verdict : Model → ℕ → Verdict
need_verdict m j =
    or_else (refused_for (bad_line (held m.count) (line_before m.needs j) (need_at m.needs j)) refusal.ItemNumber)
    (refused_for (unfit_line (item_at m) (need_at m.needs j)) refusal.NamedItem)

unfoldable pub needs_verdict : ℕ → Model → Verdict
needs_verdict zero m = Ok tt
needs_verdict (suc j) m = or_else (needs_verdict j m) (need_verdict m j)

unfoldable pub verdict_by : Blanks → Model → Verdict
verdict_by b m =
    or_else (or_else (or_else (or_else (count_verdict m) (figure_verdict m)) (kind_verdict b m)) (needs_verdict (held m.needs.count) m))
    (item_verdict is_ranged_below refusal.RangedItem m)

abbrev pub verdict : Model → Verdict
verdict m = verdict_by blanks.Refused m

-- ---- the ranges: what the solver asks of its problem, but for the order of bounds

pub record ItemFigures (i : Item) : Type 0 where
  pub weight-in : nat_abs i.weight ≤ 1000
  pub price-in : nat_abs i.price ≤ 10000
  pub lower_in : BoundInRange i.lower
  pub upper_in : BoundInRange i.upper

pub record FiguresInRange (p : Problem) : Type 0 where
  pub some-items : 1 ≤ p.count
  pub few-items : p.count ≤ 16
  pub capacity-in : nat_abs p.capacity ≤ 100000000
  pub items-in : (k : ℕ) → k < p.count → ItemFigures (plain_item p k)

abbrev pub Uncrossed : Problem → Type 0
Uncrossed p = (k : ℕ) → k < p.count → BoundsInOrder (plain_item p k).lower (plain_item p k).upper

-- ---- the needs

pub record Numbers (n i j : ℕ) : Type 0 where
  pub first-least : 1 ≤ i
  pub first-most : i ≤ n
  pub second-least : 1 ≤ j
  pub second-most : j ≤ n
  pub different : i ≡ j → ⊥

abbrev pub Rises : Need → Need → Type 0
Rises a b = (a.item < b.item) ⊎ ((a.item ≡ b.item) × (a.cover < b.cover))

pub record GoodLine (m : Model) (j : ℕ) : Type 0 where
  pub numbers : Numbers m.count (need_at m.needs j).item (need_at m.needs j).cover
  pub rises : Rises (line_before m.needs j) (need_at m.needs j)
  pub allowed : (s : Sense) → Allowed (instance_of (plain_of s m)) (placed (need_at m.needs j))

pub record AdmissibleBy (b : Blanks) (m : Model) : Type 0 where
  pub figures : (s : Sense) → FiguresInRange (plain_of s m)
  pub ordered : (k : ℕ) → k < m.count → (item_at m k).low ≤ℤ (item_at m k).high
  pub unbarred : (k : ℕ) → k < m.count → barred b (item_at m k) ≡ false
  pub few-needs : m.needs.count ≤ 16
  pub needs : (j : ℕ) → j < m.needs.count → GoodLine m j
  pub ranged : (k : ℕ) → k < m.count → (item_at m k).low <ℤ (item_at m k).high → NotNegative (item_at m k).lower

abbrev pub Admissible : Model → Type 0
Admissible m = AdmissibleBy blanks.Refused m
