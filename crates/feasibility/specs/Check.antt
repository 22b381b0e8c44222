-- The point check. Paper 01, "Point check" and rows 7 and 8 of "Refused, by place"; paper 02, request 7: needs after bounds and before weight;
-- request 12: own divisors.
--   breaks i x            whether the amount x breaks a bound of the item: breaks_bound
--   earlier_of m n         the number m, or n where m is 0
--   numbered k i x        the number of the item at place k if it breaks, or 0
--   first_broken n p c     the first of the first n items, from 1, whose amount does; 0 where none does
--   lacks x y             there is some of x and less than 1 of y
--   uncovered_at ns c j    the item of line j of the needs, if it lacks its cover, or 0
--   first_lacking n ns c   that of the first of the first n lines that has one; 0 where none has
--   first_breach p ns c    the first item that breaks, or else that of the first broken need, or 0
--   figure_of f i, term f d i x   an item's weight or price, and that times its amount over the divisor d
--   total_of f d n p c     the sum of weight or price times amount over the first n items, times the common divisor d
--   after_items k r        no with item k, or r where k is 0
--   judged d p ns c       yes or no where nothing is refused
--   refuse_point n         refusal n
--   amount_check p ns c    refusals 7 and 8, then yes or no
--   after_record v r       the record's refusal, or r
--   point_check sense m c  the reply in a sense (02, request 11): the record's refusals, then 7, then 8, line 0; then yes or no
--   Checkable p c         what the code needs for yes or no;  Lined n ns: of the lines of needs over n items;  Coverable ns c: to try them
--   asked sense m         the instance that a point is proposed for;  proposed_point c: the point
--   Proposed sense m c          nothing is refused
--   RefusedAs, ToldValue, ToldWeight   what a refusal, a yes and a no with item 0 say
--   ToldItem, ToldNeed    what a no with an item says: the item breaks its mark or a bound, or its need is broken
--   Sizeable p c          what the code needs to sum up a point;  Worth p c r: r is what it is worth
--   Told sense m c r      what the reply r says of the point, by its case: the entry's promise beside point_check sense m c
use Rattle.std.specs.Prelude.{◌≡◌, Bool, true, false, cond, not, ◌⊎◌, ◌≢◌, ℕ, zero, suc, ◌-◌, ◌≤◌, ◌<◌, eqb, ℤ, pos, nat_abs, ◌*ℤ◌}
use Rattle.std.specs.Int.Signed.{lt_z}
use Rattle.arith.specs.Fractions.{int, frac, ◌<ᶠ◌, ◌≈ᶠ◌}
use Rattle.arith.specs.Gcd.{gcd_of, lowest}
use Rattle.arith.specs.Sum.{sum}
use Rattle.arith.specs.declared.Fraction.{Fraction}
use Rattle.std.specs.Prelude.{Option, None, Some}
use Rattle.knapsack.specs.declared.Item.{Item}
use Rattle.knapsack.specs.declared.Problem.{Problem}
use Rattle.knapsack.specs.declared.Refusal.{Refusal}
use Rattle.knapsack.specs.Verdicts.{Verdict}
use Rattle.std.specs.Prelude.{Result, Ok, Err}
use Rattle.knapsack.specs.Meaning.{Instance, Point, Keeps, instance_of, weighs, value}
use Rattle.knapsack.specs.Ranges.{item_at}
use Rattle.model.specs.Needs.{KeepsNeed, KeepsNeeds, FeasibleNeeds}
use Rattle.model.specs.Records.{plain_of, need_at, placed, needs_of, refusal_for, verdict, Numbers, Admissible, FiguresInRange}
use Rattle.model.specs.declared.refusals.Reason.{Reason}
use Rattle.model.specs.declared.refusals.Reason.TheVariants as refusal
use Rattle.model.specs.declared.Model.{Model}
use Rattle.model.specs.declared.Needs.{Needs}
use Rattle.model.specs.declared.Sense.{Sense}
use Rattle.feasibility.specs.declared.Candidate.{Candidate}
use Rattle.feasibility.specs.declared.Figure.{Figure}
use Rattle.feasibility.specs.declared.Figure.TheVariants.{Weight, Price}
use Rattle.feasibility.specs.declared.Finding.{Finding}
use Rattle.feasibility.specs.declared.Finding.TheVariants.{Feasible, Violates}
use Rattle.model.specs.declared.Side.{Side}
use Rattle.model.specs.declared.Side.TheVariants.{Lower, Upper}
use Rattle.feasibility.specs.Amounts.{proposed_at, GoodAmount, GoodPoint, common_divisor, numerator}

-- ---- yes or no

abbrev pub breaks_bound : Side → Option ℤ → ℤ → ℕ → Bool
breaks_bound side None p q = false
breaks_bound Lower (Some l) p q = lt_z p (l *ℤ pos q)
breaks_bound Upper (Some u) p q = lt_z (u *ℤ pos q) p

-- an integer item's own divisor is 1, so its amounts keep their mark
unfoldable pub breaks : Item → Fraction → Bool
breaks i x =
    cond (breaks_bound Lower i.lower x.p x.q) true
    (breaks_bound Upper i.upper x.p x.q)

-- a number that is not 0 stays
abbrev pub earlier_of : ℕ → ℕ → ℕ
earlier_of zero n = n
earlier_of (suc k) n = suc k

-- the number of the item at place k if it breaks, or 0
abbrev pub numbered : ℕ → Item → Fraction → ℕ
numbered k i x = cond (breaks i x) (suc k) 0

unfoldable pub first_broken : ℕ → Problem → Candidate → ℕ
first_broken zero p c = 0
first_broken (suc n) p c = earlier_of (first_broken n p c) (numbered n (item_at p n) (proposed_at c n))

-- more than 0 of x, and less than 1 of y
abbrev pub lacks : Fraction → Fraction → Bool
lacks x y = cond (breaks_bound Upper (Some (pos 0)) x.p x.q) (breaks_bound Lower (Some (pos 1)) y.p y.q) false

abbrev pub uncovered_at : Needs → Candidate → ℕ → ℕ
uncovered_at ns c j = cond (lacks (proposed_at c ((need_at ns j).item - 1)) (proposed_at c ((need_at ns j).cover - 1))) (need_at ns j).item 0

unfoldable pub first_lacking : ℕ → Needs → Candidate → ℕ
first_lacking zero ns c = 0
first_lacking (suc n) ns c = earlier_of (first_lacking n ns c) (uncovered_at ns c n)

abbrev pub first_breach : Problem → Needs → Candidate → ℕ
first_breach p ns c = earlier_of (first_broken p.count p c) (first_lacking ns.count ns c)

abbrev pub figure_of : Figure → Item → ℤ
figure_of Weight i = i.weight
figure_of Price i = i.price

abbrev pub term : Figure → ℕ → Item → Fraction → ℤ
term f d i x = figure_of f i *ℤ numerator d x

abbrev pub total_of : Figure → ℕ → ℕ → Problem → Candidate → ℤ
total_of f d n p c = sum n (λ k. term f d (item_at p k) (proposed_at c k))

-- an item that breaks, or whose need is broken, comes before the weight
abbrev pub after_items : ℕ → Finding → Finding
after_items zero r = r
after_items (suc k) r = Violates (suc k)

-- d is the common divisor
unfoldable pub judged : ℕ → Problem → Needs → Candidate → Finding
judged d p ns c =
    after_items (first_breach p ns c)
    (cond (lt_z (p.capacity *ℤ pos d) (total_of Weight d p.count p c)) (Violates 0)
    (Feasible (lowest (total_of Price d p.count p c) d)))

-- ---- the whole check

abbrev pub refuse_point : Reason → Result Finding Refusal
refuse_point n = Err (refusal_for n)

unfoldable pub amount_check : Problem → Needs → Candidate → Result Finding Refusal
amount_check p ns c =
    cond (not (eqb c.count p.count)) (refuse_point refusal.Amounts)
    (cond (eqb (common_divisor c.count (item_at p) (proposed_at c)) 0) (refuse_point refusal.Amount)
    (Ok (judged (common_divisor c.count (item_at p) (proposed_at c)) p ns c)))

abbrev pub after_record : Verdict → Result Finding Refusal → Result Finding Refusal
after_record (Ok _) r = r
after_record (Err f) r = Err f

unfoldable pub point_check : Sense → Model → Candidate → Result Finding Refusal
point_check sense m c = after_record (verdict m) (amount_check (plain_of sense m) m.needs c)

-- what the code needs for yes or no
pub record Checkable (p : Problem) (c : Candidate) : Type 0 where
  pub problem : FiguresInRange p
  pub amounts : (k : ℕ) → k < p.count → GoodAmount (proposed_at c k)

pub record Lined (n : ℕ) (ns : Needs) : Type 0 where
  pub few : ns.count ≤ 16
  pub numbers : (j : ℕ) → j < ns.count → Numbers n (need_at ns j).item (need_at ns j).cover

pub record Coverable (ns : Needs) (c : Candidate) : Type 0 where
  pub lined : Lined c.count ns
  pub few-amounts : c.count ≤ 16
  pub amounts : (k : ℕ) → k < c.count → GoodAmount (proposed_at c k)

-- ---- what a reply means

-- what the point is proposed for
abbrev pub asked : Sense → Model → Instance
asked sense m = instance_of (plain_of sense m)

abbrev pub proposed_point : Candidate → Point
proposed_point c k = frac (proposed_at c k).p (proposed_at c k).q

-- a proposed point of which nothing is refused
pub record Proposed (sense : Sense) (m : Model) (c : Candidate) : Type 0 where
  pub admissible : Admissible m
  pub counted : c.count ≡ m.count
  pub amounts : GoodPoint m.count (asked sense m).item (proposed_at c)

-- 01's numbers of the refusals, in their order, with line 0
pub data RefusedAs (sense : Sense) (m : Model) (c : Candidate) : Refusal → Type 0 where
  by-record : (f : Refusal) → verdict m ≡ Err f → RefusedAs sense m c f
  by_count : Admissible m → c.count ≢ m.count → RefusedAs sense m c (refusal_for refusal.Amounts)
  by-amounts : Admissible m → c.count ≡ m.count → ¬ GoodPoint m.count (asked sense m).item (proposed_at c) → RefusedAs sense m c (refusal_for refusal.Amount)

-- 01's yes: feasible, and v is the value in lowest terms
pub record ToldValue (sense : Sense) (m : Model) (c : Candidate) (v : Fraction) : Type 0 where
  pub proposed : Proposed sense m c
  pub feasible : FeasibleNeeds (asked sense m) (needs_of m.needs) (proposed_point c)
  pub exact : frac v.p v.q ≈ᶠ value (asked sense m) (proposed_point c)
  pub divisor : 1 ≤ v.q
  pub lowest : gcd_of (nat_abs v.p) v.q ≡ 1

-- the figures are in range and row 8 does not refuse the amounts
pub record Sizeable (p : Problem) (c : Candidate) : Type 0 where
  pub problem : FiguresInRange p
  pub counted : c.count ≡ p.count
  pub amounts : GoodPoint p.count (item_at p) (proposed_at c)

pub record Worth (p : Problem) (c : Candidate) (r : Fraction) : Type 0 where
  pub divisor : 1 ≤ r.q
  pub exact : frac r.p r.q ≈ᶠ value (instance_of p) (proposed_point c)

-- 01's no with item 0: every item keeps its mark and bounds, the needs are kept, and only the weight is over
pub record ToldWeight (sense : Sense) (m : Model) (c : Candidate) : Type 0 where
  pub proposed : Proposed sense m c
  pub keeps : (k : ℕ) → k < (asked sense m).count → Keeps ((asked sense m).item k) (proposed_point c k)
  pub kept : KeepsNeeds (needs_of m.needs) (proposed_point c)
  pub over : int (asked sense m).capacity <ᶠ weighs (asked sense m) (proposed_point c)

-- 01's no with item k + 1: the first that does not keep its mark and bounds
pub record ToldItem (sense : Sense) (m : Model) (c : Candidate) (k : ℕ) : Type 0 where
  pub proposed : Proposed sense m c
  pub item : k < (asked sense m).count
  pub broken : ¬ Keeps ((asked sense m).item k) (proposed_point c k)
  pub before : (j : ℕ) → j < k → Keeps ((asked sense m).item j) (proposed_point c j)

-- 02's no with item k + 1: every item keeps its mark and bounds, and k + 1 is the item of the first broken line
pub record ToldNeed (sense : Sense) (m : Model) (c : Candidate) (k : ℕ) : Type 0 where
  pub proposed : Proposed sense m c
  pub keeps : (i : ℕ) → i < (asked sense m).count → Keeps ((asked sense m).item i) (proposed_point c i)
  pub line : ℕ
  pub counted : line < m.needs.count
  pub item : (need_at m.needs line).item ≡ suc k
  pub broken : ¬ KeepsNeed (placed (need_at m.needs line)) (proposed_point c)
  pub before : (j : ℕ) → j < line → KeepsNeed (placed (need_at m.needs j)) (proposed_point c)

abbrev pub Told : Sense → Model → Candidate → Result Finding Refusal → Type 0
Told sense m c (Err f) = RefusedAs sense m c f
Told sense m c (Ok (Feasible v)) = ToldValue sense m c v
Told sense m c (Ok (Violates zero)) = ToldWeight sense m c
Told sense m c (Ok (Violates (suc k))) = ToldItem sense m c k ⊎ ToldNeed sense m c k
