-- Problems with needs, by cases: what each function of the crate gives.
--   is_optimal, is_unbounded k   the kind of an answer
--   Placed ns             there are at most 16 lines of needs, and they name places of 16
--   NamedBy ns l          l says of each place of 16 whether a need of ns names it
--   breaks x n            there is some of the item of n in x, and nothing of its cover
--   FirstBroken x ns r    the line of the first need that x breaks, or their number
--   capped_at p k, raised_at p m   none of item k; at least 1 of item m
--   Comparable n a        an answer whose value and first n amounts have divisors
--   ShownLeads n a c      a is worth no less than c, and if it is worth as much its point does not come after c's
--   Leading, Outdoes      what the tests say
--   nothing_yet, counted_of, with_best   the best so far: of nothing, with a case more, with another answer
--   known_if t x, known b  what is known of points
--   Worthy s a            a shows a point of s and its value, as an optimal answer does;  Holds s b: so does what b has found
--   twigs u               the most cases that u undecided needs come to
--   case_steps, few_of m    the most steps of a case, whatever is asked; and where m are
--   Countable b r         the work of r can be added to that of b
--   SolvesCase m p ns r   r is the answer of p; its steps are those of a search of at most m, in which pairs with an item that ns names discard nothing,
--                         and its cells those that the scales write after it
--   Worked m n b          the work of at most n cases of m steps
--   Bounded s             no steps are unbounded
--   Branches p r ns m b   what a call is given;  Through s ns m b c: what it gives
--   CasesTake ns m p r b c   c tells the work of b, that of r, the plain answer of p, and that of the cases gone through from there
--   unpriced_item, Unpriced p k q   an item at price 0; so are the first k of q, and the others are those of p
--   ray_from a d           the steps d from the point of a
--   Told b r, FromRay b d r   an answer of the best, and of steps from it
--   RayTakes ns m p r s   s tells the work of r, the plain answer of p with its steps, and where its point breaks a need that of the cases at price 0
--   NeedsTake m p ns s    s tells the work of the plain answer of p and of all cases from there
--   most_cases ns          the most cases of a problem with the needs ns
--   Needed p ns           what the entry is given;  Endless p r ns m: and for an answer with steps
--   SolvesNeeds m p ns r  what the entry gives
use Rattle.std.specs.Prelude.{◌≡◌, Bool, true, false, cond, not, List, [], ◌∷◌, ◌⊎◌, ◌≢◌, ℕ, zero, suc, ◌+◌, ◌*◌, ◌≤◌, ◌<◌, ℤ, pos, nat_abs, ltb, length, get_or, replicate}
use Rattle.std.specs.Int.Signed.{lt_z}
use Rattle.arith.specs.Fractions.{◌≤ᶠ◌, ◌≈ᶠ◌}
use Rattle.arith.specs.Gcd.{gcd_of}
use Rattle.arith.specs.declared.Fraction.{Fraction}
use Rattle.knapsack.specs.Demands.{shown_value}
use Rattle.knapsack.specs.Items.{with_item}
use Rattle.knapsack.specs.Meaning.{Instance, Point, instance_of, value, Unbounded, Shown, amount_at, point_of, nought, bare, Earlier, AllLower}
use Rattle.knapsack.specs.Ranges.{item_at}
use Rattle.knapsack.specs.declared.Answer.{Answer}
use Rattle.knapsack.specs.declared.Item.{Item}
use Rattle.knapsack.specs.declared.Kind.{Kind}
use Rattle.knapsack.specs.declared.Kind.TheVariants as kind
use Rattle.knapsack.specs.declared.Problem.{Problem}
use Rattle.model.specs.Needs.{Every, Allowed, AnswersNeeds, ShownFirstNeeds, names}
use Rattle.model.specs.Records.{FiguresInRange, need_at, placed, needs_of}
use Rattle.model.specs.declared.Need.{Need}
use Rattle.model.specs.declared.Needs.{Needs}
use Rattle.solver.specs.Outcomes.{most_work, Counts, Cells, SolvesWithin}
use Rattle.solver.specs.declared.Solved.{Solved}
use Rattle.comparing.specs.Comparing.{amount_in, Divided}
use Rattle.cases.proofs.Limits.{bounded}
use Rattle.cases.proofs.Searched.{Known, nothing, best}
use Rattle.cases.proofs.Searching.{SearchedNeeds, WorthBy, PointLeadsBy}
use Rattle.cases.proofs.Splitting.{cap, raise}
use Rattle.cases.proofs.Undecided.{undecided}
use Rattle.planner.specs.declared.Best.{Best}

abbrev pub is_optimal : Kind → Bool
is_optimal kind.Optimal = true
is_optimal kind.Infeasible = false
is_optimal kind.Unbounded = false
is_optimal (kind.Refused f) = false

abbrev pub is_unbounded : Kind → Bool
is_unbounded kind.Optimal = false
is_unbounded kind.Infeasible = false
is_unbounded kind.Unbounded = true
is_unbounded (kind.Refused f) = false

-- ---- needs by places

pub record Placed (ns : Needs) : Type 0 where
  pub few : ns.count ≤ 16
  pub places : Every (λ n. (n.item < 16) × (n.cover < 16)) (needs_of ns)

pub record NamedBy (ns : List Need) (l : List Bool) : Type 0 where
  pub long : length l ≡ 16
  pub each : (k : ℕ) → k < 16 → get_or l k false ≡ names ns k

-- ---- needs that a point breaks

abbrev pub breaks : List Fraction → Need → Bool
breaks x n = cond (lt_z (pos 0) (amount_in x n.item).p) (not (lt_z (pos 0) (amount_in x n.cover).p)) false

pub record FirstBroken (x : List Fraction) (ns : Needs) (r : ℕ) : Type 0 where
  pub most : r ≤ ns.count
  pub kept : (j : ℕ) → j < r → breaks x (placed (need_at ns j)) ≡ false
  pub broken : r < ns.count → breaks x (placed (need_at ns r)) ≡ true

-- ---- the two cases

abbrev pub capped_at : Problem → ℕ → Problem
capped_at p k = with_item p k (bounded (item_at p k) (item_at p k).lower (cap (item_at p k).upper))

abbrev pub raised_at : Problem → ℕ → Problem
raised_at p m = with_item p m (bounded (item_at p m) (raise (item_at p m).lower) (item_at p m).upper)

-- ---- which answer leads

pub record Comparable (n : ℕ) (a : Answer) : Type 0 where
  pub value : 1 ≤ a.value.q
  pub amounts : Divided n a.point

pub record ShownLeads (n : ℕ) (a c : Answer) : Type 0 where
  pub worth : shown_value c ≤ᶠ shown_value a
  pub sooner : shown_value a ≤ᶠ shown_value c → ¬ Earlier n (point_of c) (point_of a)

pub record Leading (n : ℕ) (a c : Answer) (r : Bool) : Type 0 where
  pub ahead : r ≡ true → ShownLeads n a c
  pub behind : r ≡ false → ShownLeads n c a

pub record Outdoes (n : ℕ) (a : Answer) (b : Best) (r : Bool) : Type 0 where
  pub ahead : r ≡ true → (a.kind ≡ kind.Optimal) × (b.found ≡ true → ShownLeads n a b.answer)
  pub behind : r ≡ false → (a.kind ≢ kind.Optimal) ⊎ ((b.found ≡ true) × ((a.kind ≡ kind.Optimal) × ShownLeads n b.answer a))

-- ---- the best so far

abbrev pub nothing_yet : Best
nothing_yet = record { found = false; answer = bare kind.Infeasible; cases = 0; steps = 0; cells = 0 }

abbrev pub counted_of : Best → Solved → Best
counted_of b r = record { found = b.found; answer = b.answer; cases = b.cases + 1; steps = b.steps + r.steps; cells = b.cells + r.cells }

abbrev pub with_best : Best → Answer → Best
with_best b a = record { found = true; answer = a; cases = b.cases; steps = b.steps; cells = b.cells }

abbrev pub known_if : Bool → Point → Known Point
known_if true x = best x
known_if false x = nothing

abbrev pub known : Best → Known Point
known b = known_if b.found (point_of b.answer)

pub record Worthy (s : Instance) (a : Answer) : Type 0 where
  pub kind-is : a.kind ≡ kind.Optimal
  pub shown : Shown s (amount_at a)
  pub exact : shown_value a ≈ᶠ value s (point_of a)
  pub divisor : 1 ≤ a.value.q
  pub lowest : gcd_of (nat_abs a.value.p) a.value.q ≡ 1
  pub still : a.steps ≡ replicate 16 (pos 0)

abbrev pub Holds : Instance → Best → Type 0
Holds s b = b.found ≡ true → Worthy s b.answer

-- ---- work

unfoldable pub twigs : ℕ → ℕ
twigs zero = 1
twigs (suc u) = suc (twigs u + twigs u)

abbrev pub case_steps : ℕ
case_steps = 1000000000000

abbrev pub few_of : ℕ → ℕ
few_of most = cond (ltb case_steps most) case_steps most

pub record Countable (b : Best) (r : Solved) : Type 0 where
  pub cases : b.cases ≤ 131071
  pub steps : b.steps ≤ 131071 * case_steps
  pub cells : b.cells ≤ 131071 * most_work
  pub few-steps : r.steps ≤ case_steps
  pub few-cells : r.cells ≤ most_work

abbrev pub SolvesCase : ℕ → Problem → List Need → Solved → Type 0
SolvesCase most p ns r = SolvesWithin most p r ×
    ((named : List Bool) × (NamedBy ns named × (Counts most p named r.answer r.steps × Cells most p named r.answer r.cells)))

pub record Worked (most n : ℕ) (b : Best) : Type 0 where
  pub cases : b.cases ≤ n
  pub steps : b.steps ≤ b.cases * most
  pub cells : b.cells ≤ b.cases * most_work

-- ---- the cases

abbrev pub Bounded : Instance → Type 0
Bounded s = (x : Point) (d : ℕ → ℤ) → ¬ Unbounded s x d

pub record Branches (p : Problem) (r : Solved) (ns : Needs) (most : ℕ) (b : Best) : Type 0 where
  pub figures : FiguresInRange p
  pub solved : SolvesWithin most p r
  pub short : most ≤ case_steps
  pub few : ns.count ≤ 16
  pub allowed : Every (Allowed (instance_of p)) (needs_of ns)
  pub limited : Bounded (instance_of p)
  pub holds : Holds (instance_of p) b
  pub worked : Worked most b.cases b
  pub room : b.cases + twigs (undecided (instance_of p) (needs_of ns)) ≤ 131072

pub record Through (s : Instance) (ns : List Need) (most : ℕ) (b c : Best) : Type 0 where
  pub worth : SearchedNeeds WorthBy s ns (known b) (known c)
  pub first : AllLower s → SearchedNeeds PointLeadsBy s ns (known b) (known c)
  pub holds : Holds s c
  pub worked : Worked most (b.cases + twigs (undecided s ns)) c

-- the case is left, or its point is kept, or its own two cases are gone through, each from what the one before has told
pub data CasesTake (ns : Needs) (most : ℕ) : Problem → Solved → Best → Best → Type 0 where
  left : (p : Problem) (r : Solved) (b : Best) → Outdoes p.count r.answer (counted_of b r) false → CasesTake ns most p r b (counted_of b r)
  kept : (p : Problem) (r : Solved) (b : Best) → Outdoes p.count r.answer (counted_of b r) true → FirstBroken r.answer.point ns ns.count →
      CasesTake ns most p r b (with_best (counted_of b r) r.answer)
  split : (p : Problem) (r : Solved) (b : Best) (i : ℕ) (v w : Solved) (d e : Best) → Outdoes p.count r.answer (counted_of b r) true →
      FirstBroken r.answer.point ns i → i < ns.count → SolvesCase most (capped_at p (placed (need_at ns i)).item) (needs_of ns) v →
      CasesTake ns most (capped_at p (placed (need_at ns i)).item) v (counted_of b r) d →
      SolvesCase most (raised_at p (placed (need_at ns i)).cover) (needs_of ns) w → CasesTake ns most (raised_at p (placed (need_at ns i)).cover) w d e →
      CasesTake ns most p r b e

-- ---- the answer

abbrev pub unpriced_item : Item → Item
unpriced_item i = record { mark = i.mark; weight = i.weight; price = pos 0; lower = i.lower; upper = i.upper }

pub record Unpriced (p : Problem) (k : ℕ) (q : Problem) : Type 0 where
  pub count : q.count ≡ p.count
  pub capacity : q.capacity ≡ p.capacity
  pub long : length q.items ≡ 16
  pub items : (j : ℕ) → j < k → item_at q j ≡ unpriced_item (item_at p j)

pub record Told (b : Best) (r : Solved) : Type 0 where
  pub found : b.found ≡ true → r.answer ≡ b.answer
  pub none : b.found ≡ false → r.answer ≡ bare kind.Infeasible
  pub steps : r.steps ≡ b.steps
  pub cells : r.cells ≡ b.cells

abbrev pub ray_from : Answer → List ℤ → Answer
ray_from a d = record { kind = kind.Unbounded; point = a.point; steps = d; value = nought }

pub record FromRay (b : Best) (d : List ℤ) (r : Solved) : Type 0 where
  pub found : b.found ≡ true → r.answer ≡ ray_from b.answer d
  pub none : b.found ≡ false → r.answer ≡ bare kind.Infeasible
  pub steps : r.steps ≡ b.steps
  pub cells : r.cells ≡ b.cells

-- the steps start at the plain point, or at one that the cases at price 0 find, and these go on from the work of r
pub data RayTakes (ns : Needs) (most : ℕ) (p : Problem) (r : Solved) : Solved → Type 0 where
  stands : FirstBroken r.answer.point ns ns.count → RayTakes ns most p r r
  moves : (i : ℕ) (q : Problem) (v s : Solved) (c : Best) → FirstBroken r.answer.point ns i → i < ns.count → Unpriced p 16 q →
      SolvesCase most q (needs_of ns) v → CasesTake ns most q v (counted_of nothing_yet r) c → FromRay c r.answer.steps s → RayTakes ns most p r s

pub data NeedsTake (most : ℕ) (p : Problem) (ns : Needs) : Solved → Type 0 where
  by_cases : (r s : Solved) (c : Best) → SolvesCase (few_of most) p (needs_of ns) r → is_unbounded r.answer.kind ≡ false →
      CasesTake ns (few_of most) p r nothing_yet c → Told c s → NeedsTake most p ns s
  by-ray : (r s : Solved) → SolvesCase (few_of most) p (needs_of ns) r → is_unbounded r.answer.kind ≡ true → RayTakes ns (few_of most) p r s →
      NeedsTake most p ns s

pub record Needed (p : Problem) (ns : Needs) : Type 0 where
  pub figures : FiguresInRange p
  pub few : ns.count ≤ 16
  pub allowed : Every (Allowed (instance_of p)) (needs_of ns)

pub record Endless (p : Problem) (r : Solved) (ns : Needs) (most : ℕ) : Type 0 where
  pub needed : Needed p ns
  pub solved : SolvesWithin most p r
  pub short : most ≤ case_steps
  pub kind-is : r.answer.kind ≡ kind.Unbounded

-- one where there are no needs; else two more with each need undecided, and one for a ray
abbrev pub most_cases : List Need → ℕ
most_cases [] = 1
most_cases (n ∷ ns) = suc (twigs (suc (length ns)))

pub record SolvesNeeds (most : ℕ) (p : Problem) (ns : List Need) (r : Solved) : Type 0 where
  pub answers : AnswersNeeds (instance_of p) ns r.answer
  pub first : ShownFirstNeeds (instance_of p) ns r.answer
  pub few-steps : r.steps ≤ most_cases ns * most
  pub few-cells : r.cells ≤ most_cases ns * most_work
