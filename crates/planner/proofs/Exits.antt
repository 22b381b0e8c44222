-- The ways out of a call: what it gives.
-- kind-of: the test of a kind.  comparable, plain-comparable: answers can be compared.  optimal-of, worthy-of: an answer of that kind.
-- plain-infeasible: a plain problem with no best point and no ray holds nothing.
-- few-most: the steps of a case are few.
-- counted-work, more-work, own-work, none-worked, few-work, countable: the work of the cases.  enter: what a call on a case is given.
-- through-behind, through-kept, through-split: nothing is ahead, the point keeps all needs, both cases are gone through.
use mathlib.Core.Path.{◌≡◌, refl, sym, subst}
use mathlib.Core.Bool.{Bool, true, false}
use mathlib.Core.List.{List}
use mathlib.Core.Logic.{◌⊎◌, inl, inr, ◌≢◌}
use Prim.Native.Nat.{ℕ, ◌+◌, ◌*◌, ◌≤◌, ◌<◌}
use native.Mathlib.Decide.{dec_lt}
use native.Mathlib.Nat.{mul-le-mul, mul-le-mul_right}
use native.Mathlib.Omega.{arith}
use borrow.Author.Tests.{lt-ltb, le-ltb}
use Rattle.arith.proofs.Parts.{impossible}
use Rattle.arith.specs.Fractions.{Frac}
use Rattle.knapsack.specs.Meaning.{Instance, Point, instance_of, value, Feasible, Infeasible, point_of, ShownOptimal, Answers, AnswersAs}
use Rattle.knapsack.specs.Meaning.{AllLower, ShownFirst}
use Rattle.knapsack.specs.declared.Answer.{Answer}
use Rattle.knapsack.specs.declared.Kind.{Kind}
use Rattle.knapsack.specs.declared.Kind.TheVariants as kind
use Rattle.knapsack.specs.declared.Problem.{Problem}
use Rattle.model.proofs.Showing.{own-some}
use Rattle.model.specs.Records.{FiguresInRange, needs_of}
use Rattle.model.specs.declared.Needs.{Needs}
use Rattle.solver.specs.Outcomes.{most_work, SolvesWithin}
use Rattle.solver.specs.declared.Solved.{Solved}
use Rattle.cases.proofs.Limits.{lower-without, lower-having}
use Rattle.cases.proofs.Points.{inside-allowed}
use Rattle.cases.proofs.Searched.{Known, best, Follows}
use Rattle.cases.proofs.Searching.{SearchedNeeds, WorthBy, PointLeadsBy, WorthFirst, worth-order, first-order, optimal-is-top, first-is-top}
use Rattle.cases.proofs.Searching.{needs-infeasible, needs-behind, needs-kept, needs-split}
use Rattle.cases.proofs.Splitting.{without, having}
use Rattle.cases.proofs.Tops.{Top}
use Rattle.cases.proofs.Undecided.{undecided}
use Rattle.model.specs.declared.Need.{Need}
use Rattle.model.specs.Needs.{In, Every, Allowed, KeepsNeeds}
use Rattle.planner.specs.declared.Best.{Best}
use Rattle.planner.specs.Branching.{is_optimal, Comparable, ShownLeads, nothing_yet, counted_of, with_best, known_if, known, Worthy, Holds, twigs}
use Rattle.planner.specs.Branching.{case_steps, few_of, Countable, Worked, Bounded, Branches, Through}
use Rattle.planner.proofs.Ordering.{leads-points}
use Rattle.planner.proofs.Parts.{Part}
use Rattle.planner.proofs.Twigs.{twigs-some, twigs-two}

-- ---- answers

pub kind-of : (k : Kind) → is_optimal k ≡ true → k ≡ kind.Optimal
kind-of kind.Optimal h = refl
kind-of kind.Infeasible h = absurd (impossible h)
kind-of kind.Unbounded h = absurd (impossible h)
kind-of (kind.Refused f) h = absurd (impossible h)

pub comparable : (s : Instance) (a : Answer) → Worthy s a → Comparable s.count a
comparable s a w = record { value = w.divisor; amounts = λ k l. rw (w.shown.divisor k l) (own-some (s.item k)) }

worthy : (s : Instance) (a : Answer) → a.kind ≡ kind.Optimal → ShownOptimal s a → Worthy s a
worthy s a k o = record { kind-is = k; shown = o.shown; exact = o.exact; divisor = o.divisor; lowest = o.lowest; still = o.still }

module _ (s : Instance) (a : Answer) (answers : Answers s a) where
  pub optimal-of : a.kind ≡ kind.Optimal → ShownOptimal s a
  optimal-of k = subst (AnswersAs s a) k answers

  pub worthy-of : a.kind ≡ kind.Optimal → Worthy s a
  worthy-of k = worthy s a k (optimal-of k)

  pub plain-comparable : a.kind ≡ kind.Optimal → Comparable s.count a
  plain-comparable k = comparable s a (worthy-of k)

  pub plain-infeasible : Bounded s → a.kind ≢ kind.Optimal → Infeasible s
  plain-infeasible b ne = go a.kind refl answers
    where
      go : (k : Kind) → a.kind ≡ k → AnswersAs s a k → Infeasible s
      go kind.Optimal e h = absurd (ne e)
      go kind.Infeasible e h = h.0
      go kind.Unbounded e h = absurd (b _ _ h.unbounded)
      go (kind.Refused f) e h = absurd h

-- ---- one case more

pub few-most : (most : ℕ) → (few_of most ≤ most) × (few_of most ≤ case_steps)
few-most most = go (dec_lt case_steps most)
  where
    go : Dec (case_steps < most) → (few_of most ≤ most) × (few_of most ≤ case_steps)
    go (yes h) = rw (lt-ltb case_steps most h) (omega (arith, h), omega arith)
    go (no h) = rw (le-ltb case_steps most (omega (arith, h))) (omega arith, omega (arith, h))

pub counted-work : (most : ℕ) (b : Best) (r : Solved) → Worked most b.cases b → r.steps ≤ most → r.cells ≤ most_work
    → Worked most (b.cases + 1) (counted_of b r)
counted-work most b r w h k = record { cases = omega arith; steps = omega (arith, w.steps, h); cells = omega (arith, w.cells, k) }

-- it can be counted
pub countable : (most : ℕ) (b : Best) (r : Solved) → most ≤ case_steps → b.cases ≤ 131071 → Worked most b.cases b → r.steps ≤ most → r.cells ≤ most_work
    → Countable b r
countable most b r short few w h k = record {
  cases = few;
  steps = omega (arith, w.steps, mul-le-mul few short);
  cells = omega (arith, w.cells, few);
  few-steps = omega arith;
  few-cells = k;
}

pub more-work : {most m n : ℕ} {b : Best} → m ≤ n → Worked most m b → Worked most n b
more-work h w = record { cases = omega (arith, h, w.cases); steps = w.steps; cells = w.cells }

pub own-work : {most n : ℕ} {b : Best} → Worked most n b → Worked most b.cases b
own-work w = record { cases = omega arith; steps = w.steps; cells = w.cells }

-- ---- a call on a case

pub none-worked : (most : ℕ) → Worked most 0 nothing_yet
none-worked most = record { cases = omega arith; steps = omega arith; cells = omega arith }

-- all of it is little
pub few-work : {most m n : ℕ} {b : Best} → m ≤ n → Worked most m b → (b.steps ≤ n * most) × (b.cells ≤ n * most_work)
few-work {most} {m} {n} {b} h w =
    let c : b.cases ≤ n = omega (arith, h, w.cases) in
    (omega (arith, w.steps, mul-le-mul_right most c), omega (arith, w.cells, c))

pub enter : (p q : Problem) (ns : Needs) (most : ℕ) (r : Solved) (c : Best) → FiguresInRange q → SolvesWithin most q r → most ≤ case_steps → ns.count ≤ 16
    → Part (instance_of p) (needs_of ns) (instance_of q) → Holds (instance_of p) c → Worked most c.cases c
    → c.cases + twigs (undecided (instance_of q) (needs_of ns)) ≤ 131072 → Branches q r ns most c
enter p q ns most r c f so short few part h w room = record {
  figures = f;
  solved = so;
  short = short;
  few = few;
  allowed = part.allowed;
  limited = part.limited;
  holds = λ e. part.into c.answer (h e);
  worked = w;
  room = room;
}

-- ---- what is looked through, by any order that goes by worth first

module _ {L : (Point → Frac) → ℕ → Point → Point → Type 0} (order : WorthFirst L) (s : Instance) (ns : List Need) where
  module _ (b : Best) (a : Answer) (answers : Answers s a) (limited : Bounded s) (holds : Holds s b)
      (top : a.kind ≡ kind.Optimal → Top (L (value s) s.count) (Feasible s) (point_of a)) where
    searched-behind : (a.kind ≢ kind.Optimal) ⊎ ((b.found ≡ true) × ((a.kind ≡ kind.Optimal) × ShownLeads s.count b.answer a))
        → SearchedNeeds L s ns (known b) (known b)
    searched-behind (inl ne) = needs-infeasible order s ns (known b) (plain-infeasible s a answers limited ne)
    searched-behind (inr (f, (k, l))) = subst (λ e. SearchedNeeds L s ns (known_if e (point_of b.answer)) (known_if e (point_of b.answer))) (sym f)
        (needs-behind order s ns (point_of b.answer) (point_of a) (top k)
        (order.leading s (point_of b.answer) (point_of a) (leads-points s b.answer a (holds f).exact (worthy-of s a answers k).exact l)))

    searched-kept : (k : a.kind ≡ kind.Optimal) → (b.found ≡ true → ShownLeads s.count a b.answer) → KeepsNeeds ns (point_of a)
        → SearchedNeeds L s ns (known b) (best (point_of a))
    searched-kept k l kept = needs-kept order s ns (known b) (point_of a) (top k) kept (follows b.found refl)
      where
        follows : (t : Bool) → b.found ≡ t → Follows (L (value s) s.count) (best (point_of a)) (known_if t (point_of b.answer))
        follows true e = order.leading s (point_of a) (point_of b.answer)
            (leads-points s a b.answer (worthy-of s a answers k).exact (holds e).exact (l e))
        follows false e = tt

  searched-split : Every (Allowed s) ns → (n : Need) → In n ns → (v w : Instance) → v ≡ without s n.item → w ≡ having s n.cover
      → (b c d : Known Point) → SearchedNeeds L v ns b c → SearchedNeeds L w ns c d → SearchedNeeds L s ns b d
  searched-split allowed n i v w v-is w-is b c d x y = needs-split order s ns (inside-allowed s ns allowed) n i b c d
      (subst (λ u. SearchedNeeds L u ns b c) v-is x) (subst (λ u. SearchedNeeds L u ns c d) w-is y)

-- ---- nothing is ahead, or the point keeps all needs

module _ (s : Instance) (ns : List Need) (most : ℕ) (b : Best) (r : Solved) (a : Answer) (answers : Answers s a) (first : ShownFirst s a)
    (limited : Bounded s) (holds : Holds s b) (work : Worked most (b.cases + 1) (counted_of b r)) where
  by-worth : a.kind ≡ kind.Optimal → Top (WorthBy (value s) s.count) (Feasible s) (point_of a)
  by-worth k = optimal-is-top s (point_of a) (optimal-of s a answers k).optimal

  by_place : AllLower s → a.kind ≡ kind.Optimal → Top (PointLeadsBy (value s) s.count) (Feasible s) (point_of a)
  by_place low k = first-is-top s (point_of a) (optimal-of s a answers k).optimal (first low k)

  room : b.cases + 1 ≤ b.cases + twigs (undecided s ns)
  room = omega (arith, twigs-some (undecided s ns))

  pub through-behind : (a.kind ≢ kind.Optimal) ⊎ ((b.found ≡ true) × ((a.kind ≡ kind.Optimal) × ShownLeads s.count b.answer a))
      → Through s ns most b (counted_of b r)
  through-behind h = record {
    worth = searched-behind worth-order s ns b a answers limited holds by-worth h;
    first = λ low. searched-behind first-order s ns b a answers limited holds (by_place low) h;
    holds = holds;
    worked = more-work room work;
  }

  pub through-kept : (a.kind ≡ kind.Optimal) × (b.found ≡ true → ShownLeads s.count a b.answer) → KeepsNeeds ns (point_of a)
      → Through s ns most b (with_best (counted_of b r) a)
  through-kept (k, l) kept = record {
    worth = searched-kept worth-order s ns b a answers limited holds by-worth k l kept;
    first = λ low. searched-kept first-order s ns b a answers limited holds (by_place low) k l kept;
    holds = λ e. worthy-of s a answers k;
    worked = let w = more-work room work in record { cases = w.cases; steps = w.steps; cells = w.cells };
  }

-- ---- both cases are gone through

pub through-split : (s : Instance) (ns : List Need) (most : ℕ) → Every (Allowed s) ns → (n : Need) → In n ns → (v w : Instance) → v ≡ without s n.item
    → w ≡ having s n.cover → Part s ns v → Part s ns w → (b c d e : Best) → known c ≡ known b → c.cases ≡ b.cases + 1
    → Through v ns most c d → Through w ns most d e → Through s ns most b e
through-split s ns most allowed n i v w v-is w-is pv pw b c d e same more x y = record {
  worth = subst (λ k. SearchedNeeds WorthBy s ns k (known e)) same
      (searched-split worth-order s ns allowed n i v w v-is w-is (known c) (known d) (known e) x.worth y.worth);
  first = λ low. subst (λ k. SearchedNeeds PointLeadsBy s ns k (known e)) same
      (searched-split first-order s ns allowed n i v w v-is w-is (known c) (known d) (known e)
      (x.first (subst AllLower (sym v-is) (lower-without s n.item (allowed n i).item.inside low)))
      (y.first (subst AllLower (sym w-is) (lower-having s n.cover low))));
  holds = λ f. pw.out e.answer (y.holds f);
  worked = record {
    cases = omega (arith, more, x.worked.cases, y.worked.cases, twigs-two (undecided v ns) (undecided w ns) (undecided s ns) pv.fewer pw.fewer);
    steps = y.worked.steps;
    cells = y.worked.cells;
  };
}
