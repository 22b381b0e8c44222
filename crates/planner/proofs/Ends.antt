-- The answer of a problem with needs, from what is found from nothing.
-- ray-kind: the test of a kind.  limited-by: a plain problem that is not unbounded has no ray.  limited-worthless: nor has one at price 0.
-- unpriced-none, unpriced-more, unpriced-is, unpriced-figures: the problem at price 0.
-- told-answers, ray-answers, ray-kept: the answers.  told-first: the point is the first best.  ray-first, no-first: of steps there is none to be shown.
-- more-steps: with more steps allowed.
use mathlib.Core.Path.{◌≡◌, refl, sym, ap, subst, ◌∙◌, fun_ext}
use mathlib.Core.Bool.{Bool, true, false}
use mathlib.Core.List.{List}
use Prim.Native.Nat.{ℕ, ◌+◌, ◌≤◌, ◌<◌}
use native.Mathlib.Decide.{ℕ_discrete, dec_lt}
use native.Mathlib.Nat.{mul-le-mul_left}
use native.Mathlib.Omega.{arith}
use lib.IntN.{ℤ, pos, nat_abs, ◌*ℤ◌}
use lib.ListN.{length, length-set, get_or, set, get_or-eq_default}
use lib.Seq.{get_or-set_same, get_or-set_other}
use lib.Signed.{◌≤ℤ◌, clash_ℤ}
use Rattle.arith.proofs.Integers.{split, zed}
use Rattle.arith.proofs.Parts.{impossible}
use Rattle.arith.proofs.Sums.{sum-scale}
use Rattle.arith.specs.Sum.{sum}
use Rattle.knapsack.proofs.Demands.{demands}
use Rattle.knapsack.proofs.Rays.{ray-unbounded, unbounded-ray}
use Rattle.knapsack.specs.Items.{with_item}
use Rattle.knapsack.specs.Meaning.{Instance, instance_of, ShownUnbounded, amount_at, point_of, steps_of, bare, Answers, AnswersAs}
use Rattle.knapsack.specs.Meaning.{AllLower}
use Rattle.knapsack.specs.Ranges.{blank, item_at}
use Rattle.knapsack.specs.declared.Answer.{Answer}
use Rattle.knapsack.specs.declared.Item.{Item}
use Rattle.knapsack.specs.declared.Kind.{Kind}
use Rattle.knapsack.specs.declared.Kind.TheVariants as kind
use Rattle.knapsack.specs.declared.Problem.{Problem}
use Rattle.model.specs.Records.{ItemFigures, FiguresInRange}
use Rattle.solver.specs.declared.Solved.{Solved}
use Rattle.cases.proofs.Endless.{unbounded-needs, needs-priced, worthless}
use Rattle.cases.proofs.Limits.{shown-priced}
use Rattle.cases.proofs.Searched.{nothing}
use Rattle.cases.proofs.Searching.{SearchedNeeds, WorthBy, worth-order, needs-nothing, needs-best, top-is-optimal}
use Rattle.cases.proofs.Searching.{PointLeadsBy, first-order, top-is-first}
use Rattle.model.specs.declared.Need.{Need}
use Rattle.model.specs.Needs.{Every, Allowed, KeepsNeeds, ForemostNeeds, AnswersNeeds, AnswersAsNeeds, ShownFirstNeeds}
use Rattle.planner.specs.declared.Best.{Best}
use Rattle.planner.specs.Branching.{most_cases, is_optimal, is_unbounded, known_if, known, Holds, Bounded, unpriced_item, Unpriced, ray_from, SolvesNeeds}

-- ---- no ray

pub ray-kind : (k : Kind) → is_unbounded k ≡ true → k ≡ kind.Unbounded
ray-kind kind.Optimal h = absurd (impossible h)
ray-kind kind.Infeasible h = absurd (impossible h)
ray-kind kind.Unbounded h = refl
ray-kind (kind.Refused f) h = absurd (impossible h)

pub limited-by : (s : Instance) (a : Answer) → Answers s a → is_unbounded a.kind ≡ false → Bounded s
limited-by s a answers h x d u = go a.kind refl answers h
  where
    go : (k : Kind) → a.kind ≡ k → AnswersAs s a k → is_unbounded k ≡ false → ⊥
    go kind.Optimal e g n = (demands s a answers).one_of_three.first-not-third ((point_of a, g.optimal), (x, d, u))
    go kind.Infeasible e g n = g.0 x u.from
    go kind.Unbounded e g n = impossible (sym n)
    go (kind.Refused f) e g n = g

pub limited-worthless : (s : Instance) → Bounded (worthless s)
limited-worthless s x d u = clash_ℤ (unbounded-ray (worthless s) x d u).gain (flat (sum-scale s.count (pos 0) d))
  where
    flat : sum s.count (λ k. pos 0 *ℤ d k) ≡ pos 0 *ℤ sum s.count d → sum s.count (λ k. pos 0 *ℤ d k) ≤ℤ pos 0
    flat e = subst (λ z. z ≤ℤ pos 0) (sym e) (go (sum s.count d))
      where
        go : (z : ℤ) → (pos 0 *ℤ z) ≤ℤ pos 0
        go = split _ (λ a b. simp zed (omega arith))

-- ---- the problem at price 0

pub unpriced-none : (p : Problem) → length p.items ≡ 16 → Unpriced p 0 p
unpriced-none p l = record { count = refl; capacity = refl; long = l; items = λ j h. absurd (omega arith) }

pub unpriced-more : (p q : Problem) (k : ℕ) → k < 16 → Unpriced p k q → Unpriced p (k + 1) (with_item q k (unpriced_item (item_at p k)))
unpriced-more p q k l e = record {
  count = e.count;
  capacity = e.capacity;
  long = simp length-set e.long;
  items = λ j h. go j h (ℕ_discrete j k);
}
  where
    go : (j : ℕ) → j < k + 1 → Dec (j ≡ k) → get_or (set q.items k (unpriced_item (item_at p k))) j blank ≡ unpriced_item (item_at p j)
    go j h (yes i) = rw i (get_or-set_same q.items k (unpriced_item (item_at p k)) blank (omega (arith, e.long)))
    go j h (no i) = get_or-set_other q.items k j (unpriced_item (item_at p k)) blank i ∙ e.items j (omega arith)

module _ (p q : Problem) (long : length p.items ≡ 16) (e : Unpriced p 16 q) where
  same_item : (j : ℕ) → item_at q j ≡ unpriced_item (item_at p j)
  same_item j = go (dec_lt j 16)
    where
      go : Dec (j < 16) → item_at q j ≡ unpriced_item (item_at p j)
      go (yes h) = e.items j h
      go (no h) = get_or-eq_default q.items blank (omega (arith, e.long))
          ∙ sym (ap unpriced_item (get_or-eq_default p.items blank (omega (arith, long))))

  pub unpriced-is : instance_of q ≡ worthless (instance_of p)
  unpriced-is = go q.count q.capacity (item_at q) e.count e.capacity (fun_ext same_item)
    where
      go : (n : ℕ) (b : ℤ) (f : ℕ → Item) → n ≡ p.count → b ≡ p.capacity → f ≡ (λ j. unpriced_item (item_at p j))
          → ◌≡◌ {A = Instance} (record { capacity = b; count = n; item = f }) (worthless (instance_of p))
      go n b f x y z = rw (x, y, z) refl

  pub unpriced-figures : FiguresInRange p → FiguresInRange q
  unpriced-figures f = record {
    some-items = omega (arith, e.count, f.some-items);
    few-items = omega (arith, e.count, f.few-items);
    capacity-in = subst (λ b. nat_abs b ≤ 100000000) (sym e.capacity) f.capacity-in;
    items-in = λ j h. subst ItemFigures (sym (same_item j)) (at j (omega (arith, e.count)));
  }
    where
      at : (j : ℕ) → j < p.count → ItemFigures (unpriced_item (item_at p j))
      at j h = record {
        weight-in = (f.items-in j h).weight-in;
        price-in = omega arith;
        lower_in = (f.items-in j h).lower_in;
        upper_in = (f.items-in j h).upper_in;
      }

-- ---- the answers

module _ (s : Instance) (ns : List Need) (c : Best) (r : Answer) where
  pub told-answers : SearchedNeeds WorthBy s ns nothing (known c) → Holds s c → (c.found ≡ true → r ≡ c.answer)
      → (c.found ≡ false → r ≡ bare kind.Infeasible) → AnswersNeeds s ns r
  told-answers w h yes-is no-is = go c.found refl w
    where
      go : (t : Bool) → c.found ≡ t → SearchedNeeds WorthBy s ns nothing (known_if t (point_of c.answer)) → AnswersNeeds s ns r
      go true e g = let k = h e in subst (AnswersNeeds s ns) (sym (yes-is e)) (subst (AnswersAsNeeds s ns c.answer) (sym k.kind-is) (record {
        optimal = top-is-optimal s ns (point_of c.answer) (needs-best worth-order s ns (point_of c.answer) g);
        shown = k.shown;
        exact = k.exact;
        divisor = k.divisor;
        lowest = k.lowest;
        still = k.still;
      }))
      go false e g = subst (AnswersNeeds s ns) (sym (no-is e)) (needs-nothing worth-order s ns g, refl)

  -- and of the best points it is the first
  pub told-first : (AllLower s → SearchedNeeds PointLeadsBy s ns nothing (known c)) → (c.found ≡ true → r ≡ c.answer)
      → (c.found ≡ false → r ≡ bare kind.Infeasible) → ShownFirstNeeds s ns r
  told-first w yes-is no-is low k = go c.found refl (w low)
    where
      other : kind.Infeasible ≡ kind.Optimal → ⊥
      other e = impossible (ap is_optimal e)

      go : (t : Bool) → c.found ≡ t → SearchedNeeds PointLeadsBy s ns nothing (known_if t (point_of c.answer)) → ForemostNeeds s ns (point_of r)
      go true e g = subst (λ x. ForemostNeeds s ns (point_of x)) (sym (yes-is e))
          (top-is-first s ns (point_of c.answer) (needs-best first-order s ns (point_of c.answer) g)).1
      go false e g = absurd (other (sym (ap (λ (x : Answer). x.kind) (no-is e)) ∙ k))

  -- from steps that are unbounded in the plain problem
  module _ (allowed : Every (Allowed s) ns) (a : Answer) (u : ShownUnbounded s a) where
    pub ray-answers : SearchedNeeds WorthBy (worthless s) ns nothing (known c) → Holds (worthless s) c
        → (c.found ≡ true → r ≡ ray_from c.answer a.steps) → (c.found ≡ false → r ≡ bare kind.Infeasible) → AnswersNeeds s ns r
    ray-answers w h yes-is no-is = go c.found refl w
      where
        go : (t : Bool) → c.found ≡ t → SearchedNeeds WorthBy (worthless s) ns nothing (known_if t (point_of c.answer)) → AnswersNeeds s ns r
        go true e g =
            let f = (needs-priced s ns (λ k. pos 0) (point_of c.answer)).1 (needs-best worth-order (worthless s) ns (point_of c.answer) g).inside in
            let v = u.unbounded in
            let ray = unbounded-ray s (point_of a) (steps_of a) v in
            subst (AnswersNeeds s ns) (sym (yes-is e)) (record {
              unbounded = unbounded-needs s (point_of c.answer) (steps_of a) (ray-unbounded s (point_of c.answer) (steps_of a) v.i v.j v.i-in
                  v.j-in v.i-moves v.j-moves v.others ray f.plain) ns allowed f;
              shown = shown-priced s (λ k. pos 0) (amount_at c.answer) (h e).shown;
              steps = u.steps;
              endless = refl;
            })
        go false e g = subst (AnswersNeeds s ns) (sym (no-is e))
            ((λ x f. needs-nothing worth-order (worthless s) ns g x ((needs-priced s ns (λ k. pos 0) x).0 f)), refl)

    pub ray-first : (c.found ≡ true → r ≡ ray_from c.answer a.steps) → (c.found ≡ false → r ≡ bare kind.Infeasible) → ShownFirstNeeds s ns r
    ray-first yes-is no-is low k = absurd (go c.found refl)
      where
        go : (t : Bool) → c.found ≡ t → ⊥
        go true e = impossible (ap is_optimal (sym (ap (λ (x : Answer). x.kind) (yes-is e)) ∙ k))
        go false e = impossible (ap is_optimal (sym (ap (λ (x : Answer). x.kind) (no-is e)) ∙ k))

    -- or from a point of its own that keeps the needs
    pub ray-kept : a.kind ≡ kind.Unbounded → KeepsNeeds ns (point_of a) → AnswersNeeds s ns a
    ray-kept k h = subst (AnswersAsNeeds s ns a) (sym k) (record {
      unbounded = unbounded-needs s (point_of a) (steps_of a) u.unbounded ns allowed (record { plain = u.unbounded.from; kept = h });
      shown = u.shown;
      steps = u.steps;
      endless = u.endless;
    })

pub no-first : (s : Instance) (ns : List Need) (a : Answer) → a.kind ≡ kind.Unbounded → ShownFirstNeeds s ns a
no-first s ns a k low e = absurd (impossible (ap is_optimal (sym k ∙ e)))

pub more-steps : {m n : ℕ} {p : Problem} {ns : List Need} {r : Solved} → m ≤ n → SolvesNeeds m p ns r → SolvesNeeds n p ns r
more-steps {ns = ns} h r = record {
  answers = r.answers;
  first = r.first;
  few-steps = omega (arith, r.few-steps, mul-le-mul_left (most_cases ns) h);
  few-cells = r.few-cells;
}
