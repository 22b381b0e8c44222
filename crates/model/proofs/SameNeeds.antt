-- The places beyond the count play no part, with needs.
-- without-needs (end theorem): where there are no needs, the plain meaning is the meaning.
-- same-relaxed-but: problems that are the same have the same relaxations. same-answers-needs: and the same answers.
-- same-first-needs: and a best point that comes first for one does for the other.
use mathlib.Core.Path.{ap, sym, subst, subst₂}
use mathlib.Core.List.{List, []}
use mathlib.Core.Logic.{◌≢◌}
use Prim.Native.Nat.{ℕ}
use native.Mathlib.Omega.{arith}
use Rattle.arith.specs.Fractions.{frac, ◌≤ᶠ◌, ◌≈ᶠ◌}
use Rattle.knapsack.proofs.Same.{Same, same-sym, same-value, same-feasible, same-unbounded, same-shown}
use Rattle.knapsack.specs.Meaning.{Instance, Point, Feasible, stepped, amount_at, point_of, steps_of, Answers, AnswersAs, Earlier}
use Rattle.knapsack.specs.declared.Answer.{Answer}
use Rattle.std.specs.Prelude.{None}
use Rattle.knapsack.specs.declared.Item.{Item}
use Rattle.knapsack.specs.declared.Kind.{Kind}
use Rattle.knapsack.specs.declared.Kind.TheVariants as kind
use Rattle.model.specs.declared.Need.{Need}
use Rattle.model.specs.Needs.{In, FeasibleNeeds, AnswersNeeds, AnswersAsNeeds, ShownFirstNeeds, names, loosened, relaxed_but}

-- ---- no needs

none_in : (n : Need) → In n [] → ⊥
none_in n = elim [ ]

none_kept : (s : Instance) (x : Point) → Feasible s x → FeasibleNeeds s [] x
none_kept s x f = record { plain = f; kept = λ n i. absurd (none_in n i) }

pub without-needs : (s : Instance) (a : Answer) → Answers s a → AnswersNeeds s [] a
without-needs s a = go a.kind
  where
    go : (k : Kind) → AnswersAs s a k → AnswersAsNeeds s [] a k
    go kind.Optimal h = record {
      optimal = record { feasible = none_kept s (point_of a) h.optimal.feasible; highest = λ y f. h.optimal.highest y f.plain };
      shown = h.shown;
      exact = h.exact;
      divisor = h.divisor;
      lowest = h.lowest;
      still = h.still;
    }
    go kind.Infeasible h = (λ x f. h.0 x f.plain, h.1)
    go kind.Unbounded h = record {
      unbounded = record {
        plain = h.unbounded;
        from = none_kept s (point_of a) h.unbounded.from;
        stays = λ t. none_kept s (stepped (point_of a) (steps_of a) t) (h.unbounded.stays t);
      };
      shown = h.shown;
      steps = h.steps;
      endless = h.endless;
    }
    go (kind.Refused f) h = h

-- ---- the same problem

pub same-relaxed-but : (ns : List Need) (s t : Instance) → Same s t → Same (relaxed_but ns s) (relaxed_but ns t)
same-relaxed-but ns s t e = record { capacity = e.capacity; count = e.count; items = λ k h. ap (loose k) (e.items k h) }
  where
    loose : ℕ → Item → Item
    loose k i = record { mark = loosened (names ns k) i.mark; weight = i.weight; price = i.price; lower = i.lower; upper = i.upper }

same-needs : (s t : Instance) → Same s t → (ns : List Need) (x : Point) → FeasibleNeeds s ns x → FeasibleNeeds t ns x
same-needs s t e ns x f = record { plain = same-feasible s t e x f.plain; kept = f.kept }

pub same-answers-needs : (s t : Instance) → Same s t → (ns : List Need) (a : Answer) → AnswersNeeds s ns a → AnswersNeeds t ns a
same-answers-needs s t e ns a = go a.kind
  where
    back : (y : Point) → FeasibleNeeds t ns y → FeasibleNeeds s ns y
    back y = same-needs t s (same-sym s t e) ns y

    go : (k : Kind) → AnswersAsNeeds s ns a k → AnswersAsNeeds t ns a k
    go kind.Optimal h = record {
      optimal = record {
        feasible = same-needs s t e ns (point_of a) h.optimal.feasible;
        highest = λ y f. subst₂ ◌≤ᶠ◌ (same-value s t e y) (same-value s t e (point_of a)) (h.optimal.highest y (back y f));
      };
      shown = same-shown s t e (amount_at a) h.shown;
      exact = subst (λ v. frac a.value.p a.value.q ≈ᶠ v) (same-value s t e (point_of a)) h.exact;
      divisor = h.divisor;
      lowest = h.lowest;
      still = h.still;
    }
    go kind.Infeasible h = (λ x f. h.0 x (back x f), h.1)
    go kind.Unbounded h = record {
      unbounded = record {
        plain = same-unbounded s t e (point_of a) (steps_of a) h.unbounded.plain;
        from = same-needs s t e ns (point_of a) h.unbounded.from;
        stays = λ n. same-needs s t e ns (stepped (point_of a) (steps_of a) n) (h.unbounded.stays n);
      };
      shown = same-shown s t e (amount_at a) h.shown;
      steps = λ k l. h.steps k (omega (arith, e.count));
      endless = h.endless;
    }
    go (kind.Refused f) h = h

pub same-first-needs : (s t : Instance) → Same s t → (ns : List Need) (a : Answer) → ShownFirstNeeds s ns a → ShownFirstNeeds t ns a
same-first-needs s t e ns a h lower k y o earlier =
    h (λ j l. subst (λ (i : Item). i.lower ≢ None) (sym (e.items j l)) (lower j (omega (arith, e.count)))) k y
    (record {
      feasible = same-needs t s (same-sym s t e) ns y o.feasible;
      highest = λ z f. subst₂ ◌≤ᶠ◌ (sym (same-value s t e z)) (sym (same-value s t e y)) (o.highest z (same-needs s t e ns z f));
    })
    (subst (λ n. Earlier n y (point_of a)) (sym e.count) earlier)
