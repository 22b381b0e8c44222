-- Every answer that is true of a problem with needs keeps the demands. The case of a record is planned-demands (planner, proofs/Demands).
-- relaxed-says: the relaxation is of the problem's kind.
-- demands-needs: where the needs are allowed, every true answer does.
use mathlib.Core.Path.{◌≡◌, refl, sym, ◌∙◌, subst}
use mathlib.Core.List.{List}
use mathlib.Core.Logic.{◌⊎◌, inl, inr}
use Rattle.knapsack.specs.Meaning.{Instance, point_of}
use Rattle.knapsack.specs.declared.Answer.{Answer}
use Rattle.knapsack.specs.declared.Kind.{Kind}
use Rattle.knapsack.specs.declared.Kind.TheVariants as kind
use Rattle.model.specs.Needs.{Every, Allowed, InfeasibleNeeds, AnswersNeeds, AnswersAsNeeds, relaxed_but}
use Rattle.model.specs.declared.Need.{Need}
use Rattle.cases.specs.Demands.{HasOptimalNeeds, HasRayNeeds, EndlessNeeds, DemandsNeeds}
use Rattle.cases.proofs.Once.{Says, says, ray-endless, best-ends, endless-some, best-some, says-once, kind-once, value-once, shown-order}
use Rattle.cases.proofs.Points.{inside-allowed}
use Rattle.cases.proofs.Relaxing.{relaxed-needs, relaxed-never-below, rounded-needs, relaxed-ray}

module _ (s : Instance) (ns : List Need) where
  -- only the kind unbounded agrees with a value that has no end
  endless-kind : (k : Kind) → Says s ns k → EndlessNeeds s ns → k ≡ kind.Unbounded
  endless-kind kind.Optimal x h = absurd (best-ends s ns x h)
  endless-kind kind.Infeasible x h = absurd (endless-some s ns h x)
  endless-kind kind.Unbounded x h = refl
  endless-kind (kind.Refused f) x h = absurd x

  one_of : (k : Kind) → Says s ns k → HasOptimalNeeds s ns ⊎ (InfeasibleNeeds s ns ⊎ HasRayNeeds s ns)
  one_of kind.Optimal x = inl x
  one_of kind.Infeasible x = inr (inl x)
  one_of kind.Unbounded x = inr (inr x)
  one_of (kind.Refused f) x = absurd x

  endless-relaxed : EndlessNeeds s ns → EndlessNeeds (relaxed_but ns s) ns
  endless-relaxed h v = let z = h v in (z.0, relaxed-needs s ns ns z.0 z.1, z.2)

  module _ (allowed : Every (Allowed s) ns) where
    pub relaxed-says : (k m : Kind) → Says s ns k → Says (relaxed_but ns s) ns m → m ≡ k
    relaxed-says k kind.Infeasible x y = says-once s ns kind.Infeasible k (λ z p. y z (relaxed-needs s ns ns z p)) x
    relaxed-says k kind.Unbounded x (y, d, u) = let r = relaxed-ray s ns allowed y d u in says-once s ns kind.Unbounded k (r.0, d, r.1) x
    relaxed-says kind.Optimal kind.Optimal x y = refl
    relaxed-says kind.Infeasible kind.Optimal x y =
        let p = rounded-needs s ns (inside-allowed s ns allowed) y.0 y.1.feasible in
        absurd (x p.0 p.1)
    relaxed-says kind.Unbounded kind.Optimal x y = absurd (best-ends (relaxed_but ns s) ns y (endless-relaxed (ray-endless s ns x)))
    relaxed-says (kind.Refused f) kind.Optimal x y = absurd x
    relaxed-says k (kind.Refused f) x y = absurd y

    pub demands-needs : (a : Answer) → AnswersNeeds s ns a → DemandsNeeds s ns a
    demands-needs a t = record {
      optimal-exactly = (λ e. subst (Says s ns) e told, λ x. says-once s ns a.kind kind.Optimal told x);
      infeasible-exactly = (λ e. subst (Says s ns) e told, λ x. says-once s ns a.kind kind.Infeasible told x);
      unbounded-exactly = (λ e. subst (Says s ns) e told, λ x. says-once s ns a.kind kind.Unbounded told x);
      endless-exactly = (λ e. ray-endless s ns (subst (Says s ns) e told), λ x. endless-kind a.kind told x);
      one_of_three = record {
        some = one_of a.kind told;
        first-not-second = λ x. best-some s ns x.0 x.1;
        first-not-third = λ x. best-ends s ns x.0 (ray-endless s ns x.1);
        second-not-third = λ x. endless-some s ns (ray-endless s ns x.1) x.0;
      };
      kind-once = λ b u. kind-once s ns a b t u;
      value-once = λ b u. sym (value-once s ns a b a.kind t (subst (AnswersAsNeeds s ns b) (kind-once s ns a b t u) u));
      relaxed-kind = λ c u. loose c u;
      relaxed-value = λ c u e.
          let x = subst (AnswersAsNeeds s ns a) e t in
          let y = subst (AnswersAsNeeds (relaxed_but ns s) ns c) (loose c u ∙ e) u in
          shown-order s (relaxed_but ns s) ns a c x y (relaxed-never-below s ns (point_of a) (point_of c) x.optimal y.optimal);
    }
      where
        told : Says s ns a.kind
        told = says s ns a a.kind t

        loose : (c : Answer) → AnswersNeeds (relaxed_but ns s) ns c → c.kind ≡ a.kind
        loose c u = relaxed-says a.kind c.kind told (says (relaxed_but ns s) ns c c.kind u)
