-- The sure reply and the possible one to an accepted record (paper 02, request 11).
-- sense-pair: which kinds can stand side by side. answered-at-most: of true answers in both senses. sure-at-most (end theorem): of the planner's replies.
use mathlib.Core.Path.{◌≡◌, subst}
use mathlib.Core.List.{List}
use Rattle.knapsack.specs.Meaning.{point_of}
use Rattle.knapsack.specs.declared.Answer.{Answer}
use Rattle.knapsack.specs.declared.Kind.{Kind}
use Rattle.knapsack.specs.declared.Kind.TheVariants as kind
use Rattle.std.specs.Prelude.{Ok}
use Rattle.model.specs.Needs.{AnswersNeeds, AnswersAsNeeds}
use Rattle.model.specs.Promises.{RepliesAs, Planned}
use Rattle.model.specs.Records.{needs_of, verdict, AdmissibleBy}
use Rattle.model.specs.declared.Blanks.{Blanks}
use Rattle.model.specs.declared.Model.{Model}
use Rattle.model.specs.declared.Need.{Need}
use Rattle.model.specs.declared.Sense.TheVariants.{Sure, Possible}
use Rattle.model.proofs.Records.{accepted}
use Rattle.model.proofs.Senses.{asked, sure-possible, sure-optimal, sure-unbounded}
use Rattle.cases.specs.Senses.{SensePair, SureAtMost, both-best, best-unbounded, both-infeasible, infeasible-best, infeasible-unbounded, both-unbounded}
use Rattle.cases.proofs.Once.{Says, says, ray-endless, best-ends, shown-order}

module _ (m : Model) {b : Blanks} (adm : AdmissibleBy b m) where
  abbrev ns : List Need
  ns = needs_of m.needs

  -- every sure point is possible, and what raises a sure value for ever raises the possible one
  pub sense-pair : (k l : Kind) → Says (asked m Sure) ns k → Says (asked m Possible) ns l → SensePair k l
  sense-pair kind.Optimal kind.Optimal x y = both-best
  sense-pair kind.Optimal kind.Infeasible x y = absurd (y x.0 (sure-possible m adm x.0 x.1.feasible))
  sense-pair kind.Optimal kind.Unbounded x y = best-unbounded
  sense-pair kind.Infeasible kind.Optimal x y = infeasible-best
  sense-pair kind.Infeasible kind.Infeasible x y = both-infeasible
  sense-pair kind.Infeasible kind.Unbounded x y = infeasible-unbounded
  sense-pair kind.Unbounded kind.Optimal x y =
      absurd (best-ends (asked m Possible) ns y (ray-endless (asked m Possible) ns (x.0, x.1, sure-unbounded m adm x.0 x.1 x.2)))
  sense-pair kind.Unbounded kind.Infeasible x y = absurd (y x.0 (sure-possible m adm x.0 x.2.from))
  sense-pair kind.Unbounded kind.Unbounded x y = both-unbounded
  sense-pair (kind.Refused f) l x y = absurd x
  sense-pair kind.Optimal (kind.Refused f) x y = absurd y
  sense-pair kind.Infeasible (kind.Refused f) x y = absurd y
  sense-pair kind.Unbounded (kind.Refused f) x y = absurd y

  pub answered-at-most : (a c : Answer) → AnswersNeeds (asked m Sure) ns a → AnswersNeeds (asked m Possible) ns c → SureAtMost a c
  answered-at-most a c x y = record {
    kinds = sense-pair a.kind c.kind (says (asked m Sure) ns a a.kind x) (says (asked m Possible) ns c c.kind y);
    values = λ e f.
        let s = subst (AnswersAsNeeds (asked m Sure) ns a) e x in
        let p = subst (AnswersAsNeeds (asked m Possible) ns c) f y in
        shown-order (asked m Sure) (asked m Possible) ns a c s p (sure-optimal m adm (point_of a) (point_of c) s.optimal p.optimal);
  }

pub sure-at-most : (m : Model) → verdict m ≡ Ok tt → (a c : Answer) → Planned Sure m a → Planned Possible m c → SureAtMost a c
sure-at-most m e a c x y =
    let ns = needs_of m.needs in
    answered-at-most m (accepted m e) a c (subst (RepliesAs (asked m Sure) ns a) e x.replies) (subst (RepliesAs (asked m Possible) ns c) e y.replies)
