-- A standing plan and the planner.
-- changes-holds, refused-back: what an accepted change and a refused one leave. changed-accepted: after an accepted change the record is accepted.
-- changes-alone (end theorem): an accepted change leaves every other item's figures.
-- removal-verdict (end theorem): a removal is refused by the record's own rows and by 17 and 18, never by the changed problem.
-- fresh-kind, fresh-value, fresh-once (end theorems): in either sense the answer after an accepted change is that of the changed problem solved afresh: in kind and value,
-- and in full where every item has a lower bound. fresh-demands: what it shows keeps the demands.
-- came-planned (end theorem): a plan that came from the planner by changes holds the planner's answers to its problem.
use mathlib.Core.Path.{◌≡◌, refl, sym, ◌∙◌, subst}
use Prim.Native.Nat.{ℕ}
use lib.ListN.{length}
use Rattle.knapsack.specs.Meaning.{Instance, instance_of, AllLower}
use Rattle.knapsack.specs.declared.Answer.{Answer}
use Rattle.knapsack.specs.declared.Refusal.{Refusal}
use Rattle.knapsack.specs.Verdicts.{Verdict}
use Rattle.std.specs.Prelude.{Ok, Err}
use Rattle.model.specs.declared.Model.{Model}
use Rattle.model.specs.declared.Sense.{Sense}
use Rattle.model.specs.Needs.{AnswersNeeds}
use Rattle.model.specs.Promises.{RepliesAs, Planned}
use Rattle.model.specs.Records.{plain_of, needs_of, or_else, verdict}
use Rattle.model.proofs.Records.{both-accept}
use Rattle.cases.proofs.Once.{SameAnswer, planned-once}
use Rattle.cases.specs.Demands.{DemandsNeeds}
use Rattle.planner.proofs.Demands.{planned-demands}
use Rattle.senses.specs.Both.{PlannedBoth, answer_in}
use Rattle.senses.proofs.Both.{both-planned}
use Rattle.standing.specs.Changes.{Change, Removing, removed, changed, missing_verdict, only_verdict, own_verdict, change_verdict}
use Rattle.standing.specs.Effects.{Alone}
use Rattle.standing.specs.Plans.{Holds, Left, Changes, Came, opened, later}
use Rattle.standing.specs.declared.Changed.{Changed}
use Rattle.standing.specs.declared.Plan.{Plan}
use Rattle.standing.proofs.Effects.{change-alone}
use Rattle.standing.proofs.Removed.{removed-accepted}
use Rattle.standing.proofs.Rows.{in_a_row, there-more}

pub changed-accepted : (c : Change) (m : Model) → change_verdict c m ≡ Ok tt → verdict (changed c m) ≡ Ok tt
changed-accepted c m h = (both-accept (or_else (verdict m) (own_verdict c m)) (verdict (changed c m)) h).1

pub removal-verdict : (k : ℕ) (m : Model) → change_verdict (Removing k) m ≡ or_else (verdict m) (own_verdict (Removing k) m)
removal-verdict k m = go (or_else (verdict m) (own_verdict (Removing k) m)) refl
  where
    go : (v : Verdict) → or_else (verdict m) (own_verdict (Removing k) m) ≡ v → or_else v (verdict (removed m k)) ≡ v
    go (Ok _) h =
        let t = there-more m k (in_a_row (verdict m) (missing_verdict m k) (only_verdict m) ∙ h) in
        removed-accepted m k t.0.taken t.0.least t.0.most t.1
    go (Err f) h = refl

module _ (c : Change) (p : Plan) (r : Changed) (d : Changes c p r) where
  abbrev new : Model
  new = changed c p.model

  pub changes-holds : r.verdict ≡ Ok tt → Holds new r.plan
  changes-holds h = subst (Left p new r.plan) (sym d.told ∙ h) d.left

  pub refused-back : (f : Refusal) → r.verdict ≡ Err f → r.plan ≡ p
  refused-back f h = subst (Left p new r.plan) (sym d.told ∙ h) d.left

  module _ (h : r.verdict ≡ Ok tt) where
    taken : verdict new ≡ Ok tt
    taken = changed-accepted c p.model (sym d.told ∙ h)

    pub changes-alone : length p.model.items ≡ 16 → Alone c p.model r.plan.model
    changes-alone full =
        let m = p.model in
        let rows = (both-accept (or_else (verdict m) (own_verdict c m)) (verdict new) (sym d.told ∙ h)).0 in
        subst (Alone c m) (sym (changes-holds h).model) (change-alone c m full rows)

    module _ (sense : Sense) where
      abbrev asked : Instance
      asked = instance_of (plain_of sense new)

      -- the answer that the plan holds in the sense
      abbrev held : Answer
      held = answer_in sense r.plan.answers

      held-planned : Planned sense new held
      held-planned = both-planned sense new r.plan.answers (changes-holds h).answers

      pub fresh-demands : DemandsNeeds asked (needs_of new.needs) held
      fresh-demands = planned-demands sense new taken held held-planned

      answers : (b : Answer) → Planned sense new b → AnswersNeeds asked (needs_of new.needs) b
      answers b q = subst (RepliesAs asked (needs_of new.needs) b) taken q.replies

      pub fresh-kind : (b : Answer) → Planned sense new b → b.kind ≡ held.kind
      fresh-kind b q = fresh-demands.kind-once b (answers b q)

      pub fresh-value : (b : Answer) → Planned sense new b → b.value ≡ held.value
      fresh-value b q = fresh-demands.value-once b (answers b q)

      pub fresh-once : AllLower asked → (b : Answer) → length held.point ≡ 16 → length b.point ≡ 16 → Planned sense new b → SameAnswer held b
      fresh-once low b la lb q = planned-once sense new low held b la lb held-planned q

-- ---- plans that came from the planner

abbrev Own : Plan → Type 0
Own p = PlannedBoth p.model p.answers

own : (m : Model) (p : Plan) → Holds m p → Own p
own m p h = subst (λ n. PlannedBoth n p.answers) (sym h.model) h.answers

pub came-planned : {p : Plan} → Came p → Own p
came-planned (opened m r o e) = subst Own e (own m r.plan o.holds)
came-planned (later {p} c r k d e) = subst Own e (go (change_verdict c p.model) d.left (came-planned k))
  where
    go : (v : Verdict) → Left p (changed c p.model) r.plan v → Own p → Own r.plan
    go (Ok _) h i = own (changed c p.model) r.plan h
    go (Err f) h i = subst Own (sym h) i
