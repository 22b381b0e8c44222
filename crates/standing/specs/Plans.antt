-- What is owed of standing plans: paper 02, request 10. A reader has to believe this file, Changes, and what PlannedBoth stands on.
--   Holds m p        the plan holds the problem m, and the planner's replies to it, in both senses
--   Opens m r        the first plan of a problem
--   Left p m q v     what a change to the problem m leaves of the plan p: if accepted a plan of m, if refused the plan as it came
--   Tries p m r      the changed problem m was tried as a record
--   Changes c p r    the change c of the plan p: its verdict, and what it leaves
--   Came p           p came from the planner by changes
use Rattle.std.specs.Prelude.{◌≡◌}
use Rattle.knapsack.specs.Verdicts.{Verdict}
use Rattle.std.specs.Prelude.{Ok, Err}
use Rattle.model.specs.declared.Model.{Model}
use Rattle.model.specs.Records.{verdict}
use Rattle.senses.specs.Both.{PlannedBoth}
use Rattle.standing.specs.declared.Changed.{Changed}
use Rattle.standing.specs.declared.Plan.{Plan}
use Rattle.standing.specs.Changes.{Change, changed, change_verdict}

pub record Holds (m : Model) (p : Plan) : Type 0 where
  pub model : p.model ≡ m
  pub answers : PlannedBoth m p.answers

pub record Opens (m : Model) (r : Changed) : Type 0 where
  pub told : r.verdict ≡ verdict m
  pub holds : Holds m r.plan

abbrev pub Left : Plan → Model → Plan → Verdict → Type 0
Left p m q (Ok _) = Holds m q
Left p m q (Err f) = q ≡ p

pub record Tries (p : Plan) (m : Model) (r : Changed) : Type 0 where
  pub told : r.verdict ≡ verdict m
  pub left : Left p m r.plan (verdict m)

pub record Changes (c : Change) (p : Plan) (r : Changed) : Type 0 where
  pub told : r.verdict ≡ change_verdict c p.model
  pub left : Left p (changed c p.model) r.plan (change_verdict c p.model)

pub data Came : Plan → Type 0 where
  opened : {q : Plan} (m : Model) (r : Changed) → Opens m r → r.plan ≡ q → Came q
  later : {p q : Plan} (c : Change) (r : Changed) → Came p → Changes c p r → r.plan ≡ q → Came q
