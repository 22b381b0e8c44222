-- What the planner owes for a record, in paper 01's words (cases, specs/Demands).
-- planned-demands (end theorem): the reply to an accepted record keeps every demand. `plan` takes each record and ends, so for each accepted one exactly
-- one of optimal, infeasible and unbounded holds, by `one_of_three`.
use mathlib.Core.Path.{◌≡◌, subst}
use Rattle.knapsack.specs.Meaning.{instance_of}
use Rattle.knapsack.specs.declared.Answer.{Answer}
use Rattle.std.specs.Prelude.{Ok}
use Rattle.model.proofs.Records.{accepted}
use Rattle.model.specs.Promises.{RepliesAs, Planned}
use Rattle.model.specs.Records.{plain_of, needs_of, verdict}
use Rattle.model.specs.declared.Model.{Model}
use Rattle.model.specs.declared.Sense.{Sense}
use Rattle.cases.proofs.Demands.{demands-needs}
use Rattle.cases.specs.Demands.{DemandsNeeds}
use Rattle.planner.proofs.Breaking.{needed}

pub planned-demands : (sense : Sense) (m : Model) → verdict m ≡ Ok tt → (a : Answer) → Planned sense m a →
    DemandsNeeds (instance_of (plain_of sense m)) (needs_of m.needs) a
planned-demands sense m e a h =
    let s = instance_of (plain_of sense m) in
    let ns = needs_of m.needs in
    demands-needs s ns (needed sense m (accepted m e)).allowed a (subst (RepliesAs s ns a) e h.replies)
