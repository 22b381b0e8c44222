-- The answers in both senses, by the sense.
-- both-planned: the answer in a sense is the planner's in that sense.
use Rattle.model.specs.declared.Answers.{Answers}
use Rattle.model.specs.declared.Model.{Model}
use Rattle.model.specs.declared.Sense.{Sense}
use Rattle.model.specs.declared.Sense.TheVariants.{Sure, Possible}
use Rattle.model.specs.Promises.{Planned}
use Rattle.senses.specs.Both.{answer_in, PlannedBoth}

pub both-planned : (sense : Sense) (m : Model) (a : Answers) → PlannedBoth m a → Planned sense m (answer_in sense a)
both-planned Sure m a h = h.sure
both-planned Possible m a h = h.possible
