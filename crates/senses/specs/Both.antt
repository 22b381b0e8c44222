-- The planner's answers in both senses (paper 02, request 11).
--   answer_in sense a   the answer in a sense
--   PlannedBoth m a    the planner's answers to the record m, in both senses
use Rattle.knapsack.specs.declared.Answer.{Answer}
use Rattle.model.specs.declared.Answers.{Answers}
use Rattle.model.specs.declared.Model.{Model}
use Rattle.model.specs.declared.Sense.{Sense}
use Rattle.model.specs.declared.Sense.TheVariants.{Sure, Possible}
use Rattle.model.specs.Promises.{Planned}

abbrev pub answer_in : Sense → Answers → Answer
answer_in Sure a = a.sure
answer_in Possible a = a.possible

pub record PlannedBoth (m : Model) (a : Answers) : Type 0 where
  pub sure : Planned Sure m a.sure
  pub possible : Planned Possible m a.possible
