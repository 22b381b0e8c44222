-- What the entries owe for a record, refusals included. A reader has to believe this file, Records, Needs, and knapsack's Meaning and Ranges.
--   RepliesAs s ns a v   the answer is true of s with the needs ns, or tells the refusal
--   Planned sense m a    the planner's: such an answer, with the best point that comes first where every item has a lower bound
--   Relaxed sense m a    the relaxation's: the items that a need names keep their marks
use Rattle.std.specs.Prelude.{◌≡◌, List}
use Rattle.knapsack.specs.Meaning.{Instance, instance_of, bare}
use Rattle.knapsack.specs.declared.Answer.{Answer}
use Rattle.knapsack.specs.declared.Kind.TheVariants as kind
use Rattle.knapsack.specs.Verdicts.{Verdict}
use Rattle.std.specs.Prelude.{Ok, Err}
use Rattle.model.specs.declared.Model.{Model}
use Rattle.model.specs.declared.Need.{Need}
use Rattle.model.specs.declared.Sense.{Sense}
use Rattle.model.specs.Needs.{AnswersNeeds, ShownFirstNeeds, relaxed_but}
use Rattle.model.specs.Records.{plain_of, needs_of, verdict}

abbrev pub RepliesAs : Instance → List Need → Answer → Verdict → Type 0
RepliesAs s ns a (Ok _) = AnswersNeeds s ns a
RepliesAs s ns a (Err f) = a ≡ bare (kind.Refused f)

pub record Planned (sense : Sense) (m : Model) (a : Answer) : Type 0 where
  pub replies : RepliesAs (instance_of (plain_of sense m)) (needs_of m.needs) a (verdict m)
  pub first : ShownFirstNeeds (instance_of (plain_of sense m)) (needs_of m.needs) a

abbrev pub Relaxed : Sense → Model → Answer → Type 0
Relaxed sense m a = RepliesAs (relaxed_but (needs_of m.needs) (instance_of (plain_of sense m))) (needs_of m.needs) a (verdict m)
