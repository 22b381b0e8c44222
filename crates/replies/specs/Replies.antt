-- What is printed for a sheet, and listed for a record or a sheet.
--   both_refused f      the answers that tell the refusal f
--   AnsweredAs m a v   the planner's answers to the record m, or the refusal of v
--   Answered r a       a answers what was read
--   Replies s t        t is the text of the answers to the sheet s
--   Lists T n b c r    the buffer b becomes c, and r says so, for answers about n items of which T holds; a refusal leaves b as it was
--   SheetLists s b c r the same for the answers to the sheet s
use Rattle.std.specs.Prelude.{◌≡◌, List, ℕ}
use Rattle.knapsack.specs.declared.Refusal.{Refusal}
use Rattle.knapsack.specs.declared.Kind.TheVariants as kind
use Rattle.knapsack.specs.Verdicts.{Verdict}
use Rattle.std.specs.Prelude.{Ok, Err, Result}
use Rattle.knapsack.specs.Meaning.{bare}
use Rattle.text.specs.declared.Text.{Text}
use Rattle.text.specs.Buffer.{Shows, told, filled, noted}
use Rattle.model.specs.declared.Answers.{Answers}
use Rattle.listing.specs.Printing.{printed_both, unless_refused}
use Rattle.model.specs.declared.Model.{Model}
use Rattle.senses.specs.Both.{PlannedBoth}
use Rattle.sheet.specs.declared.Reading.{Reading}
use Rattle.sheet.specs.Reading.{read_sheet}

abbrev pub both_refused : Refusal → Answers
both_refused f = record { sure = bare (kind.Refused f); possible = bare (kind.Refused f) }

abbrev pub AnsweredAs : Model → Answers → Verdict → Type 0
AnsweredAs m a (Ok _) = PlannedBoth m a
AnsweredAs m a (Err f) = a ≡ both_refused f

abbrev pub Answered : Reading → Answers → Type 0
Answered r a = AnsweredAs r.model a r.verdict

pub record Replies (s : List ℕ) (t : Text) : Type 0 where
  pub answers : Answers
  pub is_true : Answered (read_sheet s) answers
  pub shown : Shows (printed_both (read_sheet s).model.count answers) t

pub record Lists (T : Answers → Type 0) (n : ℕ) (b c : List ℕ) (r : Result ℕ Refusal) : Type 0 where
  pub answers : Answers
  pub is_true : T answers
  pub told_is : r ≡ unless_refused answers.sure.kind noted (told (printed_both n answers) b)
  pub left_is : c ≡ unless_refused answers.sure.kind (λ f. b) (filled (printed_both n answers) b)

abbrev pub SheetLists : List ℕ → List ℕ → List ℕ → Result ℕ Refusal → Type 0
SheetLists s b c r = Lists (Answered (read_sheet s)) (read_sheet s).model.count b c r
