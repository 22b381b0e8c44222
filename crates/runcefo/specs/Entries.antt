-- What the entries reply.
--   told_number v       the number of a refusal, 0 where there is none
--   told_line v         the line of a refusal, 0 where there is none
--   length_of w         how long the text is that was handed over, 0 where none was
--   listed_verdict w    what is told of a text, as a verdict
--   saved s b          the verdict of rewriting the sheet s into the buffer b: that of s, or refusal 11 where b is shorter
--   left s b           the buffer afterwards: the sheet and the bytes behind it, or the buffer as it was
--   Solves sense m r   r answers the record m in a sense, and tells the work
--   Besides f m t n    the work for the possible reply is n, as f counts it: 0 unless t, that some weight is a range
--   WorkAs f v m n     the work for the record m with that verdict is n, for both replies; 0 where it is refused
--   Steps r n, Cells r n
--                      n steps are those of the searches for what was read, of at most 500 each; n cells are those that the scales write for it
--   Plans s b c l k n  the buffer b becomes c, and bytes written l, line k and number n say so, for a true answer to the sheet s
use Rattle.std.specs.Prelude.{◌≡◌, Bool, true, false, List, ℕ, ◌+◌}
use Rattle.knapsack.specs.Verdicts.{Verdict}
use Rattle.std.specs.Prelude.{Ok, Err, Result}
use Rattle.knapsack.specs.declared.Refusal.{Refusal}
use Rattle.text.specs.Buffer.{noted, told, filled}
use Rattle.model.specs.declared.Model.{Model}
use Rattle.model.specs.declared.Sense.{Sense}
use Rattle.model.specs.declared.Sense.TheVariants.{Sure, Possible}
use Rattle.model.specs.Records.{plain_of, needs_of}
use Rattle.solver.specs.declared.Solved.{Solved}
use Rattle.planner.specs.Branching.{SolvesNeeds, NeedsTake}
use Rattle.model.specs.Records.{some_range}
use Rattle.replies.specs.Replies.{SheetLists}
use Rattle.sheet.specs.declared.Reading.{Reading}
use Rattle.sheet.specs.Reading.{read_sheet}
use Rattle.writer.specs.Writing.{on_accepted}

abbrev pub told_number : Verdict → ℕ
told_number (Ok _) = 0
told_number (Err f) = f.number

abbrev pub told_line : Verdict → ℕ
told_line (Ok _) = 0
told_line (Err f) = f.line

abbrev pub length_of : Result ℕ Refusal → ℕ
length_of (Ok n) = n
length_of (Err f) = 0

abbrev pub listed_verdict : Result ℕ Refusal → Verdict
listed_verdict (Ok n) = Ok tt
listed_verdict (Err f) = Err f

abbrev pub saved : List ℕ → List ℕ → Verdict
saved s b = listed_verdict (on_accepted (read_sheet s).verdict noted (told s b))

abbrev pub left : List ℕ → List ℕ → List ℕ
left s b = on_accepted (read_sheet s).verdict (λ f. b) (filled s b)

pub record Solves (sense : Sense) (m : Model) (r : Solved) : Type 0 where
  pub answers : SolvesNeeds 500 (plain_of sense m) (needs_of m.needs) r
  pub work : NeedsTake 500 (plain_of sense m) m.needs r

abbrev pub Besides : (Solved → ℕ) → Model → Bool → ℕ → Type 0
Besides f m true n = (b : Solved) × (Solves Possible m b × (n ≡ f b))
Besides f m false n = n ≡ 0

abbrev pub WorkAs : (Solved → ℕ) → Verdict → Model → ℕ → Type 0
WorkAs f (Ok _) m n = (a : Solved) × (k : ℕ) × (Solves Sure m a × (Besides f m (some_range m) k × (n ≡ f a + k)))
WorkAs f (Err g) m n = n ≡ 0

abbrev pub Steps : Reading → ℕ → Type 0
Steps r n = WorkAs (λ s. s.steps) r.verdict r.model n

abbrev pub Cells : Reading → ℕ → Type 0
Cells r n = WorkAs (λ s. s.cells) r.verdict r.model n

pub record Plans (s b c : List ℕ) (written line number : ℕ) : Type 0 where
  pub reply : Result ℕ Refusal
  pub lists : SheetLists s b c reply
  pub length-is : written ≡ length_of reply
  pub line-is : line ≡ told_line (listed_verdict reply)
  pub number_is : number ≡ told_number (listed_verdict reply)
