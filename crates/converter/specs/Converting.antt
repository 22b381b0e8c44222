-- Stored sheets without their blank items: paper 02, request 9.
--   kept_reading s    the sheet as the reader reads it, but that blank items are kept
--   hindered m       refusal 15 at the line of the item that stands against leaving out the blank ones: item k, from 1, has line 3 + k
--   convertible s    accepted, or the refusal: the reader's, and then 15
--   converted s      the sheet without blank items
--   conversion s b   what is told of converting s into the buffer b: the new length, or the refusal, of which 11 comes last
--   cleared s b      the buffer afterwards: the new sheet and the bytes behind it, or the buffer as it was
--   Dropped m r      r tells whether the blank items of the record m can go, and then has the record without them
--   Unblanked s r    the same of the sheet s, whose own refusals come first
use Rattle.std.specs.Prelude.{cond, List, ◌≡◌, ℕ, ◌+◌, ltb}
use Rattle.knapsack.specs.Verdicts.{Verdict}
use Rattle.std.specs.Prelude.{Ok, Err, Result}
use Rattle.knapsack.specs.declared.Refusal.{Refusal}
use Rattle.model.specs.declared.Blanks.TheVariants as blanks
use Rattle.model.specs.declared.Model.{Model}
use Rattle.model.specs.Records.{or_else}
use Rattle.model.specs.declared.refusals.Reason.TheVariants as refusal
use Rattle.text.specs.Buffer.{noted, told, filled}
use Rattle.lines.specs.Places.{refusal_on}
use Rattle.sheet.specs.declared.Reading.{Reading}
use Rattle.sheet.specs.Printing.{printing}
use Rattle.sheet.specs.Reading.{read_sheet_by}
use Rattle.writer.specs.Writing.{on_accepted}
use Rattle.dropping.specs.Dropping.{dropped, hindrance}

abbrev pub kept_reading : List ℕ → Reading
kept_reading s = read_sheet_by blanks.Kept s

abbrev pub hindered : Model → Verdict
hindered m = cond (ltb (hindrance m) m.count) (Err (refusal_on refusal.BlankItem (hindrance m + 4))) (Ok tt)

abbrev pub convertible : List ℕ → Verdict
convertible s = or_else (kept_reading s).verdict (hindered (kept_reading s).model)

abbrev pub converted : List ℕ → List ℕ
converted s = printing (dropped (kept_reading s).model)

abbrev pub conversion : List ℕ → List ℕ → Result ℕ Refusal
conversion s b = on_accepted (convertible s) noted (told (converted s) b)

abbrev pub cleared : List ℕ → List ℕ → List ℕ
cleared s b = on_accepted (convertible s) (λ f. b) (filled (converted s) b)

pub record Dropped (m : Model) (r : Reading) : Type 0 where
  pub told : r.verdict ≡ hindered m
  pub left : r.verdict ≡ Ok tt → r.model ≡ dropped m

pub record Unblanked (s : List ℕ) (r : Reading) : Type 0 where
  pub told : r.verdict ≡ convertible s
  pub left : r.verdict ≡ Ok tt → r.model ≡ dropped (kept_reading s).model
