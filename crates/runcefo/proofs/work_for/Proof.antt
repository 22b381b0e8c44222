-- `runcefo::work_for` meets its contract: an accepted sheet's record is admissible.
use mathlib.Core.Path.{◌≡◌, ap, subst}
use mathlib.Core.List.{List}
use Prim.Native.Nat.{ℕ}
use borrow.Author.Rules.{rules}
use Rattle.knapsack.specs.Verdicts.{Verdict}
use Rattle.std.specs.Prelude.{Ok}
use Rattle.model.specs.Records.{Admissible}
use Rattle.model.proofs.Records.{accepted}
use Rattle.sheet.specs.declared.Reading.{Reading}
use Rattle.sheet.specs.Reading.{read_sheet}
use Rattle.sheet.proofs.Sheets.{accepted-sheet}
use Rattle.runcefo.specs.Entries.{Steps, Cells}
use Rattle.runcefo.proofs.work_for.Statement.{statement}
use Rattle.runcefo.proofs.work_for.Tie as tie

fit : (s : List ℕ) → (read_sheet s).verdict ≡ Ok tt → Admissible (read_sheet s).model
fit s h = let m = (read_sheet s).model in accepted m (accepted-sheet s m (ap (λ (v : Verdict). record { verdict = v; model = m }) h)).fair

read-requires : tie.Need-read-r-requires
read-requires c κs = search rules

work-of-requires : tie.Need-work_of-requires
work-of-requires c κs = rw c.read-r.ensures (fit _)

returns : tie.Need-returns
returns c = subst (λ (x : Reading). Steps x c.work_of.result.steps × Cells x c.work_of.result.cells) c.read-r.ensures c.work_of.ensures

pub work_for_spec : {M : Type 1} → statement M
work_for_spec = tie.close (tie.spec read-requires work-of-requires returns)
