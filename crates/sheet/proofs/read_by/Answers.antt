use Rattle.std.proofs.Common.{lt-ltb, le-ltb}
use Rattle.sheet.specs.Reading.{read_sheet_by}
use Rattle.sheet.proofs.read_by.Goals as goal

pub returns-then-sheet-gt-LONGEST : goal.returns-then-sheet-gt-LONGEST
unfolding read_sheet_by
returns-then-sheet-gt-LONGEST c = rw (lt-ltb _ _ c.if-sheet-gt-LONGEST.true, c.empty_model.ensures, c.number.ensures)

pub returns : goal.returns
unfolding read_sheet_by
returns c = rw (le-ltb _ _ c.if-sheet-gt-LONGEST.false, c.whole-p.ensures)
