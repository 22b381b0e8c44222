use Rattle.std.proofs.Common.{lt-ltb, le-ltb}
use Rattle.sheet.specs.Reading.{end_of_sheet}
use Rattle.sheet.proofs.end_of_sheet.Goals as goal

pub returns-in_default : goal.returns-in_default
unfolding end_of_sheet
returns-in_default c = rw c.in_default.is

pub returns-then-p-s : goal.returns-then-p-s
unfolding end_of_sheet
returns-then-p-s c = rw (c.in-Ok.is, lt-ltb _ _ c.if-p-s.true) c.refused.ensures

pub returns-else-p-s : goal.returns-else-p-s
unfolding end_of_sheet
returns-else-p-s c = rw (c.in-Ok.is, le-ltb _ _ c.if-p-s.false)
