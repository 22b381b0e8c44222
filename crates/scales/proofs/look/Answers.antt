use Rattle.std.proofs.Common.{sym}
use Rattle.scales.proofs.Cells.{at-live, at_dead}
use Rattle.scales.proofs.look.Goals as goal

pub returns-then-x-n : goal.returns-then-x-n
returns-then-x-n c = sym (at-live _ _ _ _ c.if-x-n.true)

pub returns-else-x-n : goal.returns-else-x-n
returns-else-x-n c = sym (at_dead _ _ _ _ c.if-x-n.false)
