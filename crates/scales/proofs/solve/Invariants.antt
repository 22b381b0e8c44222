use Rattle.std.proofs.Common.{length}
use Rattle.scales.specs.Filling.{items_of}
use Rattle.scales.specs.Lent.{total}
use Rattle.scales.proofs.Scaling.{Scaling}
use Rattle.scales.proofs.solve.Given as goal

abbrev pub invariant-loop-i : goal.invariant-loop-i
invariant-loop-i l = Scaling l.cap l.scales l.capacity (items_of l.ws l.us l.ts l.ls) (length l.fn.cells) (total l.ws) l.n l.written l.divisor l.rest l.left l.i l.cells
