use Rattle.std.proofs.Common.{◌-◌}
use Rattle.fillings.specs.Leaps.{Heads}
use Rattle.fillings.proofs.head.Given as goal

abbrev pub invariant-loop-k : goal.invariant-loop-k
invariant-loop-k l = Heads l.p l.w.capacity (l.cap - 1) l.r l.k l.k
