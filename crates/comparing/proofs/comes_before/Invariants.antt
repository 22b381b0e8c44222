use Rattle.comparing.proofs.Order.{Alike}
use Rattle.comparing.proofs.comes_before.Given as goal

abbrev pub invariant-loop-k : goal.invariant-loop-k
invariant-loop-k l = Alike l.x l.y l.k
