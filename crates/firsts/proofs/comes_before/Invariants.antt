use Rattle.firsts.proofs.Order.{Alike}
use Rattle.firsts.proofs.comes_before.Given as goal

-- the amounts before item k are the same
abbrev pub invariant-loop-k : goal.invariant-loop-k
invariant-loop-k l = Alike l.x l.y l.k
