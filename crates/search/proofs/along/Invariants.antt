use Rattle.search.proofs.Resume.{Passing}
use Rattle.search.proofs.along.Given as goal

abbrev pub invariant-loop-k : goal.invariant-loop-k
invariant-loop-k l = Passing l.s l.x l.y l.e l.k
