use Rattle.placed.proofs.Firstly.{LowerTo}
use Rattle.placed.proofs.all_lower.Given as goal

abbrev pub invariant-loop-k : goal.invariant-loop-k
invariant-loop-k l = LowerTo l.p l.k
