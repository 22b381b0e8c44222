use Rattle.planner.specs.Branching.{Unpriced}
use Rattle.planner.proofs.unpriced.Given as goal

abbrev pub invariant-loop-k : goal.invariant-loop-k
invariant-loop-k l = Unpriced l.p l.k l.q
