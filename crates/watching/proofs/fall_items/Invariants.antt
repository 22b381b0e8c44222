use Rattle.watching.specs.Watching.{FallItems}
use Rattle.watching.proofs.fall_items.Given as goal

abbrev pub invariant-loop-k : goal.invariant-loop-k
invariant-loop-k l = FallItems l.of l.n l.k l.p
