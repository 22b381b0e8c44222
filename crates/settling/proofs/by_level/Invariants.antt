use Rattle.greedy.specs.Fill.{at, place}
use Rattle.ceiling.specs.Least.{Placed}
use Rattle.settling.proofs.by_level.Given as goal

abbrev pub invariant-loop-d : goal.invariant-loop-d
invariant-loop-d l = Placed l.d (λ j. at l.xs (place l.level j)) l.to
