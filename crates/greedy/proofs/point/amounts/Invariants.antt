use Rattle.greedy.specs.Amounts.{divisor_in, amount_of}
use Rattle.greedy.proofs.Counted.{Counted}
use Rattle.greedy.proofs.point.amounts.Given as goal

abbrev pub invariant-loop-k : goal.invariant-loop-k
invariant-loop-k l = Counted (λ j. amount_of l.cols l.ends l.f (divisor_in l.cols l.whole j) j) l.k l.r.point
