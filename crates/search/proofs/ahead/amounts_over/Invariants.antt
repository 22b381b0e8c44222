use Rattle.greedy.specs.Fill.{numerator}
use Rattle.search.proofs.Amounts.{Counted}
use Rattle.search.proofs.ahead.amounts_over.Given as goal

abbrev pub invariant-loop-k : goal.invariant-loop-k
invariant-loop-k l = Counted (numerator l.c l.e l.f l.q) l.k l.to
