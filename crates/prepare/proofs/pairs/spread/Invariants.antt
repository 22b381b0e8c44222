use Rattle.prepare.specs.Pairs.{Spread}
use Rattle.prepare.proofs.pairs.spread.Given as goal

abbrev pub invariant-loop-k : goal.invariant-loop-k
invariant-loop-k l = Spread l.t l.k l.r
