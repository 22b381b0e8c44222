use Rattle.fillings.specs.Keys.{radix}
use Rattle.fillings.specs.Ranges.{num}
use Rattle.fillings.proofs.Lists.{Begun}
use Rattle.fillings.proofs.Groups.{Left}
use Rattle.fillings.proofs.radices.Given as goal

abbrev pub invariant-loop-k : goal.invariant-loop-k
invariant-loop-k l = Left l.wide l.base l.to l.k l.b × Begun l.k (radix (num l.wide) l.from l.to) l.list
