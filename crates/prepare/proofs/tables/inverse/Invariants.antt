use Rattle.prepare.proofs.Tabling.{InvertedTo}
use Rattle.prepare.proofs.tables.inverse.Given as goal

abbrev pub invariant-loop-u : goal.invariant-loop-u
invariant-loop-u l = InvertedTo l.n l.list l.u l.to
