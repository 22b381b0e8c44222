use Rattle.prepare.specs.Figures.{passes}
use Rattle.prepare.specs.Tables.{listed}
use Rattle.prepare.proofs.Tabling.{Passed}
use Rattle.prepare.proofs.tables.leading.Given as goal

abbrev pub invariant-loop-u : goal.invariant-loop-u
invariant-loop-u l = Passed l.p.count (λ v. passes l.t (listed l.p l.list v)) l.u
