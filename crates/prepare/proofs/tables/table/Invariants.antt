use Rattle.prepare.specs.Figures.{figure_of}
use Rattle.prepare.specs.Tables.{listed}
use Rattle.prepare.proofs.Tabling.{Filled}
use Rattle.prepare.proofs.tables.table.Given as goal

abbrev pub invariant-loop-u : goal.invariant-loop-u
invariant-loop-u l = Filled l.n (λ v. figure_of l.f (listed l.p l.list v)) l.u l.to
