-- `planner::told` meets its contract.
use mathlib.Core.Path.{refl, sym, ◌∙◌}
use Rattle.arith.proofs.Parts.{impossible}
use borrow.Author.Rules.{rules}
use Rattle.planner.proofs.told.Statement.{statement}
use Rattle.planner.proofs.told.Tie as tie

returns : tie.Need-returns-then-b
returns c = record { found = λ e. refl; none = λ e. absurd (impossible (sym e ∙ c.if-b.true)); steps = refl; cells = refl }

no-point-requires : tie.Need-no_point-a-requires
no-point-requires c κs = search rules

returns-2 : tie.Need-returns
returns-2 c = record { found = λ e. absurd (impossible (sym c.if-b.false ∙ e)); none = λ e. c.no_point-a.ensures; steps = refl; cells = refl }

pub told_spec : {M : Type 1} → statement M
told_spec = tie.close (tie.spec returns no-point-requires returns-2)
