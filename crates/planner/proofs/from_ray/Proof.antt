-- `planner::from_ray` meets its contract.
use mathlib.Core.Path.{refl, sym, ◌∙◌}
use Rattle.arith.proofs.Parts.{impossible}
use borrow.Author.Rules.{rules}
use Rattle.planner.proofs.from_ray.Statement.{statement}
use Rattle.planner.proofs.from_ray.Tie as tie

returns : tie.Need-returns-then-b
returns c = record { found = λ e. refl; none = λ e. absurd (impossible (sym e ∙ c.if-b.true)); steps = refl; cells = refl }

told-requires : tie.Need-told-requires
told-requires c κs = search rules

returns-2 : tie.Need-returns
returns-2 c = let t = c.told.ensures in
    record { found = λ e. absurd (impossible (sym c.if-b.false ∙ e)); none = t.none; steps = t.steps; cells = t.cells }

pub from_ray_spec : {M : Type 1} → statement M
from_ray_spec = tie.close (tie.spec returns told-requires returns-2)
