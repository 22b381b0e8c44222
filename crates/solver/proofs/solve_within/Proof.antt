-- `solver::solve_within` meets its contract: bounds that cross leave no point; else the problem is in range.
use mathlib.Core.Path.{refl, sym, ◌∙◌}
use native.Mathlib.Omega.{arith}
use borrow.Author.Rules.{rules}
use Rattle.knapsack.specs.Ranges.{InRange}
use Rattle.knapsack.specs.declared.Kind.TheVariants as kind
use Rattle.solver.proofs.Outcomes.{not-infeasible}
use Rattle.model.proofs.Records.{plain-in-range}
use Rattle.model.proofs.Crossings.{uncrossed, crossed-infeasible}
use Rattle.solver.proofs.solve_within.Statement.{statement}
use Rattle.solver.proofs.solve_within.Tie as tie

some-crosses-requires : tie.Need-some_crosses-requires
some-crosses-requires c κs = c.requires.few-items

no-point-requires : tie.Need-no_point-none-requires
no-point-requires c κs = search rules

with-work-requires : tie.Need-with_work-requires
with-work-requires c κs = search rules

-- where no bounds cross the problem is in range
ranged : (c : tie.Else-some_crosses) → InRange c.args.p
ranged c = let s = c.before.before in plain-in-range s.args.p s.requires (uncrossed s.args.p (sym c.some_crosses.ensures ∙ c.if-some_crosses.false))

decide-requires : tie.Need-decide-requires
decide-requires c κs = ranged c

returns : tie.Need-returns-then-some_crosses
returns c =
    let a = c.before in
    let x = a.before.before in
    let p = x.args.p in
    let crosses = sym x.some_crosses.ensures ∙ a.if-some_crosses.true in
    rw (c.with_work.ensures, a.no_point-none.ensures) (
      record {
        answers = (crossed-infeasible p crosses, refl);
        first = λ low e. absurd (not-infeasible kind.Infeasible refl e);
        few-steps = omega arith;
        few-cells = omega arith;
      },
      (refl, refl),
    )

returns-2 : tie.Need-returns
returns-2 c = c.decide.ensures

pub solve_within_spec : {M : Type 1} → statement M
solve_within_spec =
    tie.close
    (tie.spec
    some-crosses-requires
    no-point-requires
    with-work-requires
    returns
    decide-requires
    returns-2)
