-- `solver::value_at` meets its contract.
use mathlib.Core.Path.{◌≡◌, ap, ◌∙◌}
use native.Mathlib.Omega.{arith}
use mathlib.Core.Bool.{true}
use borrow.Author.Rules.{rules}
use Rattle.greedy.specs.Fill.{at, fill, bound}
use Rattle.greedy.specs.Sized.{Sized}
use Rattle.greedy.proofs.Sizes.{fill-sized}
use Rattle.setting.specs.Box.{Long}
use Rattle.setting.proofs.Boxes.{fixed-sized}
use Rattle.solver.specs.Outcomes.{box_at, fill_at}
use Rattle.solver.proofs.value_at.Statement.{statement}
use Rattle.solver.proofs.value_at.Tie as tie

long : (s : tie.Start) → Long s.args.s.ends
long s = record { lo-long = search rules; hi-long = search rules }

sized : (s : tie.Start) → s.args.found ≡ true → Sized s.args.s.cols (box_at s.args.s s.args.x)
sized s y = record {
  columns = s.requires.0.sized.columns;
  ends = fixed-sized s.args.s s.requires.0 (long s) (at s.args.x) s.args.s.levels (omega arith) (s.requires.1 y).inside;
}

fixed-requires : tie.Need-fixed-e-requires
fixed-requires c κs = search rules

fill-up-requires : tie.Need-fill_up-f-requires
fill-up-requires c κs = let t = c.before.before in rw c.fixed-e.ensures (sized t.before t.if-found.true)

-- the filling as the code has it
fill_is : (c : tie.After-fill_up-f) → let s = c.before.before.before.before in c.fill_up-f.result ≡ fill_at s.args.s s.args.s.cols s.args.x
fill_is c = let s = c.before.before.before.before in c.fill_up-f.ensures ∙ ap (fill s.args.s.cols) c.fixed-e.ensures

bound-of-requires : tie.Need-bound_of-requires
bound-of-requires c κs =
    let t = c.before.before.before.before in
    let s = t.before in
    rw (fill_is c.before) (fill-sized s.args.s.cols (box_at s.args.s s.args.x) (sized s t.if-found.true))

returns : tie.Need-returns-then-found
returns c =
    let f = c.before.before in
    let t = f.before.before.before in
    let s = t.before in
    rw t.if-found.true (c.bound_of.ensures ∙ ap (bound s.args.s.cols) (fill_is f))

returns-2 : tie.Need-returns
returns-2 c = rw c.if-found.false

pub value_at_spec : {M : Type 1} → statement M
value_at_spec = tie.close (tie.spec fixed-requires fill-up-requires bound-of-requires returns returns-2)
