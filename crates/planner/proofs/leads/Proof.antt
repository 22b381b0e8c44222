-- `planner::leads` meets its contract: the values decide, then the points.
use mathlib.Core.Path.{sym, ◌∙◌}
use Rattle.arith.proofs.Parts.{impossible}
use Rattle.knapsack.specs.Meaning.{point_of}
use Rattle.comparing.proofs.Order.{earlier-not}
use Rattle.planner.proofs.Ordering.{less-yes, less-no, led-above, led-level}
use borrow.Author.Rules.{rules}
use Rattle.planner.proofs.leads.Statement.{statement}
use Rattle.planner.proofs.leads.Tie as tie

abbrev start : tie.After-less_fraction → tie.Start
start a = a.before.before.before

less-fraction-requires : tie.Need-less_fraction-requires
less-fraction-requires c κs = search rules

returns : tie.Need-returns-then-less_fraction
returns c =
    let a = c.before in
    let s = start a in
    record {
      ahead = λ e. led-above s.args.n s.args.a s.args.c
          (less-yes s.args.c.value s.args.a.value s.requires.1.1.value s.requires.1.0.value (sym a.less_fraction.ensures ∙ c.if-less_fraction.true));
      behind = λ e. absurd (impossible (sym e));
    }

less-fraction-requires-2 : tie.Need-less_fraction-requires-2
less-fraction-requires-2 c κs = search rules

returns-2 : tie.Need-returns-then-less_fraction-2
returns-2 c =
    let a = c.before in
    let s = start a.before.before in
    record {
      ahead = λ e. absurd (impossible e);
      behind = λ e. led-above s.args.n s.args.c s.args.a
          (less-yes s.args.a.value s.args.c.value s.requires.1.0.value s.requires.1.1.value (sym a.less_fraction-2.ensures ∙ c.if-less_fraction-2.true));
    }

comes-before-requires : tie.Need-comes_before-requires
comes-before-requires c κs = search rules

returns-3 : tie.Need-returns
returns-3 c =
    let e2 = c.before.before.before in
    let a2 = e2.before in
    let e1 = a2.before in
    let a1 = e1.before in
    let s = start a1 in
    let av = s.requires.1.0.value in
    let cv = s.requires.1.1.value in
    record {
      ahead = λ e. led-level s.args.n s.args.a s.args.c
          (less-no s.args.a.value s.args.c.value av cv (sym a2.less_fraction-2.ensures ∙ e2.if-less_fraction-2.false))
          (earlier-not s.args.n (point_of s.args.c) (point_of s.args.a) (c.comes_before.ensures.before e));
      behind = λ e. led-level s.args.n s.args.c s.args.a
          (less-no s.args.c.value s.args.a.value cv av (sym a1.less_fraction.ensures ∙ e1.if-less_fraction.false))
          (c.comes_before.ensures.after e);
    }

pub leads_spec : {M : Type 1} → statement M
leads_spec =
    tie.close
    (tie.spec
    less-fraction-requires
    returns
    less-fraction-requires-2
    returns-2
    comes-before-requires
    returns-3)
