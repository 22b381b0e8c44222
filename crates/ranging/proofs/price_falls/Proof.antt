-- `ranging::price_falls` meets its contract.
use mathlib.Core.Path.{◌≡◌, sym, ap, subst, ◌∙◌}
use borrow.Author.Rules.{rules}
use Rattle.arith.proofs.Parts.{impossible}
use Rattle.knapsack.specs.declared.Kind.TheVariants as kind
use Rattle.model.specs.Records.{plain_of}
use Rattle.model.specs.declared.Sense.TheVariants.{Sure}
use Rattle.planner.proofs.Exits.{kind-of}
use Rattle.planner.specs.Branching.{is_optimal}
use Rattle.ranging.specs.Ranging.{FallsOf}
use Rattle.ranging.specs.Searching.{FallsAre}
use Rattle.ranging.proofs.Lowering.{no-small, planned-watched}
use Rattle.ranging.proofs.price_falls.Statement.{statement}
use Rattle.ranging.proofs.price_falls.Tie as tie

abbrev testing : tie.After-plain_of → tie.Then-is_optimal
testing c = c.before.before

-- the planner shows a best point
best-kind : (c : tie.Then-is_optimal) → c.plan-a.result.kind ≡ kind.Optimal
best-kind c = kind-of c.plan-a.result.kind (sym c.is_optimal.ensures ∙ c.if-is_optimal.true)

plan-requires : tie.Need-plan-a-requires
plan-requires c κs = search rules

is-optimal-requires : tie.Need-is_optimal-requires
is-optimal-requires c κs = search rules

plain-of-requires : tie.Need-plain_of-requires
plain-of-requires c κs = search rules

falls-of-requires : tie.Need-falls_of-of-requires
falls-of-requires c κs =
    let t = testing c in
    let a = t.before.before in
    let m = a.args.m in
    rw c.plain_of.ensures (planned-watched m a.plan-a.result a.plan-a.ensures (best-kind t))

returns : tie.Need-returns-then-is_optimal
returns c =
    let p = c.before in
    let t = testing p in
    let a = t.before.before in
    let m = a.args.m in
    let f : FallsAre (plain_of Sure m) m.needs a.plan-a.result m.count c.falls_of-of.result = rw p.plain_of.ensures at c.falls_of-of.ensures in
    record { planned = a.plan-a.ensures; falls = λ e k l. f.falls k l; others = λ n. absurd (n (best-kind t)); small = f.small }

no-falls-requires : tie.Need-no_falls-requires
no-falls-requires c κs = search rules

returns-2 : tie.Need-returns
returns-2 c =
    let t = c.before in
    let o = t.before in
    let a = o.before in
    subst (FallsOf a.args.m) (sym c.no_falls.ensures)
    (record {
      planned = a.plan-a.ensures;
      falls = λ e k l. absurd (impossible (sym (sym o.is_optimal.ensures ∙ t.if-is_optimal.false) ∙ ap is_optimal e));
      others = λ n. search rules;
      small = no-small;
    })

pub price_falls_spec : {M : Type 1} → statement M
price_falls_spec =
    tie.close
    (tie.spec
    plan-requires
    is-optimal-requires
    plain-of-requires
    falls-of-requires
    returns
    no-falls-requires
    returns-2)
