-- `solver::optimal` meets its contract.
use mathlib.Core.Path.{◌≡◌, refl, ap, ◌∙◌}
use native.Mathlib.Omega.{arith}
use borrow.Author.Rules.{rules}
use Rattle.arith.proofs.Mixes.{over}
use Rattle.arith.proofs.Parts.{within_more}
use Rattle.arith.proofs.Words.{back}
use Rattle.greedy.specs.Fill.{at, fill, bound}
use Rattle.greedy.specs.Sized.{Sized, SizedFill}
use Rattle.greedy.proofs.Sizes.{fill-sized}
use Rattle.setting.specs.Box.{Long}
use Rattle.setting.proofs.Boxes.{fixed-sized}
use Rattle.greedy.proofs.Bounds.{bound-proper}
use Rattle.solver.specs.Outcomes.{box_at, fill_at, value_at}
use Rattle.solver.proofs.Values.{bound-joins, joined-within}
use Rattle.solver.proofs.optimal.Statement.{statement}
use Rattle.solver.proofs.optimal.Tie as tie

long : (s : tie.Start) → Long s.args.s.ends
long s = record { lo-long = search rules; hi-long = search rules }

sized : (s : tie.Start) → Sized s.args.c (box_at s.args.s s.args.x)
sized s = record {
  columns = s.requires.1.0;
  ends = fixed-sized s.args.s s.requires.0 (long s) (at s.args.x) s.args.s.levels (omega arith) s.requires.1.1;
}

filled : (s : tie.Start) → SizedFill s.args.c (fill_at s.args.s s.args.c s.args.x)
filled s = fill-sized s.args.c (box_at s.args.s s.args.x) (sized s)

fixed-requires : tie.Need-fixed-e-requires
fixed-requires c κs = search rules

fill-up-requires : tie.Need-fill_up-f-requires
fill-up-requires c κs = rw c.fixed-e.ensures (sized c.before)

-- the filling as the code has it
fill_is : (c : tie.After-fill_up-f) → c.fill_up-f.result ≡ fill_at c.args.s c.args.c c.args.x
fill_is c = c.fill_up-f.ensures ∙ ap (fill c.args.c) c.fixed-e.ensures

bound-of-requires : tie.Need-bound_of-v-requires
bound-of-requires c κs = rw (fill_is c) (filled c.before.before)

value-is : (c : tie.After-bound_of-v) → c.bound_of-v.result ≡ value_at
    c.args.s c.args.c c.args.x
value-is c = c.bound_of-v.ensures ∙ ap (bound c.args.c) (fill_is c.before)

amounts-of-requires : tie.Need-amounts_of-y-requires
amounts-of-requires c κs =
    let s = c.before.before.before in
    rw (c.fixed-e.ensures, fill_is c.before) (s.requires.0, (sized s, filled s))

joined-requires : tie.Need-joined-n-requires
joined-requires c κs =
    let v = c.before in
    let s = v.before.before.before in
    rw (value-is v) (bound-joins s.args.c (fill_at s.args.s s.args.c s.args.x) (filled s))

numerator-is : (c : tie.After-joined-n) →
    let v = c.before.before in
    let start = v.before.before.before in
    c.joined-n.result ≡ over (value_at start.args.s start.args.c
    start.args.x)
numerator-is c = c.joined-n.ensures ∙ ap over (value-is c.before.before)

reduce-requires : tie.Need-reduce-value-requires
reduce-requires c κs =
    let m = c.before.before in
    let s = m.before.before.before in
    let v = value_at s.args.s s.args.c s.args.x in
    let j = bound-joins s.args.c (fill_at s.args.s s.args.c s.args.x) (filled s) in
    rw (back c.joined-n.result c.joined-n.type_inv, numerator-is c, value-is c.before.before)
    (within_more (omega arith) (joined-within v j), omega (arith, (bound-proper s.args.c (fill_at s.args.s s.args.c s.args.x) (filled s)).low))

returns : tie.Need-returns
returns c =
    let r = c.before in
    let j = r.before in
    let m = j.before in
    let e = rw (m.fixed-e.ensures, fill_is m.before.before) at m.amounts_of-y.ensures in
    let v = rw (back j.joined-n.result j.joined-n.type_inv, numerator-is j, value-is m.before) at r.reduce-value.ensures in
    record { kind-is = refl; long = long m.before.before.before.before; point-is = e; steps-are = refl; value-is = v }

pub optimal_spec : {M : Type 1} → statement M
optimal_spec =
    tie.close
    (tie.spec
    fixed-requires
    fill-up-requires
    bound-of-requires
    amounts-of-requires
    joined-requires
    reduce-requires
    returns)
