-- `solver::settled` meets its contract: the box and the incumbent are such as the scales take.
use mathlib.Core.Path.{◌≡◌, sym, ap, ◌∙◌, subst}
use mathlib.Core.Bool.{Bool, true, cond}
use lib.IntN.{pos}
use borrow.Author.Rules.{rules}
use Rattle.greedy.specs.Fill.{at}
use Rattle.setting.specs.Box.{Long}
use Rattle.settling.specs.Settling.{Tried, SettleWrites}
use Rattle.solver.specs.Outcomes.{value_at}
use Rattle.solver.proofs.Scales.{boxes, tried}
use Rattle.solver.proofs.settled.Statement.{statement}
use Rattle.solver.proofs.settled.Tie as tie

long : (s : tie.Start) → Long s.args.s.ends
long s = record { lo-long = search rules; hi-long = search rules }

value-at-requires : tie.Need-value_at-v-requires
value-at-requires c κs = search rules

-- what the function was given
abbrev start : tie.After-value_at-v → tie.Start
start c = c.before.before.before.before

-- the incumbent is one that they take
known : (c : tie.After-value_at-v) → (start c).args.found ≡ true → let s = start c in
    Tried s.args.s.cols s.args.s.ends s.args.s.level s.args.s.levels (at s.args.x) c.value_at-v.result
known c y =
    let s = start c in
    let v = s.args.s in
    let e : c.value_at-v.result ≡ value_at v v.cols s.args.x = c.value_at-v.ensures
    ∙ ap (λ (b : Bool). cond b (value_at v v.cols s.args.x) (record { whole = pos 0; part = 0; parts = 1 })) y in
    subst (λ z. Tried v.cols v.ends v.level v.levels (at s.args.x) z) (sym e) (tried v s.requires.0 (long s) s.args.x (s.requires.1.1 y))

slice-bounds : tie.Need-slice_bounds-settle-end
slice-bounds c = search rules

settle-requires : tie.Need-settle-requires
settle-requires c κs =
    let s = start c.before in ((boxes s.args.s s.requires.0 s.requires.1.0, known c.before), search rules)

returns : tie.Need-returns
returns c =
    let r = c.before in
    let v = r.before.before in
    let s = start v in
    let w = s.args.s in (
      r.settle.ensures.0,
      subst (λ z. SettleWrites w.cols w.ends w.level w.levels s.args.found z r.settle.result.first r.settle.result.written)
          v.value_at-v.ensures r.settle.ensures.1,
    )

pub settled_spec : {M : Type 1} → statement M
settled_spec =
    tie.close (tie.spec value-at-requires slice-bounds settle-requires returns)
