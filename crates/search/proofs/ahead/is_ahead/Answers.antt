use Rattle.std.proofs.Common.{◌≡◌, ◌∙◌, sym, ap, arith}
use Rattle.arith.specs.Mixed.{Proper, less_mixed}
use Rattle.greedy.specs.Fill.{bound}
use Rattle.greedy.proofs.Bounds.{bound-proper}
use Rattle.search.specs.Ahead.{ahead_by}
use Rattle.search.proofs.ahead.is_ahead.Goals.{After-bound_of-v, After-less, After-less-2}
use Rattle.search.proofs.ahead.is_ahead.Goals as goal

-- the bound can be compared
own-proper : (c : After-bound_of-v) → Proper c.bound_of-v.result
own-proper c = rw c.bound_of-v.ensures (bound-proper c.args.c c.args.f c.requires.1.0)

first-is : (c : After-less) → c.less.result ≡ less_mixed c.args.best.value (bound c.args.c c.args.f)
first-is c = c.less.ensures ∙ ap (less_mixed c.args.best.value) c.bound_of-v.ensures

second_is : (c : After-less-2) → c.less-2.result ≡ less_mixed (bound c.args.c c.args.f) c.args.best.value
second_is c = c.less-2.ensures ∙ ap (λ v. less_mixed v c.args.best.value) c.bound_of-v.ensures

pub less-requires : goal.less-requires
less-requires c = (c.requires.1.1.proper, own-proper (goal.at.less-requires c).After-bound_of-v)

pub returns-then-less : goal.returns-then-less
unfolding ahead_by
returns-then-less c = let t = sym (first-is (goal.at.returns-then-less c).After-less) ∙ c.if-less.true in rw t

pub less-requires-2 : goal.less-requires-2
less-requires-2 c = (own-proper (goal.at.less-requires-2 c).After-bound_of-v, c.requires.1.1.proper)

pub returns-then-less-2 : goal.returns-then-less-2
unfolding ahead_by
returns-then-less-2 c =
    let at = goal.at.returns-then-less-2 c in
    let t = sym (first-is at.After-less) ∙ c.if-less.false in
    let u = sym (second_is at.After-less-2) ∙ c.if-less-2.true in
    rw (t, u)

pub is_sooner-requires : goal.is_sooner-requires
is_sooner-requires c =
    let p = own-proper (goal.at.is_sooner-requires c).After-bound_of-v in (
      record { sized = c.requires.0; filled = c.requires.1.0; few = p.few; item_in = omega arith },
      (c.requires.0.columns.few, (c.requires.1.1.proper.few, c.requires.1.1.amounts-in)),
    )

pub returns : goal.returns
unfolding ahead_by
returns c =
    let at = goal.at.returns c in
    let t = sym (first-is at.After-less) ∙ c.if-less.false in
    let u = sym (second_is at.After-less-2) ∙ c.if-less-2.false in
    rw (t, u) (rw c.bound_of-v.ensures at c.is_sooner.ensures)
