use Rattle.std.proofs.Common.{◌≡◌, refl, sym, ◌∙◌, arith}
use Rattle.domination.specs.Trades.{least_give}
use Rattle.domination.proofs.Trades.{turn-stop, turn_on, turn_last}
use Rattle.domination.proofs.trade.least_give.Goals as goal

pub loop-r-init : goal.loop-r-init
unfolding least_give
loop-r-init c = refl

pub returns-then-does_serve : goal.returns-then-does_serve
returns-then-does_serve c =
    let x = c.args in
    sym (turn-stop x.a x.b x.c x.d c.loop-r.r (omega arith) (sym c.does_serve.ensures ∙ c.if-does_serve.true)) ∙ c.loop-r.invariant

pub loop-r-preserved : goal.loop-r-preserved
loop-r-preserved c =
    let x = c.args in
    sym (turn_on x.a x.b x.c x.d c.loop-r.r (omega arith) (sym c.does_serve.ensures ∙ c.if-does_serve.false)) ∙ c.loop-r.invariant

pub returns : goal.returns
returns c =
    let x = c.args in
    let e : x.b ≡ c.loop-r.r = omega arith in
    e ∙ sym (turn_last x.a x.b x.c x.d c.loop-r.r (omega arith)) ∙ c.loop-r.invariant
