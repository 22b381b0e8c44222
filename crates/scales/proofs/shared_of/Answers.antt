use Rattle.std.proofs.Common.{◌≡◌, length, refl, ap, ◌∙◌, add-one, arith}
use Rattle.scales.specs.Digits.{rest}
use Rattle.scales.specs.Filling.{common, shared}
use Rattle.scales.proofs.shared_of.Goals as goal

pub loop-j-init : goal.loop-j-init
unfolding common
loop-j-init c = λ cap ts ls. refl

pub loop-j-preserved : goal.loop-j-preserved
unfolding common
loop-j-preserved c =
    let e = c.rest_of.ensures ∙ ap rest c.rest_at.ensures in
    λ cap ts ls. rw (add-one, ← c.loop-j.invariant cap ts ls, ← e) c.joined-g.ensures

pub returns : goal.returns
unfolding shared
returns c =
    let e : c.loop-j.j ≡ length c.args.ws.now = omega arith in
    λ cap ts ls. let h = rw e at (c.loop-j.invariant cap ts ls) in omega (arith, h)
