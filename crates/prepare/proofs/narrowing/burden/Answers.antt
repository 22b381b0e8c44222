use Rattle.std.proofs.Common.{◌≡◌, ◌+◌, ◌≤◌, refl, ap₂, arith, add-one}
use Rattle.prepare.specs.Narrowing.{burden_of}
use Rattle.prepare.proofs.Nearer.{burden-small}
use Rattle.prepare.proofs.narrowing.burden.Goals as goal

pub loop-k-init : goal.loop-k-init
unfolding burden_of
loop-k-init c = refl

-- the sum so far is small
pub overflow_add-t : goal.overflow_add-t
overflow_add-t c =
    let k = c.loop-k.k in
    let m : k ≤ c.args.p.count = omega arith in
    omega (arith, c.loop-k.invariant, burden-small c.args.p c.requires.0 c.args.a k c.requires.1 m, c.requires.0.few-items, c.burden_of-t.ensures.1)

pub loop-k-preserved : goal.loop-k-preserved
unfolding burden_of
loop-k-preserved c = rw add-one (ap₂ ◌+◌ c.loop-k.invariant c.burden_of-t.ensures.0)

pub returns : goal.returns
returns c = let n : c.loop-k.k ≡ c.args.p.count = omega arith in rw n at c.loop-k.invariant
