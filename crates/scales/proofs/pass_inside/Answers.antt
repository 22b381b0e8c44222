use Rattle.std.proofs.Common.{◌≡◌, ◌-◌, arith}
use Rattle.scales.proofs.Cells.{passed_first, passed-below, passed-step}
use Rattle.scales.proofs.pass_inside.Goals as goal

pub loop-x-init : goal.loop-x-init
loop-x-init c = (omega arith, passed_first)

pub passed_inside-requires-clause-shown : goal.passed_inside-requires-clause-shown
passed_inside-requires-clause-shown c =
    let p = c.loop-x.invariant.1 in
    (record { room = omega (arith, p.same); below = passed-below c.requires.shown.below p }, (omega arith, omega arith))

pub loop-x-preserved : goal.loop-x-preserved
loop-x-preserved c =
    let x = c.loop-x.x in
    (omega arith, passed-step (x - 1) c.passed_inside.result (omega arith) (omega arith) (omega arith) c.passed_inside.ensures c.loop-x.invariant.1)

pub returns : goal.returns
returns c =
    let e : c.loop-x.x ≡ c.args.lo = omega arith in
    rw e at c.loop-x.invariant.1
