use Rattle.std.proofs.Common.{arith}
use Rattle.arith.proofs.Parts.{within-back}
use Rattle.ceiling.proofs.Framing.{sofar-first, sofar-step, sofar-any, sofar-done}
use Rattle.ceiling.proofs.least_loss.Goals as goal

pub loop-t-init : goal.loop-t-init
loop-t-init c =
    let a = c.args in
    rw c.unlowered-best.ensures (sofar-first a.p a.q a.cols a.ends a.whole a.known c.requires.counted.0)

pub considered-best-requires : goal.considered-best-requires
considered-best-requires c =
    let i = c.loop-t.invariant in
    let top = c.top_of-top.ensures in
    rw (within-back tt top.1) (record {
      ready = (c.requires.ready.0, (top.0, (top.1, (c.requires.ready.1, c.loop-t-test.true))));
      counted = (i.counted, (omega (arith, i.few, c.requires.ready.0.sized.columns.live-few), omega (arith, c.requires.counted.1.0)));
    })

pub loop-t-preserved : goal.loop-t-preserved
loop-t-preserved c = sofar-step c.loop-t.invariant c.considered-best.result c.loop-t-test.true c.considered-best.ensures

pub returns-then-best : goal.returns-then-best
returns-then-best c =
    let z = c.requires.ready.0 in
    sofar-any c.loop-t.invariant (omega arith) z.sized.columns c.requires.counted.1.1 z.in_order c.if-best.true

pub lowered-requires : goal.lowered-requires
lowered-requires c =
    let i = c.loop-t.invariant in
    let top = c.top_of-top.ensures in
    rw (within-back tt top.1) (record {
      ready = (c.requires.ready.0, (top.0, (top.1, c.requires.ready.1)));
      counted = (i.counted, (omega (arith, i.few, c.requires.ready.0.sized.columns.live-few), omega (arith, c.requires.counted.1.0)));
    })

pub returns : goal.returns
returns c =
    let z = c.requires.ready.0 in
    sofar-done c.loop-t.invariant c.lowered.result (omega arith) z.sized.columns c.requires.counted.1.1 z.in_order c.if-best.false c.lowered.ensures
