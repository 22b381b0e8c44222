use Rattle.std.proofs.Common.{◌≡◌, arith}
use Rattle.model.specs.Records.{need_at}
use Rattle.planner.proofs.Breaking.{need-in}
use Rattle.planner.proofs.Naming.{named_none, named_more}
use Rattle.planner.proofs.named_of.Goals as goal

pub loop-i-init : goal.loop-i-init
loop-i-init c = named_none _

pub bounds-named-n : goal.bounds-named-n
bounds-named-n c = let h = c.requires.places c.need_at-n.result (rw c.need_at-n.ensures (need-in c.args.ns c.loop-i.i (omega arith))) in omega (arith, h.0, h.1)

pub loop-i-preserved : goal.loop-i-preserved
loop-i-preserved c =
    let h = c.requires.places c.need_at-n.result (rw c.need_at-n.ensures (need-in c.args.ns c.loop-i.i (omega arith))) in
    named_more (need_at c.args.ns) c.loop-i.i c.loop-i.named c.need_at-n.result c.need_at-n.ensures h c.loop-i.invariant

pub returns : goal.returns
returns c = let e : c.loop-i.i ≡ c.args.ns.count = omega arith in rw e at c.loop-i.invariant

pub bounds-named-n-in-loop-i : goal.bounds-named-n-in-loop-i
bounds-named-n-in-loop-i c =
    let h = c.requires.places c.need_at-n.result (rw c.need_at-n.ensures (need-in c.args.ns c.loop-i.i (omega arith))) in omega (arith, h.0, h.1)
