use Rattle.std.proofs.Common.{◌≡◌, arith}
use Rattle.knapsack.specs.Meaning.{instance_of, point_of}
use Rattle.model.specs.Records.{needs_of}
use Rattle.ranging.proofs.Lowering.{fall-small, falls-none, falls-more}
use Rattle.ranging.proofs.falls_of.Goals as goal

pub loop-k-init : goal.loop-k-init
loop-k-init c = record { few = c.requires.needed.figures.few-items; falls = falls-none c.args.p c.args.ns c.args.a }

pub loop-k-preserved : goal.loop-k-preserved
loop-k-preserved c =
    let a = c.args in
    let l = c.loop-k in
    let f = c.fall_of.ensures in
    let small = fall-small (instance_of a.p) (needs_of a.ns) (point_of a.a) l.k c.fall_of.result (c.requires.needed.figures.items-in l.k (omega arith)).price-in f in
    record { few = l.invariant.few; falls = falls-more a.p a.ns a.a l.k l.of c.fall_of.result (omega arith) l.invariant.falls f small }

pub returns : goal.returns
returns c =
    let e : c.loop-k.k ≡ c.args.p.count = omega arith in
    rw e at c.loop-k.invariant.falls
