use Rattle.std.proofs.Common.{◌≡◌, ◌+◌, length, add-one, arith}
use Rattle.scales.specs.Filling.{sum}
use Rattle.fillings.specs.Ranges.{offset_at, offset_of}
use Rattle.fillings.proofs.remaining.Goals as goal

pub less_part-left-requires : goal.less_part-left-requires
less_part-left-requires c = c.requires.1 c.loop-k.k (omega arith)

pub loop-k-preserved : goal.loop-k-preserved
loop-k-preserved c =
    let s = c.args in
    let k = c.loop-k.k in
    let e : sum (k + 1) (offset_at s.p s.r) ≡ sum k (offset_at s.p s.r) + offset_at s.p s.r k = rw add-one in
    omega (arith, c.less_part-left.ensures, e)

pub returns : goal.returns
unfolding offset_of
returns c =
    let e : c.loop-k.k ≡ length c.args.p.weight = omega (arith, c.requires.0.long) in
    rw e at c.loop-k.invariant
