use Rattle.std.proofs.Common.{◌≡◌, add-one, suc, ◌*◌, length, arith}
use Rattle.scales.proofs.Sums.{sum_more, sum-part}
use Rattle.residues.specs.Folding.{offset_at}
use Rattle.residues.specs.Asked.{num}
use Rattle.residues.proofs.Sizes.{heft-small, offsets-most}
use Rattle.residues.proofs.folded_capacity.Goals as goal

pub offset_of-sum-requires : goal.offset_of-sum-requires
offset_of-sum-requires c =
    let ws = c.args.ws in
    let us = c.args.us in
    let fit = c.requires.0 in
    (c.requires.1.0, omega (arith, sum-part (length ws) (λ j. num ws j * num us j) c.loop-k.k (omega (arith, fit.long)), heft-small ws us fit))

pub overflow_add-sum : goal.overflow_add-sum
overflow_add-sum c =
    let ws = c.args.ws in
    let us = c.args.us in
    let f = c.args.f in
    let fit = c.requires.0 in
    omega (arith, sum_more (suc c.loop-k.k) (length ws) (offset_at f (num ws) (num us)) (omega (arith, fit.long)), offsets-most ws us f, heft-small ws us fit)

pub loop-k-preserved : goal.loop-k-preserved
loop-k-preserved c = rw add-one (omega arith)

pub returns : goal.returns
returns c =
    let e : c.loop-k.k ≡ length c.args.ws = omega (arith, c.requires.0.long) in
    rw e at c.loop-k.invariant
