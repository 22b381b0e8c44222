use Rattle.std.proofs.Common.{◌<◌, arith}
use Rattle.ceiling.proofs.Lists.{listing_step, flags-step}
use Rattle.ceiling.proofs.pieces_of.Goals as goal

pub loop-k-preserved : goal.loop-k-preserved
loop-k-preserved c =
    let k = c.loop-k.k in
    let few : k < 16 = omega (arith, c.requires.0.columns.few) in
    let i = c.loop-k.invariant in
    record {
      weights = listing_step _ k c.size_at.result few c.size_at.ensures i.weights;
      ranges = listing_step _ k c.span_at.result few c.span_at.ensures i.ranges;
      takens = listing_step _ k c.cost_at.result few c.cost_at.ensures i.takens;
      lefts = listing_step _ k c.cost_at-in-loop-k.result few c.cost_at-in-loop-k.ensures i.lefts;
      falls = flags-step _ k c.falls_at.result few c.falls_at.ensures i.falls;
    }
