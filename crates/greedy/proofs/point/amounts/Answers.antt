use Rattle.std.proofs.Common.{arith}
use Rattle.greedy.proofs.Numerators.{divisor-few}
use Rattle.greedy.proofs.Counted.{counted-first, counted_step, counted-done}
use Rattle.greedy.proofs.point.amounts.Goals as goal

pub loop-k-init : goal.loop-k-init
loop-k-init c = counted-first _

pub amount-requires : goal.amount-requires
amount-requires c = record {
  sized = c.requires.0;
  filled = c.requires.1;
  few = rw c.divisor_at-q.ensures (divisor-few c.args.cols c.args.whole c.loop-k.k c.requires.0.columns);
  item_in = omega (arith, c.requires.0.columns.few);
}

pub loop-k-preserved : goal.loop-k-preserved
loop-k-preserved c =
    let l = c.loop-k in
    rw (c.amount.ensures, c.divisor_at-q.ensures) (counted_step _ l.k l.r.point (omega (arith, c.requires.0.columns.few)) l.invariant)

pub returns : goal.returns
returns c =
    let l = c.loop-k in
    counted-done c.args.cols c.args.ends c.args.f c.args.whole l.k l.r.point (omega arith) l.invariant
