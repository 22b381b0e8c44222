use Rattle.std.proofs.Common.{refl, sym, add-one, arith, rules}
use Rattle.arith.proofs.Words.{back}
use Rattle.text.proofs.Buffers.{put-nothing, puts, roomier}
use Rattle.listing.specs.Printing.{step_at, item_lines}
use Rattle.listing.proofs.put_items.Goals as goal

pub loop-k-init : goal.loop-k-init
unfolding item_lines
loop-k-init c = record { sized = refl; put = record { short = omega arith; next = omega arith; bytes = sym (put-nothing c.args.at c.args.out.now) } }

pub loop-k-preserved : goal.loop-k-preserved
unfolding item_lines
loop-k-preserved c =
    let e = rw (back (step_at c.args.a c.loop-k.k) (search rules)) at c.put_item-next.ensures in
    record { sized = omega arith; put = rw add-one (roomier (omega arith) (puts (omega arith) c.loop-k.invariant.put e)) }
