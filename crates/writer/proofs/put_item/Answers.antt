-- The mark, the weights and the price.
use Rattle.std.proofs.Common.{arith, rules, to_z-of_z, w64, SFits}
use Rattle.text.proofs.Buffers.{puts}
use Rattle.sheet.proofs.Lengths.{item-short}
use Rattle.writer.proofs.put_item.Goals as goal

pub returns : goal.returns
returns c =
    let low : SFits w64 c.args.i.low = search rules in
    let high : SFits w64 c.args.i.high = search rules in
    let price : SFits w64 c.args.i.price = search rules in
    let f = puts (omega arith) (puts (omega arith) c.put_byte-blank.ensures c.put_byte-low.ensures)
    (puts (omega arith) c.put_integer-high.ensures (puts (omega arith) c.put_integer-price.ensures c.put_integer.ensures)) in
    let g = rw (c.mark_byte.ensures, to_z-of_z low, to_z-of_z high, to_z-of_z price) at f in
    record { short = item-short c.args.i c.requires.1; next = g.next; bytes = g.bytes }
