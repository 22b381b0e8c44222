use Rattle.std.proofs.Common.{arith, rules, to_z-of_z, w64, SFits}
use Rattle.text.proofs.Buffers.{puts}
use Rattle.sheet.specs.Printing.{printing}
use Rattle.writer.proofs.put_sheet.Goals as goal

pub returns : goal.returns
unfolding printing
returns c =
    let capacity-fits : SFits w64 c.args.m.capacity = search rules in
    let sides = puts (omega arith) c.put_side-upper.ensures (puts (omega arith) c.put_side-needs.ensures c.put_needs.ensures) in
    rw (to_z-of_z capacity-fits) at (puts (omega arith) c.put_limit-items.ensures (puts (omega arith) c.put_items-lower.ensures sides))
