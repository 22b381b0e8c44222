use Rattle.std.proofs.Common.{arith}
use Rattle.text.proofs.Buffers.{puts}
use Rattle.sheet.proofs.Lengths.{need-short}
use Rattle.writer.proofs.put_need.Goals as goal

pub returns : goal.returns
returns c =
    let f = puts (omega arith) c.put_natural-next.ensures c.put_natural.ensures in
    record { short = need-short c.args.need c.requires.1.0 c.requires.1.1; next = f.next; bytes = f.bytes }
