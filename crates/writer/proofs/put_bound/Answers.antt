use Rattle.std.proofs.Common.{arith}
use Rattle.text.proofs.Buffers.{puts}
use Rattle.lines.specs.Layout.{bounding}
use Rattle.sheet.proofs.Lengths.{bound-short}
use Rattle.writer.proofs.put_bound.Goals as goal

pub returns : goal.returns
returns c =
    let f = puts (omega arith) c.put_natural-bound.ensures c.put_bound_word.ensures in
    record { short = bound-short (bounding c.args.k c.args.b) c.requires.1.0 c.requires.1.1; next = f.next; bytes = f.bytes }
