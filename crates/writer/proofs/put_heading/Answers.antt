use Rattle.std.proofs.Common.{arith}
use Rattle.text.proofs.Buffers.{puts, roomier}
use Rattle.writer.proofs.put_heading.Goals as goal

pub returns : goal.returns
returns c =
    roomier (omega arith) (puts (omega arith) (puts (omega arith) c.put_word-blank.ensures c.put_byte-number.ensures) c.put_natural.ensures)
