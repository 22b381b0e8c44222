use Rattle.std.proofs.Common.{arith}
use Rattle.text.proofs.Buffers.{puts, roomier}
use Rattle.writer.proofs.put_bound_word.Goals as goal

pub returns-in-None : goal.returns-in-None
returns-in-None c = rw c.in-None.is (roomier (omega arith) (puts (omega arith) c.put_word-end.ensures c.put_byte.ensures))
