use Rattle.std.proofs.Common.{arith}
use Rattle.text.proofs.Buffers.{puts}
use Rattle.listing.proofs.put_refused.Goals as goal

pub returns : goal.returns
returns c = puts (omega arith) c.put_word-first.ensures (puts (omega arith) c.put_natural-second.ensures c.put_natural.ensures)
