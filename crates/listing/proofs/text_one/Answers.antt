use Rattle.std.proofs.Common.{arith}
use Rattle.text.proofs.Buffers.{shows}
use Rattle.listing.proofs.text_one.Goals as goal

pub returns : goal.returns
returns c = shows (omega arith) c.put_answer-len.ensures
