use Rattle.std.proofs.Common.{arith}
use Rattle.text.proofs.Buffers.{shows}
use Rattle.listing.proofs.text_of.Goals as goal

pub returns : goal.returns
returns c = shows (omega arith) c.put_answers-len.ensures
