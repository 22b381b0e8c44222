-- A store is a text of one byte.
use Rattle.std.proofs.Common.{arith}
use Rattle.text.proofs.Buffers.{put_byte}
use Rattle.text.proofs.put_byte.Goals as goal

pub returns : goal.returns
returns c = record { short = omega arith; next = omega arith; bytes = put_byte c.args.at c.args.b c.args.out.now (omega arith) }
