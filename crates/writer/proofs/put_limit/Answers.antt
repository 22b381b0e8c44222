use Rattle.std.proofs.Common.{arith, to_z-of_z}
use Rattle.text.proofs.Buffers.{puts}
use Rattle.sheet.specs.Sections.{lines_text}
use Rattle.writer.proofs.put_limit.Goals as goal

pub returns : goal.returns
unfolding lines_text
returns c = rw (to_z-of_z c.ranges.b) at (puts (omega arith) c.put_heading-next.ensures c.put_integer.ensures)
