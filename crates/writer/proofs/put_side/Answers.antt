use Rattle.std.proofs.Common.{arith}
use Rattle.text.proofs.Buffers.{puts}
use Rattle.sheet.specs.Printing.{bounding_at}
use Rattle.sheet.proofs.Making.{upto-length}
use Rattle.writer.proofs.put_side.Goals as goal

pub returns : goal.returns
returns c = rw (upto-length c.args.m.count (bounding_at c.args.side c.args.m)) (puts (omega arith) c.put_side_heading-next.ensures c.put_bound_lines.ensures)
