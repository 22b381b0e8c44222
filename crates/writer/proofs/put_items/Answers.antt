use Rattle.std.proofs.Common.{arith}
use Rattle.model.specs.Records.{item_at}
use Rattle.text.proofs.Buffers.{puts}
use Rattle.sheet.proofs.Making.{upto-length}
use Rattle.writer.proofs.put_items.Goals as goal

pub returns : goal.returns
returns c = rw (upto-length c.args.m.count (item_at c.args.m)) (puts (omega arith) c.put_heading-next.ensures c.put_item_lines.ensures)
