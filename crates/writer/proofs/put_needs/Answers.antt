use Rattle.std.proofs.Common.{arith}
use Rattle.model.specs.Records.{need_at}
use Rattle.text.proofs.Buffers.{puts}
use Rattle.sheet.proofs.Making.{upto-length}
use Rattle.writer.proofs.put_needs.Goals as goal

pub returns : goal.returns
returns c = rw (upto-length c.args.m.needs.count (need_at c.args.m.needs)) (puts (omega arith) c.put_heading-next.ensures c.put_need_lines.ensures)
