-- The first k lines stand in the buffer.
use Rattle.std.proofs.Common.{◌≡◌, ◌*◌, ◌≤◌, length}
use Rattle.model.specs.Records.{item_at}
use Rattle.text.specs.Buffer.{Put}
use Rattle.lines.specs.Layout.{item_text}
use Rattle.sheet.specs.Sections.{lines_text}
use Rattle.sheet.specs.Printing.{up_to}
use Rattle.writer.proofs.put_item_lines.Given as goal

abbrev pub invariant-loop-k : goal.invariant-loop-k
invariant-loop-k l = record {
  few : l.m.count ≤ 16;
  sized : length l.out ≡ length l.fn.out;
  put : Put (35 * l.k) l.at (lines_text item_text (up_to l.k (item_at l.m))) l.fn.out l.out l.next;
}
