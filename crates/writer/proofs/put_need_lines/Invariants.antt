-- The first k lines stand in the buffer.
use Rattle.std.proofs.Common.{◌≡◌, ◌*◌, ◌≤◌, length}
use Rattle.model.specs.Records.{need_at}
use Rattle.text.specs.Buffer.{Put}
use Rattle.lines.specs.Layout.{need_text}
use Rattle.sheet.specs.Sections.{lines_text}
use Rattle.sheet.specs.Printing.{up_to}
use Rattle.writer.proofs.put_need_lines.Given as goal

abbrev pub invariant-loop-k : goal.invariant-loop-k
invariant-loop-k l = record {
  few : l.m.needs.count ≤ 16;
  sized : length l.out ≡ length l.fn.out;
  put : Put (6 * l.k) l.at (lines_text need_text (up_to l.k (need_at l.m.needs))) l.fn.out l.out l.next;
}
