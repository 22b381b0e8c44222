-- The first k lines stand in the buffer.
use Rattle.std.proofs.Common.{◌≡◌, ◌*◌, ◌≤◌, length}
use Rattle.text.specs.Buffer.{Put}
use Rattle.lines.specs.Layout.{bound_text}
use Rattle.sheet.specs.Sections.{lines_text}
use Rattle.sheet.specs.Printing.{up_to, bounding_at}
use Rattle.writer.proofs.put_bound_lines.Given as goal

abbrev pub invariant-loop-k : goal.invariant-loop-k
invariant-loop-k l = record {
  few : l.m.count ≤ 16;
  sized : length l.out ≡ length l.fn.out;
  put : Put (22 * l.k) l.at (lines_text bound_text (up_to l.k (bounding_at l.side l.m))) l.fn.out l.out l.next;
}
