-- The lines of the first k items stand in the buffer.
use Rattle.std.proofs.Common.{◌≡◌, ◌*◌, length}
use Rattle.text.specs.Buffer.{Put}
use Rattle.listing.specs.Printing.{item_lines}
use Rattle.listing.proofs.put_items.Given as goal

abbrev pub invariant-loop-k : goal.invariant-loop-k
invariant-loop-k l = record {
  sized : length l.out ≡ length l.fn.out;
  put : Put (86 * l.k) l.at (item_lines l.steps l.a l.k) l.fn.out l.out l.next;
}
