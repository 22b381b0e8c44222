-- The lines of the first u places stand in the buffer.
use Rattle.std.proofs.Common.{◌≡◌, ◌*◌, length, get_or}
use Rattle.text.specs.Buffer.{Put}
use Rattle.watching.specs.Watching.{fall_lines}
use Rattle.watching.proofs.put_falls.Given as goal

abbrev pub invariant-loop-u : goal.invariant-loop-u
invariant-loop-u l = record {
  sized : length l.out ≡ length l.fn.out;
  put : Put (42 * l.u) 0 (fall_lines (λ k. get_or l.of k 0) (λ v. get_or l.at v 0) l.u) l.fn.out l.out l.next;
}
