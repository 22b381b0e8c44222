-- The heading of the answer's kind, and its items' lines.
use Rattle.std.proofs.Common.{◌≡◌, ℕ, ap, arith}
use Rattle.knapsack.specs.declared.Answer.{Answer}
use Rattle.knapsack.specs.declared.Kind.{Kind}
use Rattle.text.proofs.Buffers.{puts, roomier}
use Rattle.listing.specs.Printing.{printed_as, printed}
use Rattle.listing.proofs.put_answer.Goals as goal

as-kind : (n : ℕ) (a : Answer) {k : Kind} → a.kind ≡ k → printed n a ≡ printed_as k n a
unfolding printed
as-kind n a e = ap (λ k. printed_as k n a) e

pub returns-in-Optimal : goal.returns-in-Optimal
returns-in-Optimal c =
    let p = roomier {n = 1440} (omega arith) (puts (omega arith) c.put_best-next.ensures c.put_items.ensures) in
    rw (as-kind c.args.n c.args.a c.in-Optimal.is) (rw c.min-m.ensures at p)

pub returns-in-Infeasible : goal.returns-in-Infeasible
returns-in-Infeasible c = rw (as-kind c.args.n c.args.a c.in-Infeasible.is) (roomier (omega arith) c.put_word.ensures)

pub returns-in-Unbounded : goal.returns-in-Unbounded
returns-in-Unbounded c =
    let p = roomier {n = 1440} (omega arith) (puts (omega arith) c.put_word-next.ensures c.put_items-in-Unbounded.ensures) in
    rw (as-kind c.args.n c.args.a c.in-Unbounded.is) (rw c.min-m.ensures at p)

pub returns-in-Refused : goal.returns-in-Refused
returns-in-Refused c = rw (as-kind c.args.n c.args.a c.in-Refused.is) (roomier (omega arith) c.put_refused.ensures)
