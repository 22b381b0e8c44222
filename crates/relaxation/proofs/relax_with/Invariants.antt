-- While the list is copied its first items are loaded; while the items are stored back the list has the core's items at the places passed.
use Rattle.std.proofs.Common.{◌≡◌, ◌++◌, take, drop, length}
use Rattle.relaxation.specs.Lent.{usable, loaded, settled}
use Rattle.relaxation.proofs.relax_with.Given as goal

abbrev pub invariant-loop-i : goal.invariant-loop-i
invariant-loop-i l = record {
  looked : l.n ≡ usable (length l.items);
  copied : l.q ≡ loaded l.fn.capacity (length l.items) l.fn.terms (take l.i l.items);
}

abbrev pub invariant-loop-i-2 : goal.invariant-loop-i-2
invariant-loop-i-2 l = record {
  looked : l.n ≡ usable (length l.fn.items);
  model : l.o.model ≡ settled (loaded l.fn.capacity (length l.fn.items) l.fn.terms l.fn.items);
  stored : l.items ≡ take l.i l.o.model.items ++ drop l.i l.fn.items;
}
