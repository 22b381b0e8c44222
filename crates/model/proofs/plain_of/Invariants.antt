use Rattle.std.proofs.Common.{◌≡◌, length}
use Rattle.model.proofs.Plain.{filled_to}
use Rattle.model.proofs.plain_of.Given as goal

abbrev pub invariant-loop-k : goal.invariant-loop-k
invariant-loop-k l = record {
  size : length l.m.items ≡ 16;
  filled : l.p ≡ record { items = filled_to l.sense 16 l.m.items l.k; count = l.m.count; capacity = l.m.capacity };
}
