use Rattle.std.proofs.Common.{◌≡◌}
use Rattle.dropping.specs.Dropping.{dropped_to}
use Rattle.dropping.proofs.kept_items.Given as goal

abbrev pub invariant-loop-k : goal.invariant-loop-k
invariant-loop-k l = l.q ≡ dropped_to l.m l.k 0
