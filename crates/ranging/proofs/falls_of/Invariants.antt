-- The falls of the items before k are there.
use Rattle.std.proofs.Common.{◌≤◌}
use Rattle.ranging.specs.Searching.{FallsAre}
use Rattle.ranging.proofs.falls_of.Given as goal

abbrev pub invariant-loop-k : goal.invariant-loop-k
invariant-loop-k l = record { few : l.p.count ≤ 16; falls : FallsAre l.p l.ns l.a l.k l.of }
