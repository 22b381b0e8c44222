-- The sum so far is the definition's.
use Rattle.std.proofs.Common.{◌≡◌, ◌≤◌}
use Rattle.feasibility.specs.Check.{total_of}
use Rattle.feasibility.proofs.total.Given as goal

abbrev pub invariant-loop-k : goal.invariant-loop-k
invariant-loop-k l = record { few : l.p.count ≤ 16; sum : l.sum ≡ total_of l.f l.d l.k l.p l.c }
