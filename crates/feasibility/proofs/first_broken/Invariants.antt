use Rattle.std.proofs.Common.{◌≡◌, ◌≤◌}
use Rattle.feasibility.specs.Check.{first_broken}
use Rattle.feasibility.proofs.first_broken.Given as goal

abbrev pub invariant-loop-k : goal.invariant-loop-k
invariant-loop-k l = record { few : l.p.count ≤ 16; found : l.found ≡ first_broken l.k l.p l.c }
