use Rattle.std.proofs.Common.{◌≡◌}
use Rattle.prepare.specs.Narrowing.{most_of}
use Rattle.prepare.proofs.narrowing.most_of.Given as goal

abbrev pub invariant-loop-k : goal.invariant-loop-k
invariant-loop-k l = l.m ≡ most_of l.p l.k
