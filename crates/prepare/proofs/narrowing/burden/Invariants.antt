use Rattle.std.proofs.Common.{◌≡◌}
use Rattle.prepare.specs.Narrowing.{burden_of}
use Rattle.prepare.proofs.narrowing.burden.Given as goal

abbrev pub invariant-loop-k : goal.invariant-loop-k
invariant-loop-k l = l.t ≡ burden_of l.p l.a l.k
