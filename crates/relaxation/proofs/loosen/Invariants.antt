use Rattle.std.proofs.Common.{◌≡◌, length}
use Rattle.relaxation.specs.Lent.{Loosened}
use Rattle.relaxation.proofs.loosen.Given as goal

abbrev pub invariant-loop-k : goal.invariant-loop-k
invariant-loop-k l = record { sized : length l.q.items ≡ 16; loosened : Loosened l.p l.named l.k l.q }
