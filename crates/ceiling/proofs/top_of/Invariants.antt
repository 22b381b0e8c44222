use Rattle.std.proofs.Common.{◌≡◌}
use Rattle.ceiling.specs.Loss.{top_to}
use Rattle.ceiling.proofs.top_of.Given as goal

abbrev pub invariant-loop-k : goal.invariant-loop-k
invariant-loop-k l = l.t.sum ≡ top_to l.p l.q l.cols l.ends l.k
