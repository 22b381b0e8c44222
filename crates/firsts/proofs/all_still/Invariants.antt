use Rattle.std.proofs.Common.{ℕ, ◌<◌}
use Rattle.firsts.specs.Leading.{Held}
use Rattle.firsts.proofs.all_still.Given as goal

abbrev pub invariant-loop-j : goal.invariant-loop-j
invariant-loop-j l = (k : ℕ) → k < l.j → Held l.s.ends l.whole k
