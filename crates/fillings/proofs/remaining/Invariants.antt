use Rattle.std.proofs.Common.{◌≡◌, ◌-◌}
use Rattle.scales.specs.Filling.{sum}
use Rattle.fillings.specs.Ranges.{offset_at}
use Rattle.fillings.proofs.remaining.Given as goal

abbrev pub invariant-loop-k : goal.invariant-loop-k
invariant-loop-k l = l.left ≡ l.cap - sum l.k (offset_at l.p l.r)
