use Rattle.std.proofs.Common.{◌≡◌, ◌*◌, ◌≤◌}
use Rattle.scales.specs.Filling as filling
use Rattle.fillings.specs.Ranges.{num}
use Rattle.fillings.proofs.low_load.Given as goal

abbrev pub invariant-loop-k : goal.invariant-loop-k
invariant-loop-k l = (l.sum ≤ l.k * 150000000000000000) × (l.sum ≡ filling.sum l.k (λ j. num l.p.weight j * num l.r.low j))
