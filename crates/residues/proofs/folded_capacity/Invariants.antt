use Rattle.std.proofs.Common.{◌≡◌, ◌+◌}
use Rattle.scales.specs.Filling as filling
use Rattle.residues.specs.Folding.{offset_at}
use Rattle.residues.specs.Asked.{num}
use Rattle.residues.proofs.folded_capacity.Given as goal

abbrev pub invariant-loop-k : goal.invariant-loop-k
invariant-loop-k l = l.sum ≡ l.capacity + filling.sum l.k (offset_at l.f (num l.ws) (num l.us))
