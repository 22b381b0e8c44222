use Rattle.std.proofs.Common.{◌≡◌, ◌*◌, get_or}
use Rattle.scales.specs.Filling.{sum}
use Rattle.scales.proofs.heft_of.Given as goal

abbrev pub invariant-loop-j : goal.invariant-loop-j
invariant-loop-j l = l.sum ≡ sum l.j (λ k. get_or l.ws k 0 * get_or l.us k 0)
