use Rattle.std.proofs.Common.{◌≡◌, ℕ, List}
use Rattle.scales.specs.Filling.{common, scaled, items_of}
use Rattle.scales.proofs.shared_of.Given as goal

abbrev pub invariant-loop-j : goal.invariant-loop-j
invariant-loop-j l = (cap : ℕ) (ts ls : List ℕ) → l.g ≡ common (scaled cap l.i l.divisor (items_of l.ws l.us ts ls)) l.j
