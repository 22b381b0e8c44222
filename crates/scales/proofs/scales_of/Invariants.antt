use Rattle.std.proofs.Common.{ℕ, ◌≡◌, ◌+◌, ◌≤◌, ◌<◌}
use Rattle.scales.specs.Digits.{rest_at}
use Rattle.scales.proofs.scales_of.Given as goal

abbrev pub invariant-loop-r : goal.invariant-loop-r
invariant-loop-r l = record { rests : l.r ≡ rest_at l.k l.u; falls : l.k + l.r ≤ l.u; before : (i : ℕ) → i < l.k → rest_at i l.u ≡ 0 → ⊥ }

abbrev pub decreases-loop-r : goal.decreases-loop-r
decreases-loop-r l = l.r
