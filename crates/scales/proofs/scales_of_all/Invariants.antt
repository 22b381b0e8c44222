use Rattle.std.proofs.Common.{ℕ, ◌≡◌, ◌≤◌, ◌<◌, get_or}
use Rattle.scales.specs.Digits.{rest_at}
use Rattle.scales.proofs.scales_of_all.Given as goal

abbrev pub invariant-loop-u : goal.invariant-loop-u
invariant-loop-u l = record {
  few : l.most ≤ 64;
  done : (k : ℕ) → k < l.u-index → rest_at l.most (get_or l.us k 0) ≡ 0;
  soonest : (s : ℕ) → ((k : ℕ) → k < l.u-index → rest_at s (get_or l.us k 0) ≡ 0) → l.most ≤ s;
}
