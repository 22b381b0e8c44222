use Rattle.std.proofs.Common.{◌≡◌, ℕ, ◌<◌, length}
use Rattle.greedy.specs.Fill.{at}
use Rattle.prepare.specs.Narrowing.{span_by, clamp_to}
use Rattle.prepare.proofs.narrowing.clamped.Given as goal

abbrev pub invariant-loop-k : goal.invariant-loop-k
invariant-loop-k l = record {
  long : length l.to ≡ 16;
  so_far : (j : ℕ) → j < l.k → at l.to j ≡ clamp_to (span_by l.r (at l.weight j)) (at l.xs j);
}
