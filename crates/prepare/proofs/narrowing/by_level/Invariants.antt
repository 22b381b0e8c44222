use Rattle.std.proofs.Common.{◌≡◌, ℕ, ◌<◌, length}
use Rattle.greedy.specs.Fill.{at, place}
use Rattle.prepare.proofs.narrowing.by_level.Given as goal

abbrev pub invariant-loop-d : goal.invariant-loop-d
invariant-loop-d l = record {
  long : length l.to ≡ 16;
  so_far : (j : ℕ) → j < l.d → at l.to j ≡ at l.xs (place l.level j);
}
