use Rattle.std.specs.Prelude.{None}
use Rattle.std.proofs.Common.{◌≡◌, ℕ, ◌<◌, ◌/◌, ◌%◌, length, get_or}
use Rattle.domination.specs.Pairs.{tabled}
use Rattle.domination.proofs.pair_table.Given as goal

-- every entry below k is that of its row and column
abbrev pub invariant-loop-k : goal.invariant-loop-k
invariant-loop-k l = record {
  long : length l.t ≡ 256;
  so_far : (j : ℕ) → j < l.k → get_or l.t j None ≡ tabled l.p l.named (j / 16) (j % 16);
}
