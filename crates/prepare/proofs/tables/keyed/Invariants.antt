use Rattle.std.proofs.Common.{◌≡◌, ℕ, ◌<◌, length, get_or}
use Rattle.knapsack.specs.Ranges.{blank, item_at}
use Rattle.prepare.specs.Figures.{key_of}
use Rattle.prepare.proofs.tables.keyed.Given as goal

abbrev pub invariant-loop-k : goal.invariant-loop-k
invariant-loop-k l = record {
  long : length l.items ≡ 16;
  so_far : (j : ℕ) → j < l.k → get_or l.items j blank ≡ key_of l.by (item_at l.p j);
}
