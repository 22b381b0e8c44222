-- The places passed hold the items that the ranking names.
use Rattle.std.proofs.Common.{◌≡◌, ◌≤◌, length}
use Rattle.ordering.specs.Ranking.{Sorted}
use Rattle.model.specs.Records.{plain_of}
use Rattle.knapsack.specs.Ranges.{item_at}
use Rattle.relaxation.proofs.Placed.{placed}
use Rattle.relaxation.proofs.arranged.Given as goal

abbrev pub invariant-loop-u : goal.invariant-loop-u
invariant-loop-u l = record {
  few : l.m.count ≤ 16;
  sized : length l.m.items ≡ 16;
  long : length l.ranking.at ≡ 16;
  sorted : Sorted (item_at (plain_of l.fn.sense l.m)) l.m.count l.ranking.at;
  placed : l.q ≡ placed l.m l.ranking.at l.u;
}
