use Rattle.std.proofs.Common.{◌≡◌}
use mathlib.Core.Bool.{false}
use Rattle.knapsack.specs.Ranges.{item_at}
use Rattle.model.specs.Records.{crosses, some_item}
use Rattle.model.proofs.some_crosses.Given as goal

abbrev pub invariant-loop-k : goal.invariant-loop-k
invariant-loop-k l = some_item l.k (item_at l.p) crosses ≡ false
