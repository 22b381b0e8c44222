use Rattle.std.proofs.Common.{◌≡◌}
use mathlib.Core.Bool.{Bool, false}
use Rattle.model.specs.declared.ModelItem.{ModelItem}
use Rattle.model.specs.Records.{item_at, some_item}
use Rattle.model.proofs.some_item.Given as goal

abbrev pub invariant-loop-k : goal.invariant-loop-k
invariant-loop-k g l = (test : ModelItem → Bool) → ((i : ModelItem) (c : Bool) → goal.F-post g l.test i c → c ≡ test i) → some_item l.k (item_at l.m) test ≡ false
