use Rattle.std.proofs.Common.{refl, sym, ◌∙◌, arith, add-one}
use Rattle.knapsack.specs.Ranges.{item_at}
use Rattle.model.specs.Records.{crosses, some_item}
use Rattle.model.proofs.Records.{some-found, some_more}
use Rattle.model.proofs.some_crosses.Goals as goal

pub loop-k-init : goal.loop-k-init
unfolding some_item
loop-k-init c = refl

pub returns-then-does_cross : goal.returns-then-does_cross
returns-then-does_cross c = sym (some-found _ c.loop-k.k (item_at c.args.p) crosses (omega arith) (sym c.does_cross.ensures ∙ c.if-does_cross.true))

pub loop-k-preserved : goal.loop-k-preserved
loop-k-preserved c = rw add-one (some_more c.loop-k.k (item_at c.args.p) crosses c.loop-k.invariant (sym c.does_cross.ensures ∙ c.if-does_cross.false))
