use Rattle.std.proofs.Common.{sym, ◌∙◌, add-one, arith}
use Rattle.model.specs.Records.{item_at}
use Rattle.sheet.proofs.Ranged.{none_yet, ranged-more, ranged-found}
use Rattle.sheet.proofs.first_ranged.Goals as goal

pub loop-k-init : goal.loop-k-init
loop-k-init c = none_yet _

pub returns-then-is_ranged_below : goal.returns-then-is_ranged_below
returns-then-is_ranged_below c =
    rw add-one
    (sym (ranged-found (item_at c.args.m) c.args.m.count c.loop-k.k (omega arith) c.loop-k.invariant (sym c.is_ranged_below.ensures ∙ c.if-is_ranged_below.true)))

pub loop-k-preserved : goal.loop-k-preserved
loop-k-preserved c = rw add-one (ranged-more (item_at c.args.m) c.loop-k.k c.loop-k.invariant (sym c.is_ranged_below.ensures ∙ c.if-is_ranged_below.false))
