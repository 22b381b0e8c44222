use Rattle.std.proofs.Common.{refl, sym, ◌∙◌, arith, add-one}
use Rattle.model.specs.Records.{item_at, some_item}
use Rattle.model.proofs.Records.{some-found, some_more}
use Rattle.model.proofs.some_item.Goals as goal

pub loop-k-init : goal.loop-k-init
unfolding some_item
loop-k-init g c = λ test h. refl

pub returns-then-test : goal.returns-then-test
returns-then-test g c =
    λ test h. sym (some-found _ c.loop-k.k (item_at c.args.m) test (omega arith) (sym (h _ _ c.test.ensures) ∙ c.if-test.true))

pub loop-k-preserved : goal.loop-k-preserved
loop-k-preserved g c =
    λ test h. rw add-one (some_more c.loop-k.k (item_at c.args.m) test (c.loop-k.invariant test h) (sym (h _ _ c.test.ensures) ∙ c.if-test.false))
