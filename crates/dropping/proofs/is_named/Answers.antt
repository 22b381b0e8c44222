use Rattle.std.proofs.Common.{refl, sym, ◌∙◌, arith, add-one}
use Rattle.model.specs.Records.{need_at}
use Rattle.dropping.specs.Dropping.{named_in}
use Rattle.dropping.proofs.Dropped.{named_more, named-found}
use Rattle.dropping.proofs.is_named.Goals as goal

pub loop-j-init : goal.loop-j-init
unfolding named_in
loop-j-init c = refl

pub returns-then-does_name : goal.returns-then-does_name
returns-then-does_name c =
    sym (named-found c.args.ns.count c.loop-j.j (need_at c.args.ns) c.args.k (omega arith) (sym c.does_name.ensures ∙ c.if-does_name.true))

pub loop-j-preserved : goal.loop-j-preserved
loop-j-preserved c =
    rw add-one (named_more c.loop-j.j (need_at c.args.ns) c.args.k c.loop-j.invariant (sym c.does_name.ensures ∙ c.if-does_name.false))
