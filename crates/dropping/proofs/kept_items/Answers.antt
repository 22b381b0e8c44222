use Rattle.std.proofs.Common.{◌≡◌, sym, ap, ◌∙◌, arith, add-one}
use Rattle.model.specs.Records.{item_at}
use Rattle.model.specs.declared.Model.{Model}
use Rattle.dropping.specs.Dropping.{kept, appended_unless_blank}
use Rattle.dropping.specs.Kept.{rank}
use Rattle.dropping.proofs.Dropped.{dropped-next}
use Rattle.dropping.proofs.Kept.{rank_most}
use Rattle.dropping.proofs.kept_items.Goals as goal

pub append_unless_blank-q-requires : goal.append_unless_blank-q-requires
append_unless_blank-q-requires c =
    let e : c.loop-k.q.count ≡ rank (kept c.args.m) c.loop-k.k = ap (λ (q : Model). q.count) c.loop-k.invariant in
    omega (arith, rank_most (kept c.args.m) c.loop-k.k)

pub loop-k-preserved : goal.loop-k-preserved
loop-k-preserved c = rw add-one (c.append_unless_blank-q.ensures
    ∙ ap (λ (q : Model). appended_unless_blank q (item_at c.args.m c.loop-k.k)) c.loop-k.invariant ∙ sym (dropped-next c.args.m c.loop-k.k))
