use Rattle.std.proofs.Common.{◌≡◌, ◌∙◌, cond, suc, ap, add-one, arith}
use lib.Dec.{eqb}
use Rattle.model.specs.declared.Model.{Model}
use Rattle.model.specs.Records.{item_at}
use Rattle.model.specs.Setters.{appended}
use Rattle.dropping.proofs.Kept.{rank_most}
use Rattle.dropping.specs.Kept.{rank}
use Rattle.standing.specs.Changes.{others}
use Rattle.standing.proofs.Removed.{removed-next}
use Rattle.standing.proofs.other_items.Goals as goal

pub append_unless-q-requires : goal.append_unless-q-requires
append_unless-q-requires c =
    let e : c.loop-j.q.count ≡ rank (others c.args.k) c.loop-j.j = ap (λ (q : Model). q.count) c.loop-j.invariant in
    omega (arith, rank_most (others c.args.k) c.loop-j.j)

pub loop-j-preserved : goal.loop-j-preserved
loop-j-preserved c =
    let k = c.args.k in
    let m = c.args.m in
    let j = c.loop-j.j in
    rw add-one ((rw add-one at c.append_unless-q.ensures)
    ∙ ap (λ (q : Model). cond (eqb (suc j) k) q (appended q (item_at m j))) c.loop-j.invariant ∙ removed-next m k j)
