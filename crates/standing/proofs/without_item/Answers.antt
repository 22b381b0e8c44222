use Rattle.std.proofs.Common.{◌≡◌, ◌∙◌, cond, ap, add-one, arith}
use Rattle.model.specs.declared.Model.{Model}
use Rattle.model.specs.Records.{need_at, names_item}
use Rattle.model.specs.Setters.{with_needs, appended_need}
use Rattle.dropping.proofs.Kept.{rank_most}
use Rattle.dropping.specs.Kept.{rank}
use Rattle.standing.specs.Changes.{lowered_need, spared, spared_to}
use Rattle.standing.proofs.Removed.{spared-next}
use Rattle.standing.proofs.without_item.Goals as goal

pub loop-j-init : goal.loop-j-init
loop-j-init c = rw c.other_items-q.ensures

pub append_other_need-q-requires : goal.append_other_need-q-requires
append_other_need-q-requires c =
    let keep = spared c.args.k c.args.m.needs in
    let e : c.loop-j.q.needs.count ≡ rank keep c.loop-j.j = ap (λ (q : Model). q.needs.count) c.loop-j.invariant in
    omega (arith, rank_most keep c.loop-j.j)

pub loop-j-preserved : goal.loop-j-preserved
loop-j-preserved c =
    let k = c.args.k in
    let ns = c.args.m.needs in
    let x = need_at ns c.loop-j.j in
    rw add-one (c.append_other_need-q.ensures
    ∙ ap (λ (q : Model). cond (names_item x k) q (appended_need q (lowered_need k x))) c.loop-j.invariant ∙ spared-next c.other_items-q.result k ns c.loop-j.j)

pub returns : goal.returns
returns c =
    let a = c.args in
    let t = a.m.needs.count in
    let e : c.loop-j.j ≡ t = omega arith in
    let o = c.other_items-q in
    c.loop-j.invariant ∙ ap (λ j. with_needs o.result (spared_to a.k a.m.needs j)) e ∙ ap (λ (q : Model). with_needs q (spared_to a.k a.m.needs t)) o.ensures
