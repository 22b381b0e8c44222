use mathlib.Core.Path.{sym, ◌∙◌}
use Rattle.model.specs.Records.{verdict}
use Rattle.standing.specs.Changes.{Removing, missing_verdict, only_verdict}
use Rattle.standing.proofs.Rows.{there-more, in_a_row, tried-changes, refused-changes}
use Rattle.standing.proofs.remove_item.Goals as goal

pub without_item-requires : goal.without_item-requires
without_item-requires c =
    let h = (there-more c.args.p.model c.args.k (sym c.check_removal-verdict.ensures ∙ c.in-Ok.is)).0 in
    (h.few, h.short)

pub returns-in-Ok : goal.returns-in-Ok
returns-in-Ok c =
    let a = c.args in
    let m = a.p.model in
    let v = c.check_removal-verdict in
    tried-changes (Removing a.k) a.p v.result (v.ensures ∙ in_a_row (verdict m) (missing_verdict m a.k) (only_verdict m)) c.in-Ok.is
    c.tried.result (rw c.without_item.ensures at c.tried.ensures)

pub returns-in-Err : goal.returns-in-Err
returns-in-Err c =
    let a = c.args in
    let m = a.p.model in
    let v = c.check_removal-verdict in
    refused-changes (Removing a.k) a.p v.result (v.ensures ∙ in_a_row (verdict m) (missing_verdict m a.k) (only_verdict m)) _ c.in-Err.is
