use mathlib.Core.Path.{sym, ◌∙◌}
use Rattle.standing.specs.Changes.{Adding}
use Rattle.standing.proofs.Rows.{room, tried-changes, refused-changes}
use Rattle.standing.proofs.add_item.Goals as goal

pub append-requires : goal.append-requires
append-requires c = room c.args.p.model (sym c.check_room-verdict.ensures ∙ c.in-Ok.is)

pub returns-in-Ok : goal.returns-in-Ok
returns-in-Ok c =
    let v = c.check_room-verdict in
    tried-changes (Adding c.args.x) c.args.p v.result v.ensures c.in-Ok.is c.tried.result (rw c.append.ensures at c.tried.ensures)

pub returns-in-Err : goal.returns-in-Err
returns-in-Err c = let v = c.check_room-verdict in refused-changes (Adding c.args.x) c.args.p v.result v.ensures _ c.in-Err.is
