use Rattle.std.proofs.Common.{rules, to_z-of_z, w64, SFits}
use Rattle.standing.proofs.Removed.{removed-none}
use Rattle.standing.proofs.none_of.Goals as goal

pub returns : goal.returns
returns c =
    let m = c.args.m in
    let h : SFits w64 m.capacity = search rules in
    rw (removed-none m c.args.k) (rw (to_z-of_z h, c.empty_model.ensures) at c.with_capacity.ensures)
