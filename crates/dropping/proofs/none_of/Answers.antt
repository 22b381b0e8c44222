use Rattle.std.proofs.Common.{rules}
use mir.Facts.{to_z-of_z}
use mir.Syntax.{w64}
use mir.Val.{SFits}
use Rattle.dropping.proofs.Dropped.{dropped-none}
use Rattle.dropping.proofs.none_of.Goals as goal

pub returns : goal.returns
returns c =
    let h : SFits w64 c.args.m.capacity = search rules in
    rw (dropped-none c.args.m) (rw (to_z-of_z h, c.empty_model.ensures) at c.with_capacity.ensures)
