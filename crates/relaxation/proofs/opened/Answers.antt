use Rattle.std.proofs.Common.{rules, to_z-of_z, w64, SFits}
use Rattle.relaxation.proofs.Lent.{load-none}
use Rattle.relaxation.proofs.opened.Goals as goal

pub returns : goal.returns
returns c =
    let h : SFits w64 c.args.capacity = search rules in
    rw (c.with_needs.ensures, c.with_count-n.ensures, c.with_capacity-m.ensures, c.empty_model.ensures, to_z-of_z h, load-none)
