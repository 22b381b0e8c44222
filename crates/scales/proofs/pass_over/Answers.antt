use Rattle.std.proofs.Common.{arith}
use Rattle.scales.proofs.Cells.{passed-below, passed-join}
use Rattle.scales.proofs.pass_over.Goals as goal

pub pass_inside-requires-clause-shown : goal.pass_inside-requires-clause-shown
pass_inside-requires-clause-shown c =
    let p = c.pass_edge.ensures in
    record { room = omega (arith, p.same); below = passed-below c.requires.shown.below p }

pub pass_edge-requires-2-clause-shown : goal.pass_edge-requires-2-clause-shown
pass_edge-requires-2-clause-shown c =
    let p = c.pass_edge.ensures in
    let q = c.pass_inside.ensures in
    record { room = omega (arith, p.same, q.same); below = passed-below (passed-below c.requires.shown.below p) q }

pub returns : goal.returns
returns c =
    let s = c.args in
    passed-join {lo = s.from} {hi = s.to} (omega arith) (omega arith)
    (passed-join {hi = s.to} (omega arith) (omega arith) c.pass_edge.ensures c.pass_inside.ensures)
    c.pass_edge-2.ensures
