use Rattle.std.proofs.Common.{arith}
use Rattle.scales.specs.Filling.{items_of, start}
use Rattle.scales.proofs.Sound.{Done, bounds}
use Rattle.scales.proofs.Exact.{reached}
use Rattle.scales.proofs.Scaling.{least-below, start-below}
use Rattle.scales.proofs.least_cost.Goals as goal

pub returns-clause-least : goal.returns-clause-least
returns-clause-least c =
    let a = c.args in
    let cap = a.cap in
    let C = a.capacity in
    let n = c.scales_of_all-scales in
    let I = items_of a.ws.now a.us.now a.ts.now a.ls.now in
    let done : Done n.result I = λ j l. n.ensures.done j (omega (arith, c.requires.listed.ranges)) in
    rw c.solve.ensures.least_value (record {
      capped = least-below cap n.result I (start cap) C (start-below cap);
      bounds = bounds cap n.result I C done;
      reached = reached cap n.result I C done;
    })
