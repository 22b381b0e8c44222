use Rattle.std.proofs.Common.{arith}
use Rattle.scales_test.proofs.draw.Goals as goal

pub returns-clause-drawn : goal.returns-clause-drawn
returns-clause-drawn c =
    let l = c.loop-j in
    record { three = l.invariant.0.1; small = λ j h. l.invariant.1 j (omega arith) }
