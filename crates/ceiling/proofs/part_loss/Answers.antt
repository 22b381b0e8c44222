use Rattle.std.proofs.Common.{arith}
use Rattle.ceiling.proofs.Limits.{part_none, part-made}
use Rattle.ceiling.proofs.part_loss.Goals as goal

pub returns-then-a-b : goal.returns-then-a-b
returns-then-a-b c = part_none c.deepest.ensures

pub returns : goal.returns
returns c =
    let a = c.args in
    part-made a.n a.q a.part a.parts c.requires.0 c.requires.1.1.0 c.requires.1.1.1 (omega (arith, c.if-a-b.false))
