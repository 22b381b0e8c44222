use Rattle.std.proofs.Common.{arith}
use Rattle.fillings.proofs.Narrow.{near-inside, near-keeps}
use Rattle.fillings.proofs.near.Goals as goal

pub returns : goal.returns
returns c =
    let a = c.args in
    let m = c.remaining-left in
    let n = c.narrowed in
    record {
      inside = near-inside a.p a.r n.result m.result c.requires.0.long c.requires.1 n.ensures;
      kept = λ y i k. near-keeps a.p a.r n.result m.result c.requires.0.long c.requires.1 n.ensures y i (omega (arith, m.ensures, c.if-left-eq0.false));
    }
