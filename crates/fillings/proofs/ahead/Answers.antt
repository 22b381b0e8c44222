use Rattle.std.proofs.Common.{◌-◌, refl, arith}
use Rattle.fillings.proofs.Foremost.{among-less}
use Rattle.fillings.proofs.Heads.{heads-kept, heads-fixed}
use Rattle.fillings.proofs.ahead.Goals as goal

pub shortened-requires : goal.shortened-requires
shortened-requires c =
    let a = c.args in
    let m = among-less a.p a.r c.nearer-n.result c.requires.heads.among c.nearer-n.ensures.inside in
    (c.requires.fair.0, (m, (omega arith, omega arith)))

pub returns : goal.returns
returns c =
    let n = c.nearer-n in
    let a = c.args in
    let x = c.requires in
    heads-fixed a.p a.w.capacity (a.cap - 1) n.result c.shortened.result a.k 0 x.fair.1.1.1 (omega arith)
    (heads-kept a.p a.w.capacity a.cap a.r n.result a.k a.k x.fair.1.1.0 n.ensures x.heads) c.shortened.ensures refl
