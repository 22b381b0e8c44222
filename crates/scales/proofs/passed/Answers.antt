use Rattle.scales.specs.Tables.{at}
use Rattle.scales.proofs.Cells.{pass-heavy, pass-light}
use Rattle.scales.proofs.passed.Goals as goal

pub returns-then-w-x : goal.returns-then-w-x
returns-then-w-x c =
    let s = c.args in
    let h = pass-heavy s.cap s.w s.a s.b (at s.cap s.n s.cells.now) s.x c.if-w-x.true in
    cc

pub returns-else-w-x : goal.returns-else-w-x
returns-else-w-x c =
    let s = c.args in
    let h = pass-light s.cap s.w s.a s.b (at s.cap s.n s.cells.now) s.x c.if-w-x.false in
    cc
