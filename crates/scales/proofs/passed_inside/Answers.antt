use Rattle.std.proofs.Common.{◌-◌, arith}
use Rattle.scales.specs.Tables.{at}
use Rattle.scales.proofs.Cells.{at-live, cell_below, pass-heavy, pass-free, pass-given}
use Rattle.scales.proofs.passed_inside.Goals as goal

pub overflow_add-taken : goal.overflow_add-taken
overflow_add-taken c = omega (arith, cell_below (c.args.x - c.args.w) c.requires.shown.0 (omega arith))

pub overflow_add-left : goal.overflow_add-left
overflow_add-left c = omega (arith, cell_below c.args.x c.requires.shown.0 (omega arith))

pub overflow_add-left-2 : goal.overflow_add-left-2
overflow_add-left-2 c = omega (arith, cell_below c.args.x c.requires.shown.0 (omega arith))

pub overflow_add-taken-2 : goal.overflow_add-taken-2
overflow_add-taken-2 c = omega (arith, cell_below (c.args.x - c.args.w) c.requires.shown.0 (omega arith))

pub returns-then-b-eq0 : goal.returns-then-b-eq0
returns-then-b-eq0 c =
    let a = c.args in
    let h = pass-free a.cap a.w a.a a.b (at a.cap a.n a.cells.now) a.x c.requires.shown.1.0 c.requires.shown.0.below c.if-b-eq0.true in
    let l = at-live a.cap a.n a.cells.now a.x (omega arith) in
    let t = at-live a.cap a.n a.cells.now (a.x - a.w) (omega arith) in
    cc

pub returns-then-a-eq0 : goal.returns-then-a-eq0
returns-then-a-eq0 c =
    let a = c.args in
    let h = pass-given a.cap a.w a.a a.b (at a.cap a.n a.cells.now) a.x c.requires.shown.1.0 c.requires.shown.0.below c.if-a-eq0.true in
    let l = at-live a.cap a.n a.cells.now a.x (omega arith) in
    let t = at-live a.cap a.n a.cells.now (a.x - a.w) (omega arith) in
    cc

pub returns : goal.returns
returns c =
    let a = c.args in
    let h = pass-heavy a.cap a.w a.a a.b (at a.cap a.n a.cells.now) a.x c.requires.shown.1.0 in
    let l = at-live a.cap a.n a.cells.now a.x (omega arith) in
    let t = at-live a.cap a.n a.cells.now (a.x - a.w) (omega arith) in
    cc
