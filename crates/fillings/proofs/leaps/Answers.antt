use Rattle.std.proofs.Common.{◌≡◌, ◌+◌, ◌-◌, arith}
use Rattle.fillings.specs.Leaps.{leap_to, leap_share, TriedWrite, untried, another, Leaps}
use Rattle.fillings.proofs.Foremost.{sought-first, sought-more, sought-step}
use Rattle.fillings.proofs.Heads.{leap-in, leaps-as}
use Rattle.fillings.proofs.leaps.Goals.{After-leap-n}
use Rattle.fillings.proofs.leaps.Goals as goal

-- what a leap says of the capacity
leaps-of : (c : After-leap-n) → let a = c.args in let i = c.loop-i.i - 1 in Leaps a.p a.capacity a.cap (leap_to i) (leap_share i) c.leap-n.result
leaps-of c = leaps-as c.by_weight-w.ensures.1 c.leap_to.ensures c.leap_share.ensures c.leap-n.ensures

tried : (c : After-leap-n) → let a = c.args in TriedWrite a.p a.capacity a.cap ((c.loop-i.i - 1) - 1) (c.loop-i.written + c.leap-n.result.written)
tried c =
    let l = c.loop-i in
    another (l.i - 1) l.written c.leap-n.result.written (omega arith) l.invariant.1.1 (leaps-of c).writes

pub loop-i-init : goal.loop-i-init
loop-i-init c = (omega arith, (omega arith, untried))

pub overflow_add-written : goal.overflow_add-written
overflow_add-written c = omega (arith, (leaps-of (goal.at.overflow_add-written c).After-leap-n).runs.few)

pub loop-i-preserved : goal.loop-i-preserved
loop-i-preserved c =
    let n = (goal.at.loop-i-preserved c).After-leap-n in
    (omega arith, (omega (arith, (leaps-of n).runs.few), tried n))

pub returns-then-n-cap : goal.returns-then-n-cap
returns-then-n-cap c =
    let n = (goal.at.returns-then-n-cap c).After-leap-n in
    let a = c.args in
    let x = c.requires.fair in
    let e = leaps-of n in
    let i = c.loop-i.i - 1 in
    let t = leap_to i in
    let found : c.leap-n.result.cost ≡ a.cap → ⊥ = λ k. omega (arith, c.if-n-cap.true) in
    let more = sought-more a.p a.capacity a.cap x.0.long x.1.0 x.1.1.1.1 e.head t (t + 1) e.opens.heads c.leap-n.result
    e.runs found (leap-in i (omega arith)) x.1.1.1.0 in
    record {
      sought = sought-step a.p a.capacity a.cap x.0.long x.1.0 x.1.1.1.1 e.head t (t + 1) e.opens.heads c.leap-n.result
          e.runs found (omega (arith, more)) (omega (arith, more));
      few = omega (arith, e.runs.few);
      left = i - 1;
      writes = tried n;
    }

pub returns : goal.returns
returns c =
    let a = c.args in
    let x = c.requires.fair in
    let o = c.whole_of in
    let l = c.loop-i in
    rw c.nothing.ensures (record {
      sought = sought-first a.p a.capacity a.cap x.0.long x.1.0 x.1.1.1.1 o.result o.ensures;
      few = omega arith;
      left = l.i - 1;
      writes = l.invariant.1.1;
    })
