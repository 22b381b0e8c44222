use Rattle.std.proofs.Common.{◌+◌, ◌-◌, arith}
use Rattle.fillings.specs.Leaps.{shut, ran}
use Rattle.fillings.proofs.Runs.{runs_none}
use Rattle.fillings.proofs.Heads.{heads-shut}
use Rattle.fillings.proofs.leap.Goals as goal

pub returns-then-remaining-eq0 : goal.returns-then-remaining-eq0
returns-then-remaining-eq0 c =
    let r = c.opening-h.result in
    let a = c.args in
    let x = c.requires.fair in
    let none = heads-shut a.p a.w.down a.w.capacity (a.cap - 1) a.w.spare r a.to (a.to + 1) x.0.long x.1.0.down c.opening-h.ensures.heads
    (omega (arith, c.remaining.ensures, c.if-remaining-eq0.true)) in
    rw c.nothing.ensures (record {
      head = r;
      opens = c.opening-h.ensures;
      runs = runs_none a.p r a.w.capacity a.cap a.to 0 (omega arith) (λ y i f. absurd (none y i f));
      writes = shut r c.opening-h.ensures none;
    })

pub returns : goal.returns
returns c =
    let r = c.opening-h.result in
    let n = c.run_over in
    let e = c.opening-h.ensures in
    record { head = r; opens = e; runs = n.ensures.runs; writes = ran r n.result.written e n.ensures.run_writes }
