use Rattle.std.proofs.Common.{◌≡◌, ℕ, ◌-◌, ◌<◌, List, None, Some, sym, subst, arith}
use Rattle.fillings.specs.Foremost.{FirstAt, begun, onward, found, lacking}
use Rattle.fillings.proofs.Foremost.{sought-none, sought-more, sought-step, sought-done}
use Rattle.fillings.proofs.onward.Goals.{Else-n-cap}
use Rattle.fillings.proofs.onward.Goals as goal

-- what is not found is not found
never : {v : List ℕ} → None ≡ Some v → ⊥
never e = let z : ◌≡◌ {A = ℕ} 0 1 = cc in omega arith

own : {u v : List ℕ} → Some u ≡ Some v → u ≡ v
own e = cc

pub loop-from-init : goal.loop-from-init
loop-from-init c = (omega arith, (begun, c.requires.sought.0))

pub returns-then-n-cap : goal.returns-then-n-cap
returns-then-n-cap c =
    let a = c.args in
    let l = c.loop-from in
    let n = c.run_over-n in
    let x = c.requires.fair in
    record {
      few = omega (arith, n.ensures.runs.few);
      writes = lacking l.r l.from l.written n.result l.invariant.1.0 (omega arith) n.ensures.runs n.ensures.run_writes c.if-n-cap.true;
      found = λ v e. absurd (never e);
      none = λ e. sought-none a.p a.capacity a.cap x.0.long x.1.0 x.1.1.1.1 l.r l.from l.invariant.1.1 n.result n.ensures.runs c.if-n-cap.true;
    }

-- the run has fixed one part more
more : (c : Else-n-cap) → c.loop-from.from < c.run_over-n.result.to
more c =
    let a = c.args in
    let l = c.loop-from in
    let n = c.run_over-n in
    let x = c.requires.fair in
    sought-more a.p a.capacity a.cap x.0.long x.1.0 x.1.1.1.1 l.r l.from l.from l.invariant.1.1.heads
    n.result n.ensures.runs c.if-n-cap.false (omega arith) x.1.1.1.0

pub loop-from-smaller : goal.loop-from-smaller
loop-from-smaller c = omega (arith, more (goal.at.loop-from-smaller c).Else-n-cap)

pub loop-from-preserved : goal.loop-from-preserved
loop-from-preserved c =
    let a = c.args in
    let l = c.loop-from in
    let n = c.run_over-n in
    let x = c.requires.fair in
    let m = more (goal.at.loop-from-preserved c).Else-n-cap in (
      omega (arith, n.ensures.runs.few),
      (
        onward l.r l.from l.written n.result l.invariant.1.0 (omega arith) n.ensures.runs n.ensures.run_writes c.if-n-cap.false,
        sought-step a.p a.capacity a.cap x.0.long x.1.0 x.1.1.1.1 l.r l.from l.from l.invariant.1.1.heads n.result n.ensures.runs c.if-n-cap.false
            (omega arith) (omega arith),
      ),
    )

pub returns : goal.returns
returns c =
    let a = c.args in
    let l = c.loop-from in
    let x = c.requires.fair in
    record {
      few = omega (arith, l.invariant.1.1.heads.inside);
      writes = found l.r l.from l.written l.invariant.1.0 (omega arith);
      found = λ v e. subst (FirstAt a.p a.capacity (a.cap - 1)) (own e) (sought-done a.p a.capacity a.cap x.0.long x.1.0 x.1.1.1.1 l.r l.from (omega arith) l.invariant.1.1);
      none = λ e. absurd (never (sym e));
    }
