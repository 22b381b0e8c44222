use Rattle.std.proofs.Common.{◌≡◌, get_or, arith}
use borrow.Author.Count.{below_more}
use Rattle.scales.specs.Digits.{rest_at}
use Rattle.scales.proofs.Digits.{rest-done}
use Rattle.scales.proofs.scales_of_all.Goals as goal

pub loop-u-preserved : goal.loop-u-preserved
loop-u-preserved c =
    let l = c.loop-u in
    let us = c.args.us.now in
    let m = c.max-most in
    let o = c.scales_of.ensures in
    record {
      few = omega (arith, m.ensures, o.few);
      done = below_more (λ k. rest_at m.result (get_or us k 0) ≡ 0) l.u-index
          (λ k h. rest-done l.most m.result (get_or us k 0) (omega (arith, m.ensures)) (l.invariant.done k h))
          (rest-done c.scales_of.result m.result (get_or us l.u-index 0) (omega (arith, m.ensures)) o.done);
      soonest = λ s h. omega (arith, m.ensures, l.invariant.soonest s (λ k g. h k (omega arith)), o.soonest s (h l.u-index (omega arith)));
    }

pub returns : goal.returns
returns c =
    let i = c.loop-u.invariant in
    record { done = λ j h. i.done j (omega arith); soonest = λ s h. i.soonest s (λ k m. h k (omega arith)); few = i.few }
