use Rattle.std.proofs.Common.{ℕ, ap, ◌∙◌, arith, rules}
use Rattle.fillings.specs.Ranges.{num, low_near}
use Rattle.fillings.proofs.Lists.{made-step, made-done}
use Rattle.fillings.proofs.Narrow.{near_within}
use Rattle.fillings.proofs.narrowed.Goals as goal

pub loop-k-init : goal.loop-k-init
loop-k-init c = (record { long = search rules; each = λ k l. absurd (omega arith) }, record { long = search rules; each = λ k l. absurd (omega arith) })

pub near_low-requires : goal.near_low-requires
near_low-requires c =
    let s = c.args in
    let k = c.loop-k.k in (
      omega (arith, c.near_wide-w.ensures, near_within s.left (num s.p.taken k) (num s.p.left k) (num s.r.wide k)),
      omega (arith, c.requires.1.0.ranges_in k (omega arith), c.requires.1.1 k (omega arith)),
    )

pub loop-k-preserved : goal.loop-k-preserved
loop-k-preserved c =
    let k = c.loop-k.k in
    let a = c.args in
    let n = c.near_wide-w in
    let low : ℕ → ℕ = λ m. low_near (num a.p.taken k) (num a.r.low k) (num a.r.wide k) m in (
      made-step _ k c.near_low.result (omega arith) (c.near_low.ensures ∙ ap low n.ensures) c.loop-k.invariant.0,
      made-step _ k n.result (omega arith) n.ensures c.loop-k.invariant.1,
    )

pub returns : goal.returns
returns c =
    let i = c.loop-k.invariant in
    record { lows = made-done (omega arith) i.0; wides = made-done (omega arith) i.1 }
