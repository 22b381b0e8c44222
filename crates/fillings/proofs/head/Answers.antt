use Rattle.std.proofs.Common.{◌≡◌, ◌-◌, subst, arith}
use Rattle.fillings.specs.Leaps.{Heads}
use Rattle.fillings.proofs.Foremost.{heads-first}
use Rattle.fillings.proofs.head.Goals as goal

pub loop-k-init : goal.loop-k-init
loop-k-init c =
    let s = c.args in
    heads-first s.p s.w.capacity (s.cap - 1) c.whole_of-r.result c.requires.0.long c.whole_of-r.ensures

pub returns : goal.returns
returns c =
    let s = c.args in
    let e : c.loop-k.k ≡ s.to = omega arith in
    subst (λ t. Heads s.p s.w.capacity (s.cap - 1) c.loop-k.r t t) e c.loop-k.invariant
