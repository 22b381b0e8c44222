use Rattle.std.proofs.Common.{◌≡◌, refl, arith}
use Rattle.fillings.proofs.Groups.{gathered-first, gathered-some, gathered-full, gathered-one, gathered-fits, gathered-step, gathered-done}
use Rattle.fillings.proofs.group_of.Goals as goal

pub loop-to-init : goal.loop-to-init
loop-to-init c = (omega arith, gathered-first c.requires.1.0)

pub overflow_mul-left : goal.overflow_mul-left
overflow_mul-left c = let g = c.loop-to.invariant.1.small in omega arith

pub nonzero_div-left : goal.nonzero_div-left
nonzero_div-left c = omega (arith, gathered-some c.loop-to.invariant.1 c.requires.0)

pub returns-then-left-base : goal.returns-then-left-base
returns-then-left-base c = gathered-full c.loop-to.invariant.1 c.requires.0 _ refl c.if-left-base.true

pub overflow_add-base : goal.overflow_add-base
overflow_add-base c = record { fits = gathered-one c.loop-to.invariant.1 c.requires.0 _ refl c.if-left-base.false }

pub overflow_mul-base : goal.overflow_mul-base
overflow_mul-base c = record { fits = gathered-fits c.loop-to.invariant.1 c.requires.0 _ refl c.if-left-base.false }

pub loop-to-preserved : goal.loop-to-preserved
loop-to-preserved c = (omega arith, gathered-step c.loop-to.invariant.1 c.requires.0 _ refl c.if-left-base.false (omega arith))

pub returns : goal.returns
returns c =
    let i = c.loop-to.invariant.1 in
    let e : c.max.result ≡ c.loop-to.to = omega (arith, i.from) in
    rw e (gathered-done i c.requires.0 (omega arith))
