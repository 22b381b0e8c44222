use Rattle.std.proofs.Common.{◌-◌, arith}
use Rattle.fillings.specs.Ranges.{num}
use Rattle.fillings.proofs.Keys.{digits-before, digits-after}
use Rattle.fillings.proofs.Lists.{begun_first, begun-step, begun-done}
use Rattle.fillings.proofs.Groups.{left-first, left-fits, left-next, left-some, read_first, read_here, read_next}
use Rattle.fillings.proofs.digits_of.Goals as goal

pub loop-k-init : goal.loop-k-init
loop-k-init c =
    let a = c.args in
    (left-first c.requires.1.1, (read_first, begun_first _ a.from (λ j l. digits-before _ a.from (a.to - a.from) a.key j l)))

pub overflow_add-b : goal.overflow_add-b
overflow_add-b c = record { fits = left-fits c.loop-k.invariant.0 (omega arith) (omega arith) }

pub nonzero_div-list : goal.nonzero_div-list
nonzero_div-list c = omega (arith, left-some (left-next c.loop-k.invariant.0 (omega arith)))

pub nonzero_rem-rest : goal.nonzero_rem-rest
nonzero_rem-rest c = omega (arith, left-some (left-next c.loop-k.invariant.0 (omega arith)))

pub loop-k-preserved : goal.loop-k-preserved
loop-k-preserved c =
    let i = c.loop-k.invariant in
    let n = left-next i.0 (omega arith) in
    (n, (read_next i.1.0 (omega arith) n, begun-step _ c.loop-k.k _ (omega arith) (read_here i.1.0 (omega arith) n) i.1.1))

pub returns : goal.returns
returns c =
    let s = c.args in
    begun-done (λ j h. digits-after (num s.wide) s.from (s.to - s.from) s.key j (omega arith)) c.loop-k.invariant.1.1
