use Rattle.std.proofs.Common.{sym, ◌∙◌, arith}
use Rattle.fillings.specs.Ranges.{num}
use Rattle.fillings.proofs.Keys.{radix-before, radix-at, radix-after}
use Rattle.fillings.proofs.Lists.{begun_first, begun-step, begun-done}
use Rattle.fillings.proofs.Groups.{left-first, left-fits, left-next}
use Rattle.fillings.proofs.radices.Goals as goal

pub loop-k-init : goal.loop-k-init
loop-k-init c = (left-first c.requires.1.1, begun_first _ c.args.from (λ j l. radix-before _ c.args.from c.args.to j l))

pub overflow_add-b : goal.overflow_add-b
overflow_add-b c = record { fits = left-fits c.loop-k.invariant.0 (omega arith) (omega arith) }

pub loop-k-preserved : goal.loop-k-preserved
loop-k-preserved c =
    let s = c.args in
    let k = c.loop-k.k in
    let q = left-next c.loop-k.invariant.0 (omega arith) in
    (q, begun-step _ k _ (omega arith) (q.is ∙ sym (radix-at (num s.wide) s.from s.to k (omega arith) (omega arith))) c.loop-k.invariant.1)

pub returns : goal.returns
returns c = begun-done (λ j h. radix-after (num c.args.wide) c.args.from c.args.to j (omega arith)) c.loop-k.invariant.1
