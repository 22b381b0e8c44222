-- The item's number, its amount, and its step where steps are shown.
use Rattle.std.proofs.Common.{sym, add-one, arith, rules}
use mir.Syntax.{w64}
use mir.Val.{SFits}
use mir.Facts.{to_z-of_z}
use Rattle.text.proofs.Buffers.{puts, roomier}
use Rattle.listing.proofs.put_item.Goals as goal

pub returns-then-steps : goal.returns-then-steps
returns-then-steps c =
    let hp : SFits w64 c.args.x.p = search rules in
    let l = puts (omega arith) c.put_natural-step.ensures c.put_integer.ensures in
    let f = puts (omega arith) c.put_natural-amount.ensures (puts (omega arith) c.put_integer-divisor.ensures l) in
    rw (c.if-steps.true, sym (add-one c.args.k)) (rw (to_z-of_z hp, to_z-of_z c.ranges.s) at f)

pub returns-else-steps : goal.returns-else-steps
returns-else-steps c =
    let hp : SFits w64 c.args.x.p = search rules in
    let f = puts (omega arith) c.put_natural-amount.ensures (puts (omega arith) c.put_integer-divisor.ensures c.put_natural.ensures) in
    rw (c.if-steps.false, sym (add-one c.args.k)) (roomier (omega arith) (rw (to_z-of_z hp) at f))
