use Rattle.std.proofs.Common.{arith, rules}
use mir.Syntax.{w64}
use mir.Val.{SFits}
use mir.Facts.{to_z-of_z}
use Rattle.text.proofs.Buffers.{puts}
use Rattle.listing.proofs.put_best.Goals as goal

pub returns : goal.returns
returns c =
    let h : SFits w64 c.args.value.p = search rules in
    rw (to_z-of_z h) at (puts (omega arith) c.put_word-amount.ensures (puts (omega arith) c.put_integer-divisor.ensures c.put_natural.ensures))
