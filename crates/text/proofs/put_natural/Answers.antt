use Rattle.std.proofs.Common.{◌≡◌, ◌∙◌, ◌-◌, length, take, drop, length-drop, arith}
use lib.Seq.{take_all}
use Rattle.text.specs.Decimal.{decimal}
use Rattle.text.proofs.Buffers.{puts, roomier}
use Rattle.text.proofs.Decimals.{decimal-length}
use Rattle.text.proofs.put_natural.Goals as goal

pub returns : goal.returns
returns c =
    let d = c.digits_of-d in
    let n = length d.result.bytes - d.result.first in
    let e : take n (drop d.result.first d.result.bytes) ≡ decimal c.args.n
    = take_all n (drop d.result.first d.result.bytes) (simp length-drop (omega arith)) ∙ d.ensures.spelled in
    let l = decimal-length 19 c.args.n (omega (arith, c.ranges.n.fits)) in
    roomier (omega arith) (puts (omega arith) (rw e at c.put_word-next.ensures) c.put_byte.ensures)
