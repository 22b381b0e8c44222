use Rattle.std.proofs.Common.{◌≡◌, ◌∙◌, ap, nat_abs, arith}
use mir.Facts.{to_z-of_z}
use Rattle.arith.proofs.Parts.{zs}
use Rattle.text.proofs.Buffers.{puts}
use Rattle.text.proofs.Decimals.{integer-below}
use Rattle.text.proofs.put_integer.Goals as goal

pub returns-then-z-lt0 : goal.returns-then-z-lt0
returns-then-z-lt0 c =
    let e : c.unsigned_abs-n.result ≡ nat_abs c.args.z = c.unsigned_abs-n.ensures.value ∙ ap nat_abs (to_z-of_z c.ranges.z) in
    rw (integer-below c.args.z (omega (arith, zs))) (rw e at (puts (omega arith) c.put_byte-next.ensures c.put_natural.ensures))
