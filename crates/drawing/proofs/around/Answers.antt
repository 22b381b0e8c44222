-- 0 - m is the negative of m.
use Rattle.std.proofs.Common.{◌≡◌, pos, ◌-ℤ◌, neg_ℤ, lit<, to_z-of_z, w64, SFits, to_z, of_z}
use Rattle.arith.proofs.Parts.{zero-less, within-neg, within-sfits}
use Rattle.arith.proofs.Words.{back}
use Rattle.drawing.specs.Drawing.{around_at}
use Rattle.drawing.proofs.around.Goals as goal

pub returns : goal.returns
unfolding around_at
returns c =
    let m = c.args.m in
    let fits : SFits w64 (neg_ℤ m) = within-sfits (lit< tt) (within-neg m c.requires.1) in
    let negated : to_z w64 (of_z w64 (pos 0 -ℤ to_z w64 (of_z w64 m))) ≡ neg_ℤ m = rw (to_z-of_z c.ranges.m, zero-less m) (to_z-of_z fits) in
    rw (back c.pick.result c.pick.type_inv) (rw (negated, to_z-of_z c.ranges.m, c.draw.ensures) at c.pick.ensures)
