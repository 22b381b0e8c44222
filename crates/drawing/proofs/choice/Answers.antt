-- A number from lo on is not below 0.
use Rattle.std.proofs.Common.{pos, nat_abs, ◌≤ℤ◌, ap, to_z-of_z}
use Rattle.arith.proofs.Integers.{≤ℤ-trans}
use Rattle.arith.proofs.Parts.{cast-in}
use Rattle.arith.proofs.Words.{back}
use Rattle.drawing.specs.Drawing.{draw_at, choice_at}
use Rattle.drawing.proofs.Draws.{picked-in}
use Rattle.drawing.proofs.choice.Goals as goal

pub overflow_cast-result : goal.overflow_cast-result
overflow_cast-result c =
    let a = c.args in
    let number = rw (to_z-of_z c.ranges.lo, to_z-of_z c.ranges.hi, c.draw.ensures) at c.pick.ensures in
    let above : pos 0 ≤ℤ c.pick.result = rw number (≤ℤ-trans c.requires.0 (picked-in (draw_at a.state) a.lo a.hi c.requires.1.0).0) in
    rw (back c.pick.result c.pick.type_inv) (cast-in above (record { sfits = c.pick.type_inv }))

pub returns : goal.returns
unfolding choice_at
returns c =
    let number = rw (to_z-of_z c.ranges.lo, to_z-of_z c.ranges.hi, c.draw.ensures) at c.pick.ensures in
    rw (back c.pick.result c.pick.type_inv) (ap nat_abs number)
