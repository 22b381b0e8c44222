-- The remainder is below the width, so the sum lies in the range.
use Rattle.std.proofs.Common.{◌≡◌, ◌%◌, ◌^◌, ◌<◌, pos, mod-lt, arith, to_z-of_z, w64, SFits, to_z}
use mir.Facts.{to_z_pos}
use Rattle.arith.proofs.Words.{between}
use Rattle.drawing.specs.Drawing.{span, picked}
use Rattle.drawing.proofs.Draws.{span-some, span-few, picked-in}
use Rattle.drawing.proofs.pick.Goals as goal

pub returns : goal.returns
unfolding picked
returns c =
    let t = c.args.t in
    let lo = c.args.lo in
    let hi = c.args.hi in
    let wide : c.width-n.result ≡ span lo hi = rw (to_z-of_z c.ranges.lo, to_z-of_z c.ranges.hi) at c.width-n.ensures in
    let below = mod-lt t (span-some lo hi c.requires.0) in
    let few = span-few lo hi c.requires.1.0 c.requires.1.1 in
    let small : t % c.width-n.result < 2 ^ 63 = rw wide (omega (arith, below, few)) in
    let part : to_z w64 (t % c.width-n.result) ≡ pos (t % span lo hi) = rw (to_z_pos w64 small, wide) in
    let i = picked-in t lo hi c.requires.0 in
    let fits : SFits w64 (picked t lo hi) = between lo hi _ c.ranges.lo c.ranges.hi i.0 i.1 in
    rw (to_z-of_z c.ranges.lo, part) (to_z-of_z fits)
