use Rattle.std.proofs.Common.{◌≡◌, arith, pos, ◌*ℤ◌, to_z, w64}
use mir.Facts.{to_z_pos}
use Rattle.arith.specs.Within.{Within}
use Rattle.arith.proofs.Parts.{within-mul, within-sub, within-back}
use Rattle.ceiling.proofs.score.Goals as goal

pub returns : goal.returns
returns c =
    let q-is : to_z w64 c.args.q ≡ pos c.args.q = to_z_pos w64 (omega arith) in
    let p-is : to_z w64 c.args.p ≡ pos c.args.p = to_z_pos w64 (omega arith) in
    let gain : Within 10000000 (pos c.args.q *ℤ c.args.c)
    = within-mul {m = 1000} {x = pos c.args.q} (record { above = c.requires.1.0; below = omega arith }) c.requires.1.1.1 in
    let loss : Within 10000000 (pos c.args.p *ℤ c.args.a)
    = within-mul {m = 10000} {x = pos c.args.p} (record { above = c.requires.0; below = omega arith }) c.requires.1.1.0 in
    rw (q-is, within-back tt c.requires.1.1.1, p-is, within-back tt c.requires.1.1.0, within-back tt gain, within-back tt loss)
    (within-back tt (within-sub gain loss))
