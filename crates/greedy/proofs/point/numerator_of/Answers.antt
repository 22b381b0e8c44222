use Rattle.std.proofs.Common.{◌≡◌, ◌∙◌, ap, ap₂, arith, pos, ◌+ℤ◌, ◌*ℤ◌, ℤ, to_z, of_z, w64}
use lib.Dec.{lit<}
use mir.Facts.{to_z_pos}
use Rattle.arith.proofs.Parts.{within-sfits, within-back}
use Rattle.arith.proofs.Words.{back}
use Rattle.greedy.specs.Fill.{stand, numerator}
use Rattle.greedy.proofs.Numerators.{whole-within, numerator-within}
use Rattle.greedy.proofs.point.numerator_of.Goals as goal

-- the two terms, as the code holds them
whole_is : (c : goal.After-standing-x) → to_z w64 (of_z w64 c.standing-x.result) *ℤ to_z w64 c.args.q
    ≡ stand c.args.cols c.args.ends c.args.f.at c.args.k *ℤ pos c.args.q
whole_is c =
    let z = c.requires.sized in
    let k = c.args.k in
    let e = rw (
      within-back tt (z.columns.weights-in k),
      within-back tt (z.columns.prices-in k),
      within-back tt (z.ends.lo-in k),
      within-back tt (z.ends.hi-in k),
    ) at c.standing-x.ensures in
    ap₂ (λ (x y : ℤ). x *ℤ y) (back c.standing-x.result c.standing-x.type_inv ∙ e) (to_z_pos w64 (omega (arith, c.requires.few)))

held : (c : goal.After-taking) → to_z w64 (of_z w64 (to_z w64 (of_z w64 c.standing-x.result) *ℤ to_z w64 c.args.q)) +ℤ to_z w64 (of_z w64 c.taking.result)
    ≡ numerator c.args.cols c.args.ends c.args.f c.args.q c.args.k
held c =
    let k = c.args.k in
    let w = whole-within c.args.cols c.args.ends c.args.f c.args.q k c.requires in
    let e = rw (within-back tt (c.requires.sized.columns.weights-in k), within-back tt c.requires.filled.room_in) at c.taking.ensures in
    ap₂ (λ (x y : ℤ). x +ℤ y) (ap (λ (x : ℤ). to_z w64 (of_z w64 x)) (whole_is c.before.before) ∙ within-back tt w) (back c.taking.result c.taking.type_inv ∙ e)

pub overflow_mul-result : goal.overflow_mul-result
overflow_mul-result c =
    rw (whole_is c) (within-sfits (lit< tt) (whole-within c.args.cols c.args.ends c.args.f c.args.q c.args.k c.requires))

pub overflow_add-result : goal.overflow_add-result
overflow_add-result c =
    rw (held c) (within-sfits (lit< tt) (numerator-within c.args.cols c.args.ends c.args.f c.args.q c.args.k c.requires))

pub returns : goal.returns
returns c = rw (held c) (within-back tt (numerator-within c.args.cols c.args.ends c.args.f c.args.q c.args.k c.requires))
