use Rattle.std.proofs.Common.{◌≡◌, ◌∙◌, sym, ap, arith, pos, ◌-ℤ◌, ◌*ℤ◌, to_z, of_z, w64}
use lib.Dec.{lit<}
use mir.Facts.{to_z_pos}
use Rattle.arith.proofs.Parts.{within_more, within-mul, within-sub, within-sfits, within-back}
use Rattle.arith.proofs.Words.{no_lt}
use Rattle.ceiling.proofs.Ranges.{pos-within}
use Rattle.ceiling.proofs.Pieces.{abs-pos}
use Rattle.ceiling.proofs.Limits.{known-none, known-made}
use Rattle.ceiling.proofs.near_loss.Goals as goal

pub overflow_sub-n : goal.overflow_sub-n
overflow_sub-n c =
    let q-is : to_z w64 c.args.q ≡ pos c.args.q = to_z_pos w64 (omega (arith, c.requires.1.0)) in
    let product = within-mul {x = pos c.args.q} {y = c.args.w} (pos-within c.args.q c.requires.1.0) c.requires.1.1.0 in
    rw (within-back tt c.requires.0, q-is, within-back tt c.requires.1.1.0, within-back tt product)
    (within-sfits (lit< tt) (within-sub c.requires.0 product))

pub returns-then-n-lt0 : goal.returns-then-n-lt0
returns-then-n-lt0 c = known-none c.deepest.ensures

pub magnitude-m-requires : goal.magnitude-m-requires
magnitude-m-requires c =
    let q-is : to_z w64 c.args.q ≡ pos c.args.q = to_z_pos w64 (omega (arith, c.requires.1.0)) in
    let product = within-mul {x = pos c.args.q} {y = c.args.w} (pos-within c.args.q c.requires.1.0) c.requires.1.1.0 in
    let whole = within-sub c.requires.0 product in
    rw (within-back tt c.requires.0, q-is, within-back tt c.requires.1.1.0, within-back tt product, within-back tt whole) (within_more (omega arith) whole)

pub returns-then-m-gt-DEEPEST : goal.returns-then-m-gt-DEEPEST
returns-then-m-gt-DEEPEST c = known-none c.deepest-then-m-gt-DEEPEST.ensures

pub returns : goal.returns
returns c =
    let a = c.args in
    let q-is : to_z w64 a.q ≡ pos a.q = to_z_pos w64 (omega (arith, c.requires.1.0)) in
    let product = within-mul {x = pos a.q} {y = a.w} (pos-within a.q c.requires.1.0) c.requires.1.1.0 in
    let whole = within-sub c.requires.0 product in
    let n-is : to_z w64 (of_z w64 (to_z w64 (of_z w64 a.top) -ℤ to_z w64 (of_z w64 (to_z w64 a.q *ℤ to_z w64 (of_z w64 a.w))))) ≡ a.top -ℤ pos a.q *ℤ a.w
    = rw (within-back tt c.requires.0, q-is, within-back tt c.requires.1.1.0, within-back tt product) (within-back tt whole) in
    let e = rw n-is at c.magnitude-m.ensures in
    known-made a.top a.q a.w a.part a.parts c.magnitude-m.result c.part_loss.result (ap pos e ∙ sym (abs-pos _ (no_lt (rw n-is at c.if-n-lt0.false))))
    c.part_loss.ensures
