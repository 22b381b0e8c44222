-- `prepare::branching` meets its contract: the tests are those of the definition, in its order.
use mathlib.Core.Path.{sym}
use borrow.Author.Rules.{rules}
use borrow.Author.Tests.{lt-ltb, le-ltb}
use mir.Facts.{to_z-of_z}
use mir.Syntax.{w64}
use mir.Val.{SFits}
use Rattle.arith.proofs.Parts.{within-back}
use Rattle.prepare.proofs.branching.Statement.{statement}
use Rattle.prepare.proofs.branching.Tie as tie

room_fits : (c : tie.After-fill_up-f) → SFits w64 c.fill_up-f.result.room
room_fits c = search rules

fill-up-requires : tie.Need-fill_up-f-requires
fill-up-requires c κs = search rules

returns : tie.Need-returns-then-f-lt0
returns c =
    let f = c.before.before.before in
    let t = rw (to_z-of_z (room_fits f)) at c.if-f-lt0.true in
    rw (sym f.fill_up-f.ensures, t)

mul-t9 : tie.Need-offset_bounds-cols-u
mul-t9 c = search rules

element-copy-out-t12 : tie.Need-bounds-cols-u
element-copy-out-t12 c = search rules

mul-t13 : tie.Need-offset_bounds-cols-u-then-u-n
mul-t13 c = search rules

element-copy-out-t16 : tie.Need-bounds-cols-u-then-u-n
element-copy-out-t16 c = search rules

returns-2 : tie.Need-returns-then-u-n
returns-2 c =
    let at-else1 = c.before.before.before in
    let f = at-else1.before.before.before in
    let z = f.requires.columns in
    let u = f.fill_up-f.result.at in
    let t = rw (to_z-of_z (room_fits f)) at c.if-f-lt0.false in
    rw (sym f.fill_up-f.ensures, t, lt-ltb _ _ c.if-u-n.true, within-back tt (z.rates-in u), within-back tt (z.sizes-in u))

returns-3 : tie.Need-returns
returns-3 c =
    let at-else1 = c.before in
    let f = at-else1.before.before.before in
    let t = rw (to_z-of_z (room_fits f)) at c.if-f-lt0.false in
    rw (sym f.fill_up-f.ensures, t, le-ltb _ _ c.if-u-n.false)

pub branching_spec : {M : Type 1} → statement M
branching_spec =
    tie.close
    (tie.spec
    fill-up-requires
    returns
    mul-t9
    element-copy-out-t12
    mul-t13
    element-copy-out-t16
    returns-2
    returns-3)
