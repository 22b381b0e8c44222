-- `lattice::building::holds` meets its contract: its tests are those of the definition.
use mathlib.Core.Path.{◌≡◌}
use native.Mathlib.Omega.{arith}
use lib.Dec.{lit<}
use lib.IntN.{ℤ, ◌*ℤ◌}
use mir.Syntax.{w64}
use mir.Val.{to_z, of_z}
use Rattle.arith.specs.Within.{Within}
use Rattle.arith.specs.Division.{floor_div}
use Rattle.arith.proofs.Parts.{within-mul, within-sub, within_more, within-sfits, within-back}
use Rattle.arith.proofs.Rounding.{floor-within}
use Rattle.arith.proofs.Words.{back}
use Rattle.lattice.specs.Building.{rest_of, above_slant, holds_by}
use Rattle.lattice.proofs.Ranges.{nonzero}
use Rattle.lattice.proofs.building.holds.Statement.{statement}
use Rattle.lattice.proofs.building.holds.Tie as tie

abbrev S : tie.Start → ℤ
S s = floor_div s.args.a s.args.l.stride

product : (s : tie.Start) → Within 100000000000 (s.args.l.slant *ℤ S s)
product s = within-mul s.requires.tame.slant-in (floor-within s.args.a s.args.l.stride s.requires.weight-in)

over : (s : tie.Start) → Within 100000010000 (above_slant s.args.l s.args.a s.args.c)
over s = within-sub s.requires.price-in (product s)

rest-requires : tie.Need-rest-requires
rest-requires c κs =
    let s = c.before in
    rw (within-back tt s.requires.weight-in, within-back tt s.requires.tame.stride-in)
    (record {
      dividend-in = within_more (omega arith) s.requires.weight-in;
      divisor-in = within_more (omega arith) s.requires.tame.stride-in;
      divisor≥1 = s.requires.stride≥1;
    })

-- what the weight leaves, as the local holds it
left : (c : tie.After-rest) → to_z w64 (of_z w64 c.rest.result) ≡ rest_of c.args.a c.args.l.stride
left c =
    let s = c.before.before in
    rw (back c.rest.result c.rest.type_inv) (rw (within-back tt s.requires.weight-in, within-back tt s.requires.tame.stride-in) at c.rest.ensures)

returns : tie.Need-returns-then-rest-gt0
unfolding holds_by
returns c = let k = rw (left c.before) at c.if-rest-gt0.true in rw k

floor-div-requires : tie.Need-floor_div-requires
floor-div-requires c κs =
    let s = c.before.before.before in
    rw (within-back tt s.requires.weight-in, within-back tt s.requires.tame.stride-in)
    (within_more (omega arith) s.requires.weight-in, nonzero s.args.l.stride s.requires.stride≥1)

-- the moments that are spoken of below
abbrev start-of-rest : tie.After-rest → tie.Start
start-of-rest c = c.before.before

abbrev start : tie.After-floor_div → tie.Start
start c = start-of-rest c.before.before

abbrev after-floor-div : tie.After-struct_told-3-1 → tie.After-floor_div
after-floor-div c = c.before.before.before

-- the slant times the strides, as the locals hold them
multiple : (c : tie.After-floor_div) →
    let s = start c in
    to_z w64 (of_z w64 s.args.l.slant) *ℤ to_z w64 (of_z w64 c.floor_div.result)
    ≡ s.args.l.slant *ℤ S s
multiple c =
    let s = start c in
    let e = rw (within-back tt s.requires.weight-in, within-back tt s.requires.tame.stride-in) at c.floor_div.ensures in
    rw (within-back tt s.requires.tame.slant-in, back c.floor_div.result c.floor_div.type_inv, e)

mul-z : tie.Need-overflow_mul-z
mul-z c = let f = c.before.before in rw (multiple f) (within-sfits (lit< tt) (product (start f)))

sub-z : tie.Need-overflow_sub-z
sub-z c =
    let f = c.before.before in
    let s = start f in
    rw (multiple f, within-back tt (product s), within-back tt s.requires.price-in) (within-sfits (lit< tt) (over s))

rest-requires-2 : tie.Need-rest-requires-2
rest-requires-2 c κs =
    let f = c.before.before.before in
    let s = start f in
    rw (multiple f, within-back tt (product s), within-back tt s.requires.price-in, within-back tt (over s), within-back tt s.requires.tame.gap-in)
    (record { dividend-in = within_more (omega arith) (over s); divisor-in = s.requires.tame.gap-in; divisor≥1 = s.requires.tame.gap≥1 })

returns-2 : tie.Need-returns
unfolding holds_by
returns-2 c =
    let f = after-floor-div c.before in
    let s = start f in
    let k = rw (left f.before.before) at f.if-rest-gt0.false in
    let e = rw (multiple f, within-back tt (product s), within-back tt s.requires.price-in, within-back tt (over s), within-back tt s.requires.tame.gap-in) at
    c.rest-2.ensures in
    rw (k, back c.rest-2.result c.rest-2.type_inv, e)

pub holds_spec : {M : Type 1} → statement M
holds_spec =
    tie.close
    (tie.spec rest-requires returns floor-div-requires mul-z sub-z rest-requires-2 returns-2)
