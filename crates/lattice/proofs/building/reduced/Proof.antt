-- `lattice::building::reduced` meets its contract: the product and the difference, one by one.
use mathlib.Core.Path.{◌≡◌}
use native.Mathlib.Omega.{arith}
use lib.Dec.{lit<}
use lib.IntN.{ℤ, ◌-ℤ◌, ◌*ℤ◌}
use mir.Syntax.{w64}
use mir.Val.{to_z, of_z}
use Rattle.arith.specs.Within.{Within}
use Rattle.arith.specs.Division.{floor_div}
use Rattle.arith.proofs.Parts.{within_more, within-sfits, within-back}
use Rattle.arith.proofs.Words.{back}
use Rattle.lattice.specs.Building.{rest_of}
use Rattle.lattice.proofs.Levels.{carried-within, reduced-within}
use Rattle.lattice.proofs.Ranges.{nonzero}
use Rattle.lattice.proofs.building.reduced.Statement.{statement}
use Rattle.lattice.proofs.building.reduced.Tie as tie

abbrev Q : tie.Start → ℤ
Q s = floor_div s.args.u.weight s.args.v.weight

product : (s : tie.Start) → Within 100000000000 (s.args.v.worth *ℤ Q s)
product s = carried-within s.args.u s.args.v s.args.g s.requires

worth : (s : tie.Start) → Within 100100000000 (s.args.u.worth -ℤ s.args.v.worth *ℤ Q s)
worth s = reduced-within s.args.u s.args.v s.args.g s.requires

floor-div-requires : tie.Need-floor_div-requires
floor-div-requires c κs =
    let s = c.before.before in
    rw (within-back tt s.requires.first.weight-in, within-back tt s.requires.second.weight-in)
    (within_more (omega arith) s.requires.first.weight-in, nonzero s.args.v.weight s.requires.weight≥1)

-- the second worth times the quotient, as the locals hold them
multiple : (c : tie.After-floor_div) → to_z w64 (of_z w64 c.args.v.worth) *ℤ to_z w64 (of_z w64 c.floor_div.result)
    ≡ c.args.v.worth *ℤ Q c.before.before.before
multiple c =
    let s = c.before.before.before in
    let e = rw (within-back tt s.requires.first.weight-in, within-back tt s.requires.second.weight-in) at c.floor_div.ensures in
    rw (within-back tt s.requires.second.worth-in, back c.floor_div.result c.floor_div.type_inv, e)

mul-z : tie.Need-overflow_mul-z
mul-z c = let f = c.before.before in rw (multiple f) (within-sfits (lit< tt) (product f.before.before.before))

-- the moments that are spoken of below
abbrev after-floor-div : tie.After-struct_known-2-1 → tie.After-floor_div
after-floor-div c = c.before.before.before

abbrev start-of-told4 : tie.After-struct_told-4-1 → tie.Start
start-of-told4 c = (after-floor-div c.before).before.before.before

abbrev start : tie.After-rest → tie.Start
start c = start-of-told4 c.before

sub-z : tie.Need-overflow_sub-z
sub-z c =
    let f = after-floor-div c.before in
    let s = f.before.before.before in
    rw (multiple f, within-back tt (product s), within-back tt s.requires.first.worth-in) (within-sfits (lit< tt) (worth s))

rest-requires : tie.Need-rest-requires
rest-requires c κs =
    let s = start-of-told4 c in
    rw (within-back tt s.requires.first.weight-in, within-back tt s.requires.second.weight-in)
    (record {
      dividend-in = within_more (omega arith) s.requires.first.weight-in;
      divisor-in = within_more (omega arith) s.requires.second.weight-in;
      divisor≥1 = s.requires.weight≥1;
    })

tame-requires : tie.Need-tame-requires
tame-requires c κs =
    let f = after-floor-div c.before.before in
    let s = f.before.before.before in
    rw (multiple f, within-back tt (product s), within-back tt s.requires.first.worth-in, within-back tt (worth s), within-back tt s.requires.gap-in)
    (within_more (omega arith) (worth s), s.requires.gap-in)

-- what the weight leaves, as the local holds it
left : (c : tie.After-rest) → to_z w64 (of_z w64 c.rest.result) ≡ rest_of (start c).args.u.weight (start c).args.v.weight
left c =
    let s = start c in
    rw (back c.rest.result c.rest.type_inv) (rw (within-back tt s.requires.first.weight-in, within-back tt s.requires.second.weight-in) at c.rest.ensures)

returns : tie.Need-returns
returns c =
    let d = c.before in
    let f = after-floor-div d.before.before in
    let s = f.before.before.before in
    let e = rw (multiple f, within-back tt (product s), within-back tt s.requires.first.worth-in, within-back tt (worth s), within-back tt s.requires.gap-in) at
    c.tame.ensures in
    rw (left d, back c.tame.result c.tame.type_inv, e)

pub reduced_spec : {M : Type 1} → statement M
reduced_spec =
    tie.close (tie.spec floor-div-requires mul-z sub-z rest-requires tame-requires returns)
