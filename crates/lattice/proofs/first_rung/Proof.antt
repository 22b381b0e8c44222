-- `lattice::first_rung` meets its contract.
use mathlib.Core.Path.{◌≡◌}
use native.Mathlib.Omega.{arith}
use lib.Dec.{lit<}
use lib.IntN.{ℤ, ◌-ℤ◌, ◌*ℤ◌}
use mir.Syntax.{w64}
use mir.Val.{to_z, of_z}
use Rattle.arith.specs.Limits.{most_room}
use Rattle.arith.specs.Within.{Within}
use Rattle.arith.specs.Division.{floor_div}
use Rattle.arith.proofs.Parts.{within-mul, within_more, within-sfits, within-back}
use Rattle.arith.proofs.Rounding.{floor-within}
use Rattle.arith.proofs.Words.{back}
use Rattle.lattice.proofs.Ranges.{nonzero, multiple-within, rest-within}
use Rattle.lattice.proofs.first_rung.Statement.{statement}
use Rattle.lattice.proofs.first_rung.Tie as tie

strides : (s : tie.Start) → Within most_room (floor_div s.args.room s.args.l.stride)
strides s = floor-within s.args.room s.args.l.stride s.requires.room_in

floor-div-requires : tie.Need-floor_div-s-requires
floor-div-requires c κs = let s = c.before.before in rw (within-back tt s.requires.room_in, within-back tt s.requires.tame.stride-in)
    (within_more (omega arith) s.requires.room_in, nonzero s.args.l.stride s.requires.stride≥1)

strides-is : (c : tie.After-floor_div-s) → c.floor_div-s.result ≡ floor_div c.args.room c.args.l.stride
strides-is c = let s = c.before.before.before in rw (within-back tt s.requires.room_in, within-back tt s.requires.tame.stride-in) at c.floor_div-s.ensures

held : (c : tie.After-floor_div-s) → to_z w64 (of_z w64 c.floor_div-s.result) ≡ floor_div c.args.room
    c.args.l.stride
held c = rw (back c.floor_div-s.result c.floor_div-s.type_inv) (strides-is c)

floor-div-requires-2 : tie.Need-floor_div-requires
floor-div-requires-2 c κs = let s = c.before.before.before in rw (held c, within-back tt s.requires.tame.gap-in)
    (within_more (omega arith) (strides s), nonzero s.args.l.gap s.requires.tame.gap≥1)

abbrev S : tie.Start → ℤ
S s = floor_div s.args.room s.args.l.stride

-- the moments that are spoken of below
abbrev start-of-floor-div : tie.After-floor_div-s → tie.Start
start-of-floor-div c = c.before.before.before

abbrev start : tie.After-floor_div → tie.Start
start c = start-of-floor-div c.before

-- the gap times the second quotient, as the local holds it
multiple : (c : tie.After-floor_div) →
    let s = start c in
    to_z w64 (of_z w64 s.args.l.gap) *ℤ to_z w64 (of_z w64 c.floor_div.result)
    ≡ s.args.l.gap *ℤ floor_div (S s) s.args.l.gap
multiple c =
    let s = start c in
    let e = rw (held c.before, within-back tt s.requires.tame.gap-in) at c.floor_div.ensures in
    rw (within-back tt s.requires.tame.gap-in, back c.floor_div.result c.floor_div.type_inv, e)

taken : (s : tie.Start) → Within 20000100000000 (s.args.l.gap *ℤ floor_div (S s) s.args.l.gap)
taken s = multiple-within (S s) s.args.l.gap s.requires.tame.gap≥1 (strides s) s.requires.tame.gap-in

left : (s : tie.Start) → Within 100000000 (S s -ℤ s.args.l.gap *ℤ floor_div (S s) s.args.l.gap)
left s = rest-within (S s) s.args.l.gap s.requires.tame.gap≥1 (strides s) s.requires.tame.gap-in

weight : (s : tie.Start) → Within 20000000001000 (s.args.l.stride *ℤ S s)
weight s = multiple-within s.args.room s.args.l.stride s.requires.stride≥1 s.requires.room_in s.requires.tame.stride-in

worth : (s : tie.Start) → Within 10000000000000000 (s.args.l.slant *ℤ (S s -ℤ s.args.l.gap *ℤ floor_div (S s) s.args.l.gap))
worth s = within-mul s.requires.tame.slant-in (left s)

mul-t : tie.Need-overflow_mul-t
mul-t c = rw (multiple c) (within-sfits (lit< tt) (taken (start c)))

sub-t : tie.Need-overflow_sub-t
sub-t c = let s = start c in rw (multiple c, within-back tt (taken s), held c.before) (within-sfits (lit< tt) (left s))

mul-t7 : tie.Need-overflow_mul-result
mul-t7 c = let s = start c in rw (held c.before, within-back tt s.requires.tame.stride-in) (within-sfits (lit< tt) (weight s))

mul-t8 : tie.Need-overflow_mul-result-2
mul-t8 c =
    let d = c.before.before in
    let s = start d in
    rw (multiple d, within-back tt (taken s), held d.before, within-back tt (left s), within-back tt s.requires.tame.slant-in)
    (within-sfits (lit< tt) (worth s))

returns : tie.Need-returns
returns c =
    let d = c.before.before in
    let s = start d in
    rw (
      multiple d,
      within-back tt (taken s),
      held d.before,
      within-back tt (left s),
      within-back tt s.requires.tame.slant-in,
      within-back tt s.requires.tame.stride-in,
      within-back tt (weight s),
      within-back tt (worth s),
    )

pub first_rung_spec : {M : Type 1} → statement M
first_rung_spec =
    tie.close (tie.spec floor-div-requires floor-div-requires-2 mul-t sub-t mul-t7 mul-t8 returns)
