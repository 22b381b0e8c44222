-- `lattice::highest` meets its contract.
use mathlib.Core.Path.{◌≡◌}
use native.Mathlib.Omega.{arith}
use lib.Dec.{lit<}
use lib.IntN.{◌+ℤ◌, ◌-ℤ◌, ◌*ℤ◌}
use mir.Syntax.{w64}
use mir.Val.{to_z, of_z}
use Rattle.arith.specs.Within.{Within}
use Rattle.arith.specs.Division.{floor_div}
use Rattle.arith.proofs.Parts.{within-add, within-sub, within_more, within-sfits, within-back}
use Rattle.arith.proofs.Words.{back}
use Rattle.lattice.proofs.Ranges.{nonzero, multiple-within}
use Rattle.lattice.proofs.highest.Statement.{statement}
use Rattle.lattice.proofs.highest.Tie as tie

over : (s : tie.Start) → Within 230000000000000000 (s.args.h -ℤ s.args.base)
over s = within-sub s.requires.height-in s.requires.base-in

steps : (s : tie.Start) → Within 230000000100000000 (s.args.l.gap *ℤ floor_div (s.args.h -ℤ s.args.base) s.args.l.gap)
steps s = multiple-within (s.args.h -ℤ s.args.base) s.args.l.gap s.requires.tame.gap≥1 (over s) s.requires.tame.gap-in

sub-floor-div : tie.Need-overflow_sub-h
sub-floor-div c = let s = c.before in rw (within-back tt s.requires.height-in, within-back tt s.requires.base-in) (within-sfits (lit< tt) (over s))

floor-div-requires : tie.Need-floor_div-requires
floor-div-requires c κs =
    let s = c.before in
    rw (within-back tt s.requires.height-in, within-back tt s.requires.base-in, within-back tt (over s), within-back tt s.requires.tame.gap-in)
    (within_more (omega arith) (over s), nonzero s.args.l.gap s.requires.tame.gap≥1)

quotient : (c : tie.After-floor_div) → c.floor_div.result ≡ floor_div (c.args.h -ℤ c.args.base)
    c.args.l.gap
quotient c =
    let s = c.before.before in
    rw (within-back tt s.requires.height-in, within-back tt s.requires.base-in, within-back tt (over s), within-back tt s.requires.tame.gap-in) at
    c.floor_div.ensures

-- the gap times the quotient, as the local holds it
multiple : (c : tie.After-floor_div) → to_z w64 (of_z w64 c.args.l.gap) *ℤ to_z w64 (of_z w64 c.floor_div.result)
    ≡ c.args.l.gap *ℤ floor_div (c.args.h -ℤ c.args.base) c.args.l.gap
multiple c = let s = c.before.before in rw (within-back tt s.requires.tame.gap-in, back c.floor_div.result c.floor_div.type_inv, quotient c)

mul-result : tie.Need-overflow_mul-result
mul-result c = rw (multiple c) (within-sfits (lit< tt) (steps c.before.before))

total : (s : tie.Start) → Within 250000000100000000 (s.args.base +ℤ s.args.l.gap *ℤ floor_div (s.args.h -ℤ s.args.base) s.args.l.gap)
total s = within-add s.requires.base-in (steps s)

add-result : tie.Need-overflow_add-result
add-result c = let s = c.before.before in rw (multiple c, within-back tt (steps s), within-back tt s.requires.base-in) (within-sfits (lit< tt) (total s))

returns : tie.Need-returns
returns c = let s = c.before.before in rw (multiple c, within-back tt (steps s), within-back tt s.requires.base-in) (within-back tt (total s))

pub highest_spec : {M : Type 1} → statement M
highest_spec = tie.close (tie.spec sub-floor-div floor-div-requires mul-result add-result returns)
