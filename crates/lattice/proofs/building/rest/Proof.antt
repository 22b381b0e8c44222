-- `lattice::building::rest` meets its contract.
use mathlib.Core.Path.{◌≡◌}
use native.Mathlib.Omega.{arith}
use lib.Dec.{lit<}
use lib.IntN.{◌*ℤ◌}
use mir.Syntax.{w64}
use mir.Val.{to_z, of_z}
use Rattle.arith.specs.Within.{Within}
use Rattle.arith.specs.Division.{floor_div}
use Rattle.arith.proofs.Parts.{within_more, within-sfits, within-back}
use Rattle.arith.proofs.Words.{back}
use Rattle.lattice.specs.Building.{rest_of}
use Rattle.lattice.proofs.Ranges.{nonzero, multiple-within, rest-within}
use Rattle.lattice.proofs.building.rest.Statement.{statement}
use Rattle.lattice.proofs.building.rest.Tie as tie

taken : (s : tie.Start) → Within 200100000000 (s.args.m *ℤ floor_div s.args.n s.args.m)
taken s = multiple-within s.args.n s.args.m s.requires.divisor≥1 s.requires.dividend-in s.requires.divisor-in

left : (s : tie.Start) → Within 100000000 (rest_of s.args.n s.args.m)
left s = rest-within s.args.n s.args.m s.requires.divisor≥1 s.requires.dividend-in s.requires.divisor-in

floor-div-requires : tie.Need-floor_div-requires
floor-div-requires c κs = let s = c in rw (within-back tt s.requires.dividend-in, within-back tt s.requires.divisor-in)
    (within_more (omega arith) s.requires.dividend-in, nonzero s.args.m s.requires.divisor≥1)

-- the divisor times the quotient, as the local holds it
multiple : (c : tie.After-floor_div) → to_z w64 (of_z w64 c.args.m) *ℤ to_z w64 (of_z w64 c.floor_div.result) ≡ c.args.m *ℤ floor_div
    c.args.n c.args.m
multiple c =
    let s = c.before in
    let e = rw (within-back tt s.requires.dividend-in, within-back tt s.requires.divisor-in) at c.floor_div.ensures in
    rw (within-back tt s.requires.divisor-in, back c.floor_div.result c.floor_div.type_inv, e)

mul-result : tie.Need-overflow_mul-result
mul-result c = rw (multiple c) (within-sfits (lit< tt) (taken c.before))

sub-result : tie.Need-overflow_sub-result
sub-result c = let s = c.before in rw (multiple c, within-back tt (taken s), within-back tt s.requires.dividend-in) (within-sfits (lit< tt) (left s))

returns : tie.Need-returns
returns c = let s = c.before in rw (multiple c, within-back tt (taken s), within-back tt s.requires.dividend-in) (within-back tt (left s))

pub rest_spec : {M : Type 1} → statement M
rest_spec = tie.close (tie.spec floor-div-requires mul-result sub-result returns)
