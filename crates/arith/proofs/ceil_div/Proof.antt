-- `arith::ceil_div` meets its contract: rounding up is rounding down the negative.
use mathlib.Core.Path.{◌≡◌}
use lib.Dec.{lit<}
use lib.IntN.{ℤ, pos, neg_ℤ, ◌-ℤ◌}
use mir.Syntax.{w64}
use mir.Val.{SFits, to_z, of_z}
use mir.Facts.{to_z-of_z}
use Rattle.arith.specs.Within.{Within}
use Rattle.arith.specs.Division.{floor_div, ceil_div}
use Rattle.arith.proofs.Parts.{zero-less, within-neg, within-sfits}
use Rattle.arith.proofs.Rounding.{floor-within}
use Rattle.arith.proofs.ceil_div.Statement.{statement}
use Rattle.arith.proofs.ceil_div.Tie as tie

fits : {z : ℤ} → Within 1000000000000000000 z → SFits w64 z
fits h = within-sfits (lit< tt) h

-- 0 - n, as the argument holds it
negated : (s : tie.Start) → to_z w64 (of_z w64 (pos 0 -ℤ to_z w64 (of_z w64 s.args.n))) ≡ neg_ℤ s.args.n
negated s = rw (to_z-of_z s.ranges.n, zero-less s.args.n) (to_z-of_z (fits (within-neg s.args.n s.requires.0)))

sub-floor-div : tie.Need-overflow_sub-n
sub-floor-div c = rw (to_z-of_z c.ranges.n, zero-less c.args.n) (fits (within-neg c.args.n c.requires.0))

floor-div-requires : tie.Need-floor_div-requires
floor-div-requires c κs = rw (negated c, to_z-of_z c.ranges.d) (within-neg c.args.n c.requires.0, c.requires.1)

-- the quotient, as the local holds it
quotient : (c : tie.After-floor_div) → to_z w64 (of_z w64 c.floor_div.result) ≡ floor_div (neg_ℤ c.args.n) c.args.d
quotient c =
    let s = c.before in
    let e = rw (negated s, to_z-of_z s.ranges.d) at c.floor_div.ensures in
    rw e (to_z-of_z (fits (floor-within (neg_ℤ s.args.n) s.args.d (within-neg s.args.n s.requires.0))))

within : (c : tie.After-floor_div) → Within 1000000000000000000 (neg_ℤ (floor_div (neg_ℤ c.args.n) c.args.d))
within c = within-neg _ (floor-within (neg_ℤ c.args.n) c.args.d (within-neg c.args.n c.requires.0))

sub-result : tie.Need-overflow_sub-result
sub-result c = rw (quotient c, zero-less (floor_div (neg_ℤ c.args.n) c.args.d)) (fits (within c))

returns : tie.Need-returns
unfolding ceil_div
returns c = rw (quotient c, zero-less (floor_div (neg_ℤ c.args.n) c.args.d)) (to_z-of_z (fits (within c)))

pub ceil_div_spec : {M : Type 1} → statement M
ceil_div_spec = tie.close (tie.spec sub-floor-div floor-div-requires sub-result returns)
