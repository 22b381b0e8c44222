-- `lattice::building::common_gap` meets its contract: a common divisor is no farther from zero.
use mathlib.Core.Path.{◌≡◌, ◌∙◌}
use native.Mathlib.Omega.{arith}
use borrow.Author.Rules.{rules}
use lib.Dec.{lit<}
use lib.IntN.{pos}
use mir.Facts.{to_z_pos}
use mir.Syntax.{w64}
use Rattle.arith.specs.Within.{Within}
use Rattle.arith.proofs.Parts.{within_more, within-sfits, within-back}
use Rattle.lattice.specs.Building.{common_gap}
use Rattle.lattice.proofs.Levels.{common-within}
use Rattle.lattice.proofs.building.common_gap.Statement.{statement}
use Rattle.lattice.proofs.building.common_gap.Tie as tie

magnitude-requires : tie.Need-magnitude-requires
magnitude-requires c κs = rw (within-back tt c.requires.0) (within_more (omega arith) c.requires.0)

magnitude-requires-2 : tie.Need-magnitude-requires-2
magnitude-requires-2 c κs = let s = c.before in rw (within-back tt s.requires.1) (within_more (omega arith) s.requires.1)

gcd-requires : tie.Need-gcd-requires
gcd-requires c κs = search rules

is : (c : tie.After-gcd) → pos c.gcd.result ≡ common_gap c.args.g c.args.h
is c =
    let s = c.before.before.before in
    let e = rw (within-back tt s.requires.0) at c.magnitude.ensures in
    let f = rw (within-back tt s.requires.1) at c.magnitude-2.ensures in
    rw (c.gcd.ensures, e, f)

near : (c : tie.After-gcd) → Within 100000000 (pos c.gcd.result)
near c = let s = c.before.before.before in rw (is c) (common-within s.args.g s.args.h s.requires.0 s.requires.1)

cast-result : tie.Need-overflow_cast-result
cast-result c = within-sfits (lit< tt) (near c)

returns : tie.Need-returns
returns c = to_z_pos w64 (omega (arith, (near c).above)) ∙ is c

pub common_gap_spec : {M : Type 1} → statement M
common_gap_spec =
    tie.close (tie.spec magnitude-requires magnitude-requires-2 gcd-requires cast-result returns)
