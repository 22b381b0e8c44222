-- `lattice::height` meets its contract.
use mathlib.Core.Path.{◌∙◌}
use native.Mathlib.Omega.{arith}
use lib.Dec.{lit<}
use lib.IntN.{◌*ℤ◌}
use Rattle.arith.specs.Within.{Within}
use Rattle.arith.proofs.Parts.{within-mul, within_more, within-sfits, within-back}
use Rattle.arith.proofs.Words.{back}
use Rattle.lattice.proofs.Ranges.{nonzero}
use Rattle.lattice.proofs.height.Statement.{statement}
use Rattle.lattice.proofs.height.Tie as tie

product : (s : tie.Start) → Within 210000000000000000 (s.args.f.rate *ℤ s.args.w)
product s = within-mul s.requires.steep.rate-in s.requires.weight-in

mul-floor-div : tie.Need-overflow_mul-f
mul-floor-div c = let s =
    c.before.before.before in rw (within-back tt s.requires.steep.rate-in, within-back tt s.requires.weight-in) (within-sfits (lit< tt) (product s))

floor-div-requires : tie.Need-floor_div-requires
floor-div-requires c κs =
    let s = c.before.before.before in
    rw (within-back tt s.requires.steep.rate-in, within-back tt s.requires.weight-in, within-back tt (product s), within-back tt s.requires.steep.size_in)
    (within_more (omega arith) (product s), nonzero s.args.f.size s.requires.steep.size≥1)

-- the moments that are spoken of below
abbrev start : tie.After-struct_told-2-1 → tie.Start
start c = c.before.before.before

returns : tie.Need-returns
returns c =
    let s = start c.before in
    let e = rw (
      within-back tt s.requires.steep.rate-in,
      within-back tt s.requires.weight-in,
      within-back tt (product s),
      within-back tt s.requires.steep.size_in,
    ) at c.floor_div.ensures in
    back c.floor_div.result c.floor_div.type_inv ∙ e

pub height_spec : {M : Type 1} → statement M
height_spec = tie.close (tie.spec mul-floor-div floor-div-requires returns)
