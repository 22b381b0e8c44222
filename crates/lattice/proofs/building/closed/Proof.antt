-- `lattice::building::closed` meets its contract.
use Rattle.arith.proofs.Parts.{within-back}
use Rattle.lattice.proofs.building.closed.Statement.{statement}
use Rattle.lattice.proofs.building.closed.Tie as tie

returns : tie.Need-returns-then-l-gt0
returns c =
    let j = c.requires.joined in
    let t = rw (within-back tt j.gap-in) at c.if-l-gt0.true in
    rw t

-- the moments that are spoken of below
abbrev start : tie.Else-l-gt0 → tie.Start
start c = c.before.before.before

returns-2 : tie.Need-returns
returns-2 c =
    let s = start c.before in
    let j = s.requires.joined in
    let t = rw (within-back tt j.gap-in) at c.if-l-gt0.false in
    rw (within-back tt j.stride-in, within-back tt j.slant-in, t)

pub closed_spec : {M : Type 1} → statement M
closed_spec = tie.close (tie.spec returns returns-2)
