-- `lattice::building::widen` meets its contract.
use mathlib.Core.Path.{◌≡◌}
use native.Mathlib.Omega.{arith}
use borrow.Author.Rules.{rules}
use Rattle.arith.proofs.Parts.{within_more, within-back}
use Rattle.arith.proofs.Words.{back}
use Rattle.lattice.specs.Building.{upright_by, joined_by, common_gap, widened_by}
use Rattle.lattice.proofs.Levels.{upright-is, joining, gap_within}
use Rattle.lattice.proofs.building.widen.Statement.{statement}
use Rattle.lattice.proofs.building.widen.Tie as tie

upright-requires : tie.Need-upright-v-requires
upright-requires c κs = search rules

-- the change as it is joined
turned : (c : tie.After-upright-v) → c.upright-v.result ≡ upright_by c.args.a c.args.c
turned c = let s = c.before in rw (within-back tt s.requires.1.0, within-back tt s.requires.1.1) at c.upright-v.ensures

joined-requires : tie.Need-joined-j-requires
joined-requires c κs =
    let s = c.before in
    rw (turned c) (s.requires.0, upright-is s.args.a s.args.c s.requires.1.0 s.requires.1.1)

-- what it is joined to
met : (c : tie.After-joined-j) → c.joined-j.result ≡ joined_by c.args.l (upright_by c.args.a c.args.c)
met c = rw (turned c.before) at c.joined-j.ensures

common-gap-requires : tie.Need-common_gap-g-requires
common-gap-requires c κs =
    let j = c.before.before in
    let s = j.before.before in
    let h = joining s.args.l s.args.a s.args.c s.requires.0 s.requires.1.0 s.requires.1.1 in
    rw (met j, within-back tt s.requires.0.joined.gap-in, within-back tt h.gap-in) (s.requires.0.joined.gap-in, h.gap-in)

-- the gap of both
wide : (c : tie.After-common_gap-g) →
    let at_joined = c.before.before.before in
    let s = at_joined.before.before in
    c.common_gap-g.result ≡ common_gap s.args.l.gap
    (joined_by s.args.l (upright_by s.args.a
    s.args.c)).gap
wide c =
    let j = c.before.before.before in
    let s = j.before.before in
    let h = joining s.args.l s.args.a s.args.c s.requires.0 s.requires.1.0 s.requires.1.1 in
    rw (met j, within-back tt s.requires.0.joined.gap-in, within-back tt h.gap-in) at c.common_gap-g.ensures

tame-requires : tie.Need-tame-requires
tame-requires c κs =
    let g = c.before in
    let j = g.before.before.before in
    let s = j.before.before in
    let h = joining s.args.l s.args.a s.args.c s.requires.0 s.requires.1.0 s.requires.1.1 in
    let w = gap_within s.args.l s.args.a s.args.c s.requires.0 s.requires.1.0 s.requires.1.1 in
    rw (wide g, met j, within-back tt h.slant-in, within-back tt w) (within_more (omega arith) h.slant-in, w)

returns : tie.Need-returns
unfolding widened_by
returns c =
    let t = c.before in
    let g = t.before.before in
    let j = g.before.before.before in
    let s = j.before.before in
    let h = joining s.args.l s.args.a s.args.c s.requires.0 s.requires.1.0 s.requires.1.1 in
    let w = gap_within s.args.l s.args.a s.args.c s.requires.0 s.requires.1.0 s.requires.1.1 in
    let e = rw (wide g, met j, within-back tt h.slant-in, within-back tt w) at t.tame.ensures in
    rw (back t.tame.result t.tame.type_inv, e, wide g, met j, within-back tt h.stride-in, within-back tt w)

pub widen_spec : {M : Type 1} → statement M
widen_spec =
    tie.close (tie.spec upright-requires joined-requires common-gap-requires tame-requires returns)
