-- `lattice::judge` meets its contract: its tests are those of the definition.
use mathlib.Core.Path.{◌≡◌}
use mathlib.Core.Bool.{true}
use lib.Dec.{lit<}
use lib.IntN.{ℤ, ◌+ℤ◌, ◌-ℤ◌, ◌*ℤ◌}
use lib.Signed.{lt_z}
use mir.Syntax.{w64}
use mir.Val.{to_z, of_z}
use mir.Facts.{to_z-of_z}
use Rattle.arith.specs.Within.{Within}
use Rattle.arith.proofs.Parts.{within-mul, within-add, within-sub, within-sfits, within-back}
use Rattle.arith.proofs.Rounding.{floor-within}
use Rattle.arith.proofs.Words.{back}
use Rattle.lattice.specs.Lattice.{height_of, highest_of, judged}
use Rattle.lattice.proofs.Ranges.{multiple-within}
use Rattle.lattice.proofs.judge.Statement.{statement}
use Rattle.lattice.proofs.judge.Tie as tie

abbrev H : tie.Start → ℤ
H s = height_of s.args.f s.args.r.weight

abbrev T : tie.Start → ℤ
T s = highest_of s.args.l s.args.r.worth (H s)

height-in : (s : tie.Start) → Within 210000000000000000 (H s)
height-in s = floor-within (s.args.f.rate *ℤ s.args.r.weight) s.args.f.size (within-mul s.requires.steep.rate-in s.requires.weight-in)

highest-in : (s : tie.Start) → Within 250000000100000000 (T s)
highest-in s = within-add s.requires.worth-in (multiple-within (H s -ℤ s.args.r.worth) s.args.l.gap s.requires.tame.gap≥1
    (within-sub (height-in s) s.requires.worth-in) s.requires.tame.gap-in)

height-requires : tie.Need-height-h-requires
height-requires c κs = let s = c.before.before in rw (within-back tt s.requires.weight-in) (record { steep = s.requires.steep; weight-in = s.requires.weight-in })

-- the height, as the local holds it
held : (c : tie.After-height-h) → to_z w64 (of_z w64 c.height-h.result) ≡ H c.before.before.before
held c = let s = c.before.before.before in rw (back c.height-h.result c.height-h.type_inv) (rw (within-back tt s.requires.weight-in) at c.height-h.ensures)

up_to : (s : tie.Start) → Within 210200000000000000 (s.args.f.worth +ℤ H s)
up_to s = within-add s.requires.steep.worth-in (height-in s)

add-if1 : tie.Need-overflow_add-w
add-if1 c = let s = c.before.before.before in rw (held c, within-back tt s.requires.steep.worth-in) (within-sfits (lit< tt) (up_to s))

highest-requires : tie.Need-highest-v-requires
highest-requires c κs =
    let h = c.before.before in
    let s = h.before.before.before in
    rw (held h, within-back tt s.requires.worth-in) (record { tame = s.requires.tame; base-in = s.requires.worth-in; height-in = height-in s })

-- the moments that are spoken of below
abbrev start-of-height : tie.After-height-h → tie.Start
start-of-height c = c.before.before.before

abbrev start : tie.Then-b-w → tie.Start
start c = start-of-height c.before

held-highest : (c : tie.After-highest-v) → to_z w64 (of_z w64 c.highest-v.result) ≡ T (start c.before.before)
held-highest c =
    let h = c.before.before.before in
    let s = h.before.before.before in
    rw (back c.highest-v.result c.highest-v.type_inv) (rw (held h, within-back tt s.requires.worth-in) at c.highest-v.ensures)

snapped : (s : tie.Start) → Within 250200000100000000 (s.args.f.worth +ℤ T s)
snapped s = within-add s.requires.steep.worth-in (highest-in s)

add-if2 : tie.Need-overflow_add-w-then-b-w
add-if2 c = let s = start c.before.before in rw (held-highest c, within-back tt s.requires.steep.worth-in)
    (within-sfits (lit< tt) (snapped s))

-- the first test, and the second
above : (c : tie.Then-b-w) → lt_z (start c).args.b ((start c).args.f.worth +ℤ H (start c)) ≡ true
above c = let s = start c in rw (
  to_z-of_z s.ranges.b,
  held c.before,
  within-back tt s.requires.steep.worth-in,
  within-back tt (up_to s),
) at c.if-b-w.true

returns : tie.Need-returns-then-b-w-2
unfolding judged
returns c =
    let d = c.before in
    let o = d.before.before in
    let s = start o in
    let k = rw (to_z-of_z s.ranges.b, held-highest d, within-back tt s.requires.steep.worth-in, within-back tt (snapped s)) at c.if-b-w-2.true in
    rw (above o, k)

returns-2 : tie.Need-returns-then-b-w
unfolding judged
returns-2 c =
    let d = c.before in
    let o = d.before.before in
    let s = start o in
    let k = rw (to_z-of_z s.ranges.b, held-highest d, within-back tt s.requires.steep.worth-in, within-back tt (snapped s)) at c.if-b-w-2.false in
    rw (above o, k)

returns-3 : tie.Need-returns
unfolding judged
returns-3 c =
    let d = c.before in
    let s = d.before.before.before in
    let k = rw (to_z-of_z s.ranges.b, held d, within-back tt s.requires.steep.worth-in, within-back tt (up_to s)) at c.if-b-w.false in
    rw k

pub judge_spec : {M : Type 1} → statement M
judge_spec =
    tie.close
    (tie.spec height-requires add-if1 highest-requires add-if2 returns returns-2 returns-3)
