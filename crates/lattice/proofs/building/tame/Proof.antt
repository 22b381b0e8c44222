-- `lattice::building::tame` meets its contract.
use mathlib.Core.Path.{◌≡◌}
use mathlib.Core.Bool.{false}
use borrow.Author.Rules.{rules}
use lib.IntN.{pos}
use lib.Signed.{lt_z, ◌<ℤ◌}
use Rattle.arith.proofs.Parts.{within-back}
use Rattle.arith.proofs.Words.{back, yes_lt}
use Rattle.lattice.proofs.building.tame.Statement.{statement}
use Rattle.lattice.proofs.building.tame.Tie as tie

positive : (c : tie.Then-g-gt0) → pos 0 <ℤ c.args.g
positive c = yes_lt (rw (within-back tt c.requires.1) at c.if-g-gt0.true)

rest-requires : tie.Need-rest-requires
rest-requires c κs =
    let s = c.before in
    rw (within-back tt s.requires.0, within-back tt s.requires.1) (record { dividend-in = s.requires.0; divisor-in = s.requires.1; divisor≥1 = positive c })

-- the tests, of the numbers themselves
no_gap : (c : tie.Else-g-gt0) → lt_z (pos 0) c.args.g ≡ false
no_gap c = rw (within-back tt c.requires.1) at c.if-g-gt0.false

returns : tie.Need-returns-then-g-gt0
returns c =
    let s = c.before.before in
    let e = rw (within-back tt s.requires.0, within-back tt s.requires.1) at c.rest.ensures in
    let t = rw (within-back tt s.requires.1) at c.if-g-gt0.true in
    rw (back c.rest.result c.rest.type_inv, e, t)

returns-2 : tie.Need-returns-then-z-gt-FAR
returns-2 c =
    let s = c.before.before in
    let h = rw (within-back tt s.requires.0) at c.if-z-gt-FAR.true in
    rw (no_gap c.before, h)

sub-if3 : tie.Need-overflow_sub-t-4
sub-if3 c = search rules

returns-3 : tie.Need-returns-then-z
returns-3 c =
    let s = c.before.before.before in
    let h = rw (within-back tt s.requires.0) at c.if-z-gt-FAR.false in
    let k = rw (within-back tt s.requires.0) at c.if-z.true in
    rw (no_gap c.before.before, h, k)

returns-4 : tie.Need-returns
returns-4 c =
    let s = c.before.before.before in
    let h = rw (within-back tt s.requires.0) at c.if-z-gt-FAR.false in
    let k = rw (within-back tt s.requires.0) at c.if-z.false in
    rw (no_gap c.before.before, h, k) (within-back tt s.requires.0)

pub tame_spec : {M : Type 1} → statement M
tame_spec = tie.close (tie.spec rest-requires returns returns-2 sub-if3 returns-3 returns-4)
