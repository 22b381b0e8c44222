-- `lattice::building::upright` meets its contract.
use lib.Dec.{lit<}
use lib.IntN.{neg_ℤ}
use Rattle.arith.specs.Within.{Within}
use Rattle.arith.proofs.Parts.{zero-less, within-neg, within-sfits, within-back}
use Rattle.lattice.proofs.building.upright.Statement.{statement}
use Rattle.lattice.proofs.building.upright.Tie as tie

weight : (s : tie.Start) → Within 1000 (neg_ℤ s.args.a)
weight s = within-neg s.args.a s.requires.0

worth : (s : tie.Start) → Within 10000 (neg_ℤ s.args.c)
worth s = within-neg s.args.c s.requires.1

sub-t4 : tie.Need-overflow_sub-result
sub-t4 c = let s = c.before in rw (within-back tt s.requires.0, zero-less s.args.a) (within-sfits (lit< tt) (weight s))

sub-t5 : tie.Need-overflow_sub-result-then-a-lt0
sub-t5 c = let s = c.before in rw (within-back tt s.requires.1, zero-less s.args.c) (within-sfits (lit< tt) (worth s))

returns : tie.Need-returns-then-a-lt0
returns c =
    let s = c.before in
    let a = s.args.a in
    let k = rw (within-back tt s.requires.0) at c.if-a-lt0.true in
    rw (within-back tt s.requires.0, within-back tt s.requires.1, zero-less a, zero-less s.args.c, within-back tt (weight s), within-back tt (worth s), k)

returns-2 : tie.Need-returns
returns-2 c =
    let s = c.before in
    let k = rw (within-back tt s.requires.0) at c.if-a-lt0.false in
    rw (within-back tt s.requires.0, within-back tt s.requires.1, k)

pub upright_spec : {M : Type 1} → statement M
upright_spec = tie.close (tie.spec sub-t4 sub-t5 returns returns-2)
