-- `lattice::less_stride` meets its contract.
use lib.Dec.{lit<}
use lib.IntN.{◌-ℤ◌}
use Rattle.arith.specs.Within.{Within}
use Rattle.arith.proofs.Parts.{within-sub, within-sfits, within-back}
use Rattle.lattice.proofs.less_stride.Statement.{statement}
use Rattle.lattice.proofs.less_stride.Tie as tie

weight : (s : tie.Start) → Within 22000000001000 (s.args.r.weight -ℤ s.args.l.stride)
weight s = within-sub s.requires.weight-in s.requires.tame.stride-in

worth : (s : tie.Start) → Within 30000000100000000 (s.args.r.worth -ℤ s.args.l.slant)
worth s = within-sub s.requires.worth-in s.requires.tame.slant-in

-- the moments that are spoken of below
abbrev start-of-known2 : tie.After-struct_known-2-1 → tie.Start
start-of-known2 c = c.before.before.before

abbrev start-of-told3 : tie.After-struct_told-3-1 → tie.Start
start-of-told3 c = start-of-known2 c.before.before.before

sub-t3 : tie.Need-overflow_sub-result
sub-t3 c = let s = start-of-known2 c.before in rw (within-back tt s.requires.weight-in, within-back tt s.requires.tame.stride-in)
    (within-sfits (lit< tt) (weight s))

sub-t4 : tie.Need-overflow_sub-result-2
sub-t4 c = let s = start-of-told3 c.before.before in
    rw (within-back tt s.requires.worth-in, within-back tt s.requires.tame.slant-in) (within-sfits (lit< tt) (worth s))

returns : tie.Need-returns
returns c =
    let s = start-of-told3 c.before.before in
    rw (
      within-back tt s.requires.weight-in,
      within-back tt s.requires.tame.stride-in,
      within-back tt s.requires.worth-in,
      within-back tt s.requires.tame.slant-in,
      within-back tt (weight s),
      within-back tt (worth s),
    )

pub less_stride_spec : {M : Type 1} → statement M
less_stride_spec = tie.close (tie.spec sub-t3 sub-t4 returns)
