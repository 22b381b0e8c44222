-- `rays::pair_steps` meets its contract.
use native.Mathlib.Omega.{arith}
use lib.Dec.{lit<}
use lib.IntN.{neg_ℤ}
use Rattle.arith.specs.Within.{Within}
use Rattle.arith.proofs.Parts.{abs-within, within-neg, within-sfits}
use Rattle.rays.specs.Directions.{steps_by}
use Rattle.rays.proofs.Bits.{read_back, negated}
use Rattle.rays.proofs.Scan.{direction-in}
use borrow.Author.Rules.{rules}
use Rattle.rays.proofs.pair_steps.Statement.{statement}
use Rattle.rays.proofs.pair_steps.Tie as tie

module _ (c : tie.After-direction_at-e) where
  d-weight : Within 10000 c.direction_at-d.result.weight
  d-weight =
      let s = c.before.before in
      rw c.direction_at-d.ensures (abs-within _ (omega (arith, (direction-in s.args.p s.args.u s.requires.0 s.requires.1.0).weight-in)))

  e-weight : Within 10000 c.direction_at-e.result.weight
  e-weight =
      let s = c.before.before in
      rw c.direction_at-e.ensures (abs-within _ (omega (arith, (direction-in s.args.p s.args.w s.requires.0 s.requires.1.1).weight-in)))

  e-negated : Within 10000 (neg_ℤ c.direction_at-e.result.weight)
  e-negated = within-neg c.direction_at-e.result.weight e-weight

direction-at-requires : tie.Need-direction_at-d-requires
direction-at-requires c κs = search rules

direction-at-requires-2 : tie.Need-direction_at-e-requires
direction-at-requires-2 c κs = search rules

no-steps-requires : tie.Need-no_steps-still-requires
no-steps-requires c κs = search rules

sub-moved : tie.Need-overflow_sub-e
sub-moved c = let e = c.before.before.before in rw (negated (lit< tt) (e-weight e)) (within-sfits (lit< tt) (e-negated e))

moved-requires : tie.Need-moved-l-requires
moved-requires c κs =
    let e = c.before.before.before in
    (omega arith, rw (negated (lit< tt) (e-weight e), read_back (lit< tt) (e-negated e)) (e-negated e))

-- the moments that are spoken of below
abbrev after-direction-at2 : tie.After-struct_told-1 → tie.After-direction_at-e
after-direction-at2 c = c.before.before.before

moved-requires-2 : tie.Need-moved-requires
moved-requires-2 c κs =
    let e = after-direction-at2 c.before.before in
    (omega arith, rw (read_back (lit< tt) (d-weight e)) (d-weight e))

returns : tie.Need-returns
unfolding steps_by
returns c =
    let at_moved = c.before.before in
    let at-no-steps = at_moved.before.before.before in
    let e = at-no-steps.before in
    rw (
      c.moved.ensures,
      c.moved-l.ensures,
      at-no-steps.no_steps-still.ensures,
      negated (lit< tt) (e-weight e),
      read_back (lit< tt) (e-negated e),
      read_back (lit< tt) (d-weight e),
      e.direction_at-e.ensures,
      e.direction_at-d.ensures,
    )

pub pair_steps_spec : {M : Type 1} → statement M
pair_steps_spec =
    tie.close
    (tie.spec
    direction-at-requires
    direction-at-requires-2
    no-steps-requires
    sub-moved
    moved-requires
    moved-requires-2
    returns)
