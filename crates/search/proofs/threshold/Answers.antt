use Rattle.std.proofs.Common.{◌∙◌, sym, arith, pos, ◌-ℤ◌, ℤ}
use lib.Dec.{lit<}
use mir.Facts.{to_z-of_z}
use Rattle.arith.specs.Within.{Within}
use Rattle.arith.proofs.Parts.{within-sfits, within-back, within-sub}
use Rattle.search.specs.Search.{threshold_at}
use Rattle.search.proofs.threshold.Goals as goal

one_less : {w : ℤ} → Within 201000000000000000 w → Within 201000000000000001 (w -ℤ pos 1)
one_less h = within-sub h one
  where
    one : Within 1 (pos 1)
    one = record { above = omega arith; below = omega arith }

pub overflow_sub-result : goal.overflow_sub-result
overflow_sub-result c = rw (to_z-of_z c.ranges.w) (within-sfits (lit< tt) (one_less c.requires.1.1.1))

pub returns-then-is_corner_sooner : goal.returns-then-is_corner_sooner
unfolding threshold_at
returns-then-is_corner_sooner c =
    let t = sym c.is_corner_sooner.ensures ∙ c.if-is_corner_sooner.true in
    rw (t, to_z-of_z c.ranges.w) (within-back tt (one_less c.requires.1.1.1))

pub returns-else-is_corner_sooner : goal.returns-else-is_corner_sooner
unfolding threshold_at
returns-else-is_corner_sooner c =
    let t = sym c.is_corner_sooner.ensures ∙ c.if-is_corner_sooner.false in
    rw t (to_z-of_z c.ranges.w)
