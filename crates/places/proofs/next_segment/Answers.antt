use Rattle.std.proofs.Common.{to_z-of_z}
use Rattle.arith.proofs.Words.{on_values, yes_lt, less-fits}
use Rattle.places.specs.Moves.{next_segment, below_start}
use Rattle.places.proofs.next_segment.Goals as goal

pub returns-then-x-s : goal.returns-then-x-s
unfolding next_segment
returns-then-x-s c = simp (on_values c.ranges.x c.ranges.s c.if-x-s.true)

pub returns-then-lo-s : goal.returns-then-lo-s
unfolding next_segment below_start
returns-then-lo-s c =
    let l = on_values c.ranges.lo c.ranges.s c.if-lo-s.true in
    simp (to_z-of_z c.ranges.s, to_z-of_z (less-fits c.ranges.lo c.ranges.s (yes_lt l)), on_values c.ranges.x c.ranges.s c.if-x-s.false, l)

pub returns : goal.returns
unfolding next_segment below_start
returns c = simp (on_values c.ranges.x c.ranges.s c.if-x-s.false, on_values c.ranges.lo c.ranges.s c.if-lo-s.false)
