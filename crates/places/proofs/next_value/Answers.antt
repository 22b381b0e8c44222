use Rattle.std.proofs.Common.{to_z-of_z}
use Rattle.arith.proofs.Words.{on_values, yes_lt, less-fits, more-fits}
use Rattle.places.specs.Moves.{next_value, below_start}
use Rattle.places.proofs.next_value.Goals as goal

pub returns-then-lo-x : goal.returns-then-lo-x
unfolding next_value
returns-then-lo-x c =
    let k = on_values c.ranges.lo c.ranges.x c.if-lo-x.true in
    simp (to_z-of_z c.ranges.x, to_z-of_z (less-fits c.ranges.lo c.ranges.x (yes_lt k)), on_values c.ranges.x c.ranges.s c.if-x-s.true, k)

pub returns-then-x-s : goal.returns-then-x-s
unfolding next_value
returns-then-x-s c = simp (on_values c.ranges.x c.ranges.s c.if-x-s.true, on_values c.ranges.lo c.ranges.x c.if-lo-x.false)

pub returns-then-x-hi : goal.returns-then-x-hi
unfolding next_value
returns-then-x-hi c =
    let k = on_values c.ranges.x c.ranges.hi c.if-x-hi.true in
    simp (to_z-of_z c.ranges.x, to_z-of_z (more-fits c.ranges.hi c.ranges.x (yes_lt k)), on_values c.ranges.x c.ranges.s c.if-x-s.false, k)

pub returns-then-lo-s : goal.returns-then-lo-s
unfolding next_value below_start
returns-then-lo-s c =
    let l = on_values c.ranges.lo c.ranges.s c.if-lo-s.true in
    simp (
      to_z-of_z c.ranges.s,
      to_z-of_z (less-fits c.ranges.lo c.ranges.s (yes_lt l)),
      on_values c.ranges.x c.ranges.s c.if-x-s.false,
      on_values c.ranges.x c.ranges.hi c.if-x-hi.false,
      l,
    )

pub returns : goal.returns
unfolding next_value below_start
returns c =
    simp (
      on_values c.ranges.x c.ranges.s c.if-x-s.false,
      on_values c.ranges.x c.ranges.hi c.if-x-hi.false,
      on_values c.ranges.lo c.ranges.s c.if-lo-s.false,
    )
