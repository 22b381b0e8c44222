use lib.Dec.{lit<}
use mir.Facts.{to_z-of_z}
use Rattle.arith.proofs.Parts.{within-add, within-sfits, within-back}
use Rattle.arith.proofs.Rounding.{floor-within, ceil-within}
use Rattle.arith.proofs.Words.{back}
use Rattle.greedy.proofs.fitting.Goals as goal

-- a weight below 0: rounded up, from the upper end
pub overflow_add-result : goal.overflow_add-result
overflow_add-result c =
    let up = rw (to_z-of_z c.ranges.a, to_z-of_z c.ranges.room) at c.ceil_div.ensures in
    rw (back c.ceil_div.result c.ceil_div.type_inv, up, to_z-of_z c.ranges.u)
    (within-sfits (lit< tt) (within-add c.requires.high-in (ceil-within c.args.room c.args.a c.requires.room_in)))

pub returns-then-a-lt0 : goal.returns-then-a-lt0
returns-then-a-lt0 c =
    let up = rw (to_z-of_z c.ranges.a, to_z-of_z c.ranges.room) at c.ceil_div.ensures in
    let t = rw (to_z-of_z c.ranges.a) at c.if-a-lt0.true in
    rw (
      back c.ceil_div.result c.ceil_div.type_inv,
      up,
      to_z-of_z c.ranges.u,
      within-back tt (within-add c.requires.high-in (ceil-within c.args.room c.args.a c.requires.room_in)),
      t,
    )

-- a weight above 0: rounded down, from the lower end
pub overflow_add-result-then-a-gt0 : goal.overflow_add-result-then-a-gt0
overflow_add-result-then-a-gt0 c =
    let down = rw (to_z-of_z c.ranges.a, to_z-of_z c.ranges.room) at c.floor_div.ensures in
    rw (back c.floor_div.result c.floor_div.type_inv, down, to_z-of_z c.ranges.l)
    (within-sfits (lit< tt) (within-add c.requires.low-in (floor-within c.args.room c.args.a c.requires.room_in)))

pub returns-then-a-gt0 : goal.returns-then-a-gt0
returns-then-a-gt0 c =
    let down = rw (to_z-of_z c.ranges.a, to_z-of_z c.ranges.room) at c.floor_div.ensures in
    let t = rw (to_z-of_z c.ranges.a) at c.if-a-lt0.false in
    let u = rw (to_z-of_z c.ranges.a) at c.if-a-gt0.true in
    rw (
      back c.floor_div.result c.floor_div.type_inv,
      down,
      to_z-of_z c.ranges.l,
      within-back tt (within-add c.requires.low-in (floor-within c.args.room c.args.a c.requires.room_in)),
      t,
      u,
    )
