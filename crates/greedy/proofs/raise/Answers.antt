use lib.Dec.{lit<}
use mir.Facts.{to_z-of_z}
use Rattle.arith.proofs.Parts.{within-mul, within-add, within-sub, within-sfits, within-back}
use Rattle.greedy.proofs.raise.Goals as goal

pub overflow_add-result-2 : goal.overflow_add-result-2
overflow_add-result-2 c =
    let gain = within-mul c.requires.rate-in c.requires.wide-in in
    rw (within-back tt c.requires.worth-in, to_z-of_z c.ranges.rate, to_z-of_z c.ranges.width, within-back tt gain)
    (within-sfits (lit< tt) (within-add c.requires.worth-in gain))

pub returns : goal.returns
returns c =
    let need = within-mul c.requires.size_in c.requires.wide-in in
    let gain = within-mul c.requires.rate-in c.requires.wide-in in
    let t = rw (within-back tt c.requires.room_in, to_z-of_z c.ranges.size, to_z-of_z c.ranges.width, within-back tt need) at c.if-f-need.false in
    rw (
      within-back tt c.requires.room_in,
      to_z-of_z c.ranges.size,
      to_z-of_z c.ranges.width,
      within-back tt need,
      within-back tt (within-sub c.requires.room_in need),
      within-back tt c.requires.worth-in,
      to_z-of_z c.ranges.rate,
      within-back tt gain,
      within-back tt (within-add c.requires.worth-in gain),
      t,
    )
