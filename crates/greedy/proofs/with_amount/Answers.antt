use mir.Facts.{to_z-of_z}
use Rattle.arith.proofs.Parts.{within-mul, within-add, within-sub, within-back}
use Rattle.greedy.proofs.with_amount.Goals as goal

pub returns : goal.returns
returns c =
    let weighs = within-mul c.requires.0 c.requires.1.1.0 in
    let brings = within-mul c.requires.1.0 c.requires.1.1.0 in
    rw (
      within-back tt c.requires.1.1.1.0,
      to_z-of_z c.ranges.a,
      to_z-of_z c.ranges.x,
      within-back tt weighs,
      within-back tt (within-sub c.requires.1.1.1.0 weighs),
      within-back tt c.requires.1.1.1.1,
      to_z-of_z c.ranges.c,
      within-back tt brings,
      within-back tt (within-add c.requires.1.1.1.1 brings),
    )
