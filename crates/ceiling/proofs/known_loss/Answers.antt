use Rattle.std.proofs.Common.{◌∙◌, sym}
use mir.Facts.{to_z-of_z}
use Rattle.arith.proofs.Parts.{impossible, within-back}
use Rattle.ceiling.proofs.Limits.{known-none}
use Rattle.ceiling.proofs.known_loss.Goals as goal

pub near_loss-requires : goal.near_loss-requires
near_loss-requires c =
    rw (within-back tt c.requires.0, to_z-of_z c.ranges.w) (
      c.requires.0,
      (c.requires.1.0, (rw (to_z-of_z c.ranges.w) at (c.is_small.ensures c.if-is_small.true), c.requires.1.1 c.if-known.true)),
    )

pub returns-then-is_small : goal.returns-then-is_small
returns-then-is_small c = record { loss = rw (within-back tt c.requires.0, to_z-of_z c.ranges.w) at c.near_loss.ensures; told = λ e. c.if-known.true }

pub returns : goal.returns
returns c = record { loss = known-none c.deepest.ensures; told = λ e. absurd (impossible (sym c.deepest.ensures.0 ∙ e)) }
