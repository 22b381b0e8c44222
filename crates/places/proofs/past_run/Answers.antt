use Rattle.std.proofs.Common.{w64, arith, to_z-of_z}
use Rattle.std.proofs.lemmas.Grind.{common_steps}
use mir.Val.{SFits}
use Rattle.places.specs.Moves.{carry_segment}
use Rattle.places.proofs.past_run.Goals as goal

pub returns-in-Some : goal.returns-in-Some
unfolding carry_segment
returns-in-Some c =
    let f : SFits w64 c.in-Some.v = record { sfits = omega arith } in
    rw (to_z-of_z f) (grind (arith, common_steps, to_z-of_z))

pub returns-in-None : goal.returns-in-None
unfolding carry_segment
returns-in-None c = grind (arith, common_steps, to_z-of_z)
