use Rattle.std.proofs.Common.{◌≡◌, w64, sym, ◌∙◌, arith, to_z-of_z}
use Rattle.std.proofs.lemmas.Grind.{common_steps}
use mir.Val.{SFits}
use Rattle.places.specs.Moves.{at}
use Rattle.places.proofs.Steps.{carry-here, carry-on, carry-end}
use Rattle.places.proofs.past_prefix.Goals as goal

pub returns-in-Some : goal.returns-in-Some
returns-in-Some c =
    let a = c.args in
    let f : SFits w64 c.in-Some.v = record { sfits = omega arith } in
    rw (to_z-of_z f, c.loop-j.invariant, carry-here (at a.lo) (at a.hi) (at a.s) (at a.x) c.loop-j.j c.in-Some.v (omega arith) (grind (arith, common_steps, to_z-of_z)))

pub loop-j-preserved : goal.loop-j-preserved
loop-j-preserved c = grind (arith, common_steps, to_z-of_z, carry-on)

pub returns : goal.returns
returns c =
    let z : c.loop-j.j ≡ 0 = omega arith in
    sym (rw z at c.loop-j.invariant ∙ carry-end _ _ _ _)
