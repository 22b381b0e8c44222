use Rattle.std.proofs.Common.{arith, rules, FitsSigned, w64}
use mir.Facts.{to_z-of_z}
use Rattle.greedy.specs.Fill.{at, place}
use Rattle.ceiling.proofs.Lists.{placed-step}
use Rattle.settling.proofs.by_level.Goals as goal

pub loop-d-preserved : goal.loop-d-preserved
loop-d-preserved c =
    let fits : FitsSigned w64 (at c.args.xs (place c.args.level c.loop-d.d)) = search rules in
    placed-step _ c.loop-d.d _ (omega (arith, c.requires.0)) (to_z-of_z fits) c.loop-d.invariant
