use Rattle.std.proofs.Common.{◌∙◌, w64, arith, to_z-of_z}
use mir.Val.{SFits}
use Rattle.std.proofs.Math.ListN.{length-set}
use Rattle.greedy.specs.Fill.{at, place}
use Rattle.prepare.proofs.Lists.{one_more}
use Rattle.prepare.proofs.narrowing.by_level.Goals as goal

pub loop-d-preserved : goal.loop-d-preserved
loop-d-preserved c =
    let d = c.loop-d.d in
    let f : SFits w64 (at c.args.xs (place c.args.level d)) = record { sfits = omega arith } in
    record {
      long = length-set c.loop-d.to d _ ∙ c.loop-d.invariant.long;
      so_far = one_more c.loop-d.to d _ (λ j. at c.args.xs (place c.args.level j)) (omega arith) (to_z-of_z f) c.loop-d.invariant.so_far;
    }
