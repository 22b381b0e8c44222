use Rattle.std.proofs.Common.{◌∙◌, w64, arith, to_z-of_z}
use mir.Val.{SFits}
use Rattle.std.proofs.Math.ListN.{length-set}
use Rattle.arith.proofs.Parts.{within-back}
use Rattle.arith.proofs.Words.{back}
use Rattle.greedy.specs.Fill.{at}
use Rattle.prepare.specs.Narrowing.{span_by, clamp_to}
use Rattle.prepare.proofs.Lists.{one_more}
use Rattle.prepare.proofs.narrowing.clamped.Goals as goal

pub end_within-requires : goal.end_within-requires
end_within-requires c = let w = c.requires.1 c.loop-k.k in (c.requires.0, rw (within-back tt w) w)

pub loop-k-preserved : goal.loop-k-preserved
loop-k-preserved c =
    let k = c.loop-k.k in
    let f : SFits w64 (at c.args.xs k) = record { sfits = omega arith } in
    let e = rw (to_z-of_z f, within-back tt (c.requires.1 k)) at c.end_within.ensures in
    record {
      long = length-set c.loop-k.to k _ ∙ c.loop-k.invariant.long;
      so_far = one_more c.loop-k.to k _ (λ j. clamp_to (span_by c.args.r (at c.args.weight j)) (at c.args.xs j)) (omega arith)
          (back c.end_within.result c.end_within.type_inv ∙ e) c.loop-k.invariant.so_far;
    }
