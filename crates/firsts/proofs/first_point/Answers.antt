use Rattle.std.proofs.Common.{sym, subst}
use Rattle.greedy.specs.Fill.{at}
use Rattle.firsts.specs.Leading.{PointWrites, known, unknown}
use Rattle.firsts.proofs.first_point.Goals as goal

pub by_place-requires : goal.by_place-requires
by_place-requires c =
    let k = c.is_known.ensures.0 c.if-is_known.true in
    record { ready_setting = c.requires.ready_setting; still = (k.1, c.requires.first_place.0 k.0) }

pub returns-then-is_known : goal.returns-then-is_known
returns-then-is_known c =
    let a = c.args in
    record {
      first_best = c.by_place.ensures.0;
      point_writes = subst (λ n. PointWrites a.s (at a.x) a.first n) (sym c.by_place.ensures.1) (known (c.is_known.ensures.0 c.if-is_known.true));
    }

pub returns : goal.returns
returns c = record {
  first_best = c.by_frames.ensures.first_best;
  point_writes = unknown c.by_frames.result.written (c.is_known.ensures.1 c.if-is_known.false) c.by_frames.ensures.frames_write;
}
