use Rattle.std.proofs.Common.{refl, rules}
use Rattle.greedy.specs.Fill.{at}
use Rattle.firsts.specs.Leading.{Tying}
use Rattle.firsts.proofs.Known.{known-best}
use Rattle.firsts.proofs.by_place.Goals as goal

pub filling_at-z-requires : goal.filling_at-z-requires
filling_at-z-requires c =
    let p = c.requires.ready_setting in (
      record { ready = p.0; long = record { lo-long = search rules; hi-long = search rules }; spanned = p.1.0; tied = c.tied-c.ensures },
      p.1.1.inside,
    )

pub returns : goal.returns
returns c =
    let p = c.requires.ready_setting in
    let tying : Tying c.args.s c.tied-c.result =
    record { ready = p.0; long = record { lo-long = search rules; hi-long = search rules }; spanned = p.1.0; tied = c.tied-c.ensures } in
    rw c.lead_of.ensures (
      known-best c.args.s c.tied-c.result tying (at c.args.x) p.1.1 c.requires.still.0 c.requires.still.1
          (record { point = c.filling_at-z.result.point; written = 0 }) c.filling_at-z.ensures.shows,
      refl,
    )
