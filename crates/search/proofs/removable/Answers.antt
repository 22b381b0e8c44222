use Rattle.std.proofs.Common.{ap, of_z, w64}
use mir.Facts.{to_z-of_z}
use Rattle.arith.proofs.Parts.{impossible}
use Rattle.arith.proofs.Quotients.{bits-zero}
use Rattle.search.proofs.removable.Goals as goal

pub returns-then-r-eq0 : goal.returns-then-r-eq0
returns-then-r-eq0 c = record { holds = λ e. absurd (impossible e); fails = λ e q. q.moves (bits-zero c.args.r c.ranges.r c.if-r-eq0.true) }

pub within-requires : goal.within-requires
within-requires c = rw (to_z-of_z c.ranges.x, to_z-of_z c.ranges.r) (c.requires.1.1.0, c.requires.0)

pub within-requires-then-within : goal.within-requires-then-within
within-requires-then-within c = rw (to_z-of_z c.ranges.y, to_z-of_z c.ranges.t) (c.requires.1.1.1, c.requires.1.0)

pub returns-then-within : goal.returns-then-within
returns-then-within c =
    let own = rw (to_z-of_z c.ranges.x, to_z-of_z c.ranges.r, to_z-of_z c.ranges.l, to_z-of_z c.ranges.u) at c.within.ensures in
    let other = rw (to_z-of_z c.ranges.y, to_z-of_z c.ranges.t, to_z-of_z c.ranges.m, to_z-of_z c.ranges.w) at c.within-then-within.ensures in
    record {
      holds = λ e. record { moves = λ z. c.if-r-eq0.false (ap (of_z w64) z); own = own.holds c.if-within.true; other = other.holds e };
      fails = λ e q. other.fails e q.other;
    }

pub returns : goal.returns
returns c =
    let own = rw (to_z-of_z c.ranges.x, to_z-of_z c.ranges.r, to_z-of_z c.ranges.l, to_z-of_z c.ranges.u) at c.within.ensures in
    record { holds = λ e. absurd (impossible e); fails = λ e q. own.fails c.if-within.false q.own }
