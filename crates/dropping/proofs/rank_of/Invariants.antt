use Rattle.std.proofs.Common.{◌≡◌}
use Rattle.dropping.specs.Dropping.{kept}
use Rattle.dropping.specs.Kept.{rank}
use Rattle.dropping.proofs.rank_of.Given as goal

abbrev pub invariant-loop-i : goal.invariant-loop-i
invariant-loop-i l = l.n ≡ rank (kept l.m) l.i
