use Rattle.std.proofs.Common.{◌≡◌, ◌-◌}
use Rattle.dropping.specs.Dropping.{hinders, first_hindered}
use Rattle.dropping.specs.Kept.{first_from}
use Rattle.dropping.proofs.first_hindered.Given as goal

abbrev pub invariant-loop-k : goal.invariant-loop-k
invariant-loop-k l = first_hindered l.m ≡ first_from (l.m.count - l.k) (hinders l.m) l.k
