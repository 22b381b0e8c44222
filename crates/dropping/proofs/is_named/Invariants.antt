use Rattle.std.proofs.Common.{◌≡◌}
use mathlib.Core.Bool.{false}
use Rattle.model.specs.Records.{need_at}
use Rattle.dropping.specs.Dropping.{named_in}
use Rattle.dropping.proofs.is_named.Given as goal

abbrev pub invariant-loop-j : goal.invariant-loop-j
invariant-loop-j l = named_in l.j (need_at l.ns) l.k ≡ false
