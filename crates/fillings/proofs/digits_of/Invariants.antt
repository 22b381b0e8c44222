use Rattle.std.proofs.Common.{◌-◌}
use Rattle.fillings.specs.Keys.{digits}
use Rattle.fillings.specs.Ranges.{num}
use Rattle.fillings.proofs.Lists.{Begun}
use Rattle.fillings.proofs.Groups.{Left, Read}
use Rattle.fillings.proofs.digits_of.Given as goal

abbrev pub invariant-loop-k : goal.invariant-loop-k
invariant-loop-k l =
    Left l.wide l.base l.to l.k l.b × (Read l.wide l.from l.to l.key l.k l.rest × Begun l.k (digits (num l.wide) l.from (l.to - l.from) l.key) l.list)
