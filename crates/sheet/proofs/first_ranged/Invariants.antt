use Rattle.std.proofs.Common.{◌≡◌}
use Rattle.model.specs.Records.{item_at}
use Rattle.sheet.specs.Reading.{first_ranged}
use Rattle.sheet.proofs.first_ranged.Given as goal

-- none of the items passed is one
abbrev pub invariant-loop-k : goal.invariant-loop-k
invariant-loop-k l = first_ranged l.k (item_at l.m) ≡ 0
