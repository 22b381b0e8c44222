use Rattle.std.proofs.Common.{◌≡◌}
use Rattle.scales.specs.Digits.{rest_at}
use Rattle.scales.proofs.rest_at.Given as goal

abbrev pub invariant-loop : goal.invariant-loop
invariant-loop l = l.r ≡ rest_at l.counter l.u
