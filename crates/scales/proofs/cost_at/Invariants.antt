use Rattle.std.proofs.Common.{◌≡◌, ◌≤◌}
use Rattle.scales.specs.Digits.{cost_at}
use Rattle.scales.proofs.cost_at.Given as goal

abbrev pub invariant-loop : goal.invariant-loop
invariant-loop l = (l.r ≤ l.cap) × (l.r ≡ cost_at l.cap l.counter l.c)
