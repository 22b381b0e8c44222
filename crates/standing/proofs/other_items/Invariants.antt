use Rattle.std.proofs.Common.{◌≡◌}
use Rattle.standing.specs.Changes.{removed_to}
use Rattle.standing.proofs.other_items.Given as goal

abbrev pub invariant-loop-j : goal.invariant-loop-j
invariant-loop-j l = l.q ≡ removed_to l.m l.k l.j 0
