-- q has the other items, and the lines of needs passed that do not name the item, by the new numbers.
use Rattle.std.proofs.Common.{◌≡◌}
use Rattle.model.specs.Setters.{with_needs}
use Rattle.standing.specs.Changes.{spared_to}
use Rattle.standing.proofs.without_item.Given as goal

abbrev pub invariant-loop-j : goal.invariant-loop-j
invariant-loop-j l = l.q ≡ with_needs l.initial.q (spared_to l.k l.m.needs l.j)
