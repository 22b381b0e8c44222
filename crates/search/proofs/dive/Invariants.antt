use Rattle.search.proofs.Dives.{Diving}
use Rattle.search.proofs.dive.Given as goal

abbrev pub invariant-loop-k : goal.invariant-loop-k
invariant-loop-k l = Diving l.s l.j (record { place = l.initial.x; starts = l.initial.y }) (record { place = l.x; starts = l.y }) l.e l.k
