use Rattle.std.proofs.Common.{◌≡◌}
use Rattle.greedy.specs.Fill.{unranked}
use Rattle.greedy.proofs.Filling.{Filling}
use Rattle.greedy.proofs.fill_in.Given as goal

abbrev pub invariant-loop-u : goal.invariant-loop-u
invariant-loop-u l = (l.f.at ≡ l.u)
    × Filling (unranked l.weight l.price l.order l.size l.rate l.live l.n l.capacity) (record { lo = l.lo; hi = l.hi }) l.f
