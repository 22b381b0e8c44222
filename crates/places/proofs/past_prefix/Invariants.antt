use Rattle.std.proofs.Common.{◌≡◌}
use Rattle.places.specs.Moves.{at, carry}
use Rattle.places.proofs.past_prefix.Given as goal

abbrev pub invariant-loop-j : goal.invariant-loop-j
invariant-loop-j l = carry (at l.lo) (at l.hi) (at l.s) (at l.x) l.n ≡ carry (at l.lo) (at l.hi) (at l.s) (at l.x) l.j
