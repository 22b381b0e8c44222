use Rattle.std.proofs.Common.{ℕ, ◌<◌}
use Rattle.greedy.specs.Fill.{at}
use Rattle.search.specs.Search.{AppliesAt, Applies}
use Rattle.search.proofs.first_paired.Given as goal

-- no pair of a level before d applies
abbrev pub invariant-loop-d : goal.invariant-loop-d
invariant-loop-d l = (e : ℕ) → e < l.d → ¬ Applies l.s l.p (at l.x) e

-- nor of d and one before j
abbrev pub invariant-loop-j : goal.invariant-loop-j
invariant-loop-j l = (i : ℕ) → i < l.j → ¬ AppliesAt l.s l.p (at l.x) l.d i
