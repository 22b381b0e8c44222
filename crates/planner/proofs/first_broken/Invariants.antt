use Rattle.std.proofs.Common.{◌≡◌, ℕ, ◌<◌, false}
use Rattle.model.specs.Records.{need_at, placed}
use Rattle.planner.specs.Branching.{breaks}
use Rattle.planner.proofs.first_broken.Given as goal

abbrev pub invariant-loop-i : goal.invariant-loop-i
invariant-loop-i l = (j : ℕ) → j < l.i → breaks l.x (placed (need_at l.ns j)) ≡ false
