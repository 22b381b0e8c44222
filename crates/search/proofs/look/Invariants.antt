use Rattle.std.proofs.Common.{◌≡◌, ℕ, ◌<◌, ◌≤◌, false}
use Rattle.greedy.specs.Fill.{at}
use Rattle.search.specs.Steps.{cut_at}
use Rattle.setting.specs.Box.{fixed_by}
use Rattle.search.proofs.look.Given as goal

-- at level d the box has the levels above fixed at the place
abbrev pub invariant-loop-d : goal.invariant-loop-d
invariant-loop-d l = record {
  box : l.e ≡ fixed_by l.s (at l.x) l.d;
  before : l.d ≤ l.m;
  uncut : (i : ℕ) → i < l.d → cut_at l.s (record { place = l.x; starts = l.v }) l.best i ≡ false;
}
