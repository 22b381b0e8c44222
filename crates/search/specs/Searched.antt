-- What a search gives.
--   Searched s r     the incumbent r is the first best point of the box, or there is none and the box holds nothing feasible
--   Searches s p n r r is where a search of at most n steps stops: what it owes at its end, and what before
use Rattle.std.specs.Prelude.{◌≡◌, true, false, ℕ, ◌≤◌, ℤ}
use Rattle.knapsack.specs.declared.Mark.{Mark}
use Rattle.knapsack.proofs.Common.{Feasibleᴰ}
use Rattle.foremost.proofs.Foremost.{Foremostᴰ}
use Rattle.greedy.specs.Fill.{at}
use Rattle.greedy.proofs.Relaxed.{box_of}
use Rattle.setting.specs.declared.Setting.{Setting}
use Rattle.setting.specs.Ready.{Marked}
use Rattle.setting.specs.declared.Pairs.{Pairs}
use Rattle.search.specs.declared.Incumbent.{Incumbent}
use Rattle.search.specs.declared.State.{State}
use Rattle.search.specs.Steps.{GoodBest, FilledBest, Stops}

-- optimal for the box, and no optimal point of the box comes before it
pub record Searched (s : Setting) (r : Incumbent) : Type 0 where
  pub good : GoodBest s r
  pub foremost : r.found ≡ true → (marks : ℕ → Mark) → Marked s marks → Foremostᴰ (box_of s.cols s.ends marks) r.value.parts (at r.point)
  pub empty : r.found ≡ false → (marks : ℕ → Mark) → Marked s marks → (D : ℕ) (N : ℕ → ℤ) → 1 ≤ D → ¬ Feasibleᴰ (box_of s.cols s.ends marks) D N

-- a search that has not ended has taken all its steps, and its incumbent is the filling at a place that was tried
pub record Searches (s : Setting) (p : Pairs) (n : ℕ) (r : State) : Type 0 where
  pub stops : Stops s p n r
  pub good : GoodBest s r.best
  pub filled : FilledBest s r.best
  pub searched : r.done ≡ true → Searched s r.best
