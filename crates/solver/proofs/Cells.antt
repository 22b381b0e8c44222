-- How many cells the scales write for a problem, at most.
-- shown-most: for its first point, 391 runs. work-most: for its best place too, 289. scaled-most: for an optimum.
-- cells-most (end theorem): for any answer.
use mathlib.Core.Bool.{Bool}
use mathlib.Core.List.{List}
use Prim.Native.Nat.{ℕ, ◌*◌, ◌≤◌}
use native.Mathlib.Omega.{arith}
use Rattle.fillings.specs.Foremost.{first_cells}
use Rattle.firsts.proofs.Cells.{point-most}
use Rattle.knapsack.specs.declared.Kind.{Kind}
use Rattle.knapsack.specs.declared.Kind.TheVariants as kind
use Rattle.knapsack.specs.declared.Problem.{Problem}
use Rattle.placed.specs.Placed.{ShownWrites, kept, placed}
use Rattle.search.specs.declared.State.{State}
use Rattle.setting.specs.declared.Setting.{Setting}
use Rattle.settling.proofs.Best.{settle-most}
use Rattle.solver.specs.Outcomes.{most_work, WorkOf, ended, stopped, Scaled, CellsAs}

pub shown-most : {p : Problem} {first : Bool} {k : ℕ} → ShownWrites p first k → k ≤ 17 * first_cells
shown-most (kept h) = omega arith
shown-most (placed s P k low h o w) = point-most w

pub work-most : {p : Problem} {s : Setting} {end : State} {k : ℕ} → WorkOf p s end k → k ≤ most_work
work-most (ended h) = omega arith
work-most (stopped first k n h w v) = omega (arith, settle-most w, shown-most v)

pub scaled-most : {most : ℕ} {p : Problem} {named : List Bool} {k : ℕ} → Scaled most p named k → k ≤ most_work
scaled-most h = work-most h.writes

pub cells-most : (most : ℕ) (p : Problem) (named : List Bool) (k : Kind) (n : ℕ) → CellsAs most k p named n → n ≤ most_work
cells-most most p named kind.Optimal n h = scaled-most h
cells-most most p named kind.Infeasible n h = omega arith
cells-most most p named kind.Unbounded n h = omega arith
cells-most most p named (kind.Refused f) n h = absurd h
