-- What the scan for a ray answers.
--   steps_at l         the steps l, by item
--   RayFound p r      the reply r is true of p: None where there is no ray at all, or steps that are unbounded from every feasible
--                     point, be the marks as they are or all continuous
use Rattle.std.specs.Prelude.{◌≡◌, Option, None, Some, List, ℕ, ℤ, pos, get_or}
use Rattle.knapsack.specs.Meaning.{Point, instance_of, relaxed, Feasible, Unbounded, ShownSteps}
use Rattle.knapsack.specs.declared.Problem.{Problem}
use Rattle.knapsack.proofs.Reach.{NoRay}

abbrev pub steps_at : List ℤ → ℕ → ℤ
steps_at l k = get_or l k (pos 0)

pub record RayFound (p : Problem) (r : Option (List ℤ)) : Type 0 where
  pub none : r ≡ None → NoRay (instance_of p)
  pub escapes : (l : List ℤ) → r ≡ Some l → (x : Point) → Feasible (instance_of p) x → Unbounded (instance_of p) x (steps_at l)
  pub escapes-relaxed : (l : List ℤ) → r ≡ Some l → (x : Point) → Feasible (relaxed (instance_of p)) x → Unbounded (relaxed (instance_of p)) x (steps_at l)
  pub small : (l : List ℤ) → r ≡ Some l → ShownSteps (instance_of p) (steps_at l)
