-- The demands of paper 01 in their own words. `Answers s a` is what the planner owes; Demands says what follows from it for every true answer.
-- That each accepted problem has a true answer is the contract of `solve` (crate solver) and `plan` (crate planner): they reply with one.
--   HasOptimal s         some point is optimal
--   HasRay s             some feasible point has steps that are unbounded
--   Endless s            for every number some feasible point is worth more
--   ExactlyOne A B C     one of the three holds, and no two
--   shown_value a         the value that an answer shows
--   Demands s a          what is owed of an answer to s
use Rattle.std.specs.Prelude.{◌⊎◌, ◌↔◌, ◌≡◌, ℕ, ℤ}
use Rattle.arith.specs.Fractions.{Frac, frac, ◌≤ᶠ◌, ◌<ᶠ◌}
use Rattle.knapsack.specs.Meaning.{Instance, Point, value, Feasible, Optimal, Infeasible, Unbounded, relaxed, Answers}
use Rattle.knapsack.specs.declared.Answer.{Answer}
use Rattle.knapsack.specs.declared.Kind.TheVariants as kind

abbrev pub HasOptimal : Instance → Type 0
HasOptimal s = (x : Point) × Optimal s x

abbrev pub HasRay : Instance → Type 0
HasRay s = (x : Point) × (d : ℕ → ℤ) × Unbounded s x d

abbrev pub Endless : Instance → Type 0
Endless s = (v : Frac) → (x : Point) × Feasible s x × (v <ᶠ value s x)

pub record ExactlyOne (A B C : Type 0) : Type 0 where
  pub some : A ⊎ (B ⊎ C)
  pub first-not-second : ¬ (A × B)
  pub first-not-third : ¬ (A × C)
  pub second-not-third : ¬ (B × C)

abbrev pub shown_value : Answer → Frac
shown_value a = frac a.value.p a.value.q

-- another true answer b has the same kind and value; so has a true answer c to the relaxed problem, but that its value may be higher
pub record Demands (s : Instance) (a : Answer) : Type 0 where
  pub optimal-exactly : (a.kind ≡ kind.Optimal) ↔ HasOptimal s
  pub infeasible-exactly : (a.kind ≡ kind.Infeasible) ↔ Infeasible s
  pub unbounded-exactly : (a.kind ≡ kind.Unbounded) ↔ HasRay s
  pub endless-exactly : (a.kind ≡ kind.Unbounded) ↔ Endless s
  pub one_of_three : ExactlyOne (HasOptimal s) (Infeasible s) (HasRay s)
  pub kind-once : (b : Answer) → Answers s b → b.kind ≡ a.kind
  pub value-once : (b : Answer) → Answers s b → b.value ≡ a.value
  pub relaxed-kind : (c : Answer) → Answers (relaxed s) c → c.kind ≡ a.kind
  pub relaxed-value : (c : Answer) → Answers (relaxed s) c → a.kind ≡ kind.Optimal → shown_value a ≤ᶠ shown_value c
