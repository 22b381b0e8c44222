-- The demands of paper 01 in their own words, with needs: what follows for every answer that is true of a problem with the needs ns.
-- That each accepted record has a true answer is the contract of `solve_needs` and `plan` (crate planner): they reply with one.
--   HasOptimalNeeds s ns   some point is optimal
--   HasRayNeeds s ns       some feasible point has steps that are unbounded
--   EndlessNeeds s ns      for every number some feasible point is worth more
--   DemandsNeeds s ns a    what is owed of an answer
use Rattle.std.specs.Prelude.{◌≡◌, List, ◌↔◌, ℕ, ℤ}
use Rattle.arith.specs.Fractions.{Frac, ◌≤ᶠ◌, ◌<ᶠ◌}
use Rattle.knapsack.specs.Demands.{ExactlyOne, shown_value}
use Rattle.knapsack.specs.Meaning.{Instance, Point, value}
use Rattle.knapsack.specs.declared.Answer.{Answer}
use Rattle.knapsack.specs.declared.Kind.TheVariants as kind
use Rattle.model.specs.Needs.{FeasibleNeeds, OptimalNeeds, InfeasibleNeeds, UnboundedNeeds, AnswersNeeds, relaxed_but}
use Rattle.model.specs.declared.Need.{Need}

abbrev pub HasOptimalNeeds : Instance → List Need → Type 0
HasOptimalNeeds s ns = (x : Point) × OptimalNeeds s ns x

abbrev pub HasRayNeeds : Instance → List Need → Type 0
HasRayNeeds s ns = (x : Point) × (d : ℕ → ℤ) × UnboundedNeeds s ns x d

abbrev pub EndlessNeeds : Instance → List Need → Type 0
EndlessNeeds s ns = (v : Frac) → (x : Point) × FeasibleNeeds s ns x × (v <ᶠ value s x)

-- another true answer b has the same kind and value; so has a true answer c to the relaxed problem, but that its value may be higher
pub record DemandsNeeds (s : Instance) (ns : List Need) (a : Answer) : Type 0 where
  pub optimal-exactly : (a.kind ≡ kind.Optimal) ↔ HasOptimalNeeds s ns
  pub infeasible-exactly : (a.kind ≡ kind.Infeasible) ↔ InfeasibleNeeds s ns
  pub unbounded-exactly : (a.kind ≡ kind.Unbounded) ↔ HasRayNeeds s ns
  pub endless-exactly : (a.kind ≡ kind.Unbounded) ↔ EndlessNeeds s ns
  pub one_of_three : ExactlyOne (HasOptimalNeeds s ns) (InfeasibleNeeds s ns) (HasRayNeeds s ns)
  pub kind-once : (b : Answer) → AnswersNeeds s ns b → b.kind ≡ a.kind
  pub value-once : (b : Answer) → AnswersNeeds s ns b → b.value ≡ a.value
  pub relaxed-kind : (c : Answer) → AnswersNeeds (relaxed_but ns s) ns c → c.kind ≡ a.kind
  pub relaxed-value : (c : Answer) → AnswersNeeds (relaxed_but ns s) ns c → a.kind ≡ kind.Optimal → shown_value a ≤ᶠ shown_value c
