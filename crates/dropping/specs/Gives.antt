-- What the meaning gives a problem with needs: a kind of reply, and a value.
--   Best s ns v          an optimal point worth v
--   Boundless s ns       a feasible point, and steps from it that raise the value every time
--   Gives s ns k v       the meaning gives the kind k and the value v; where there is no best point v is nought
use Rattle.std.specs.Prelude.{List, ◌≡◌, ℕ, ℤ}
use Rattle.arith.specs.Fractions.{Frac, frac, ◌≈ᶠ◌}
use Rattle.arith.specs.declared.Fraction.{Fraction}
use Rattle.knapsack.specs.Meaning.{Instance, Point, value, nought}
use Rattle.knapsack.specs.declared.Kind.{Kind}
use Rattle.knapsack.specs.declared.Kind.TheVariants as kind
use Rattle.model.specs.declared.Need.{Need}
use Rattle.model.specs.Needs.{OptimalNeeds, InfeasibleNeeds, UnboundedNeeds}

pub record Best (s : Instance) (ns : List Need) (v : Frac) : Type 0 where
  pub point : Point
  pub optimal : OptimalNeeds s ns point
  pub worth : value s point ≈ᶠ v

pub record Boundless (s : Instance) (ns : List Need) : Type 0 where
  pub point : Point
  pub steps : ℕ → ℤ
  pub unbounded : UnboundedNeeds s ns point steps

abbrev pub Gives : Instance → List Need → Kind → Fraction → Type 0
Gives s ns kind.Optimal v = Best s ns (frac v.p v.q)
Gives s ns kind.Infeasible v = InfeasibleNeeds s ns × (v ≡ nought)
Gives s ns kind.Unbounded v = Boundless s ns × (v ≡ nought)
Gives s ns (kind.Refused f) v = ⊥
