-- not-refused: what is chosen by a kind that is no refusal.
use mathlib.Core.Path.{◌≡◌, refl}
use mathlib.Core.List.{[], ◌∷◌}
use mathlib.Core.Logic.{⊎_elim}
use native.Mathlib.Omega.{arith}
use denote.Enum.Declared.{tag_of}
use types.Run.{OneOf}
use Rattle.knapsack.specs.contracts.Kind.{the_type}
use Rattle.knapsack.specs.declared.Refusal.{Refusal}
use Rattle.knapsack.specs.declared.Kind.{Kind}
use Rattle.knapsack.specs.declared.Kind.TheVariants.{Optimal, Infeasible, Unbounded, Refused}
use Rattle.listing.specs.Printing.{unless_refused}

-- by the number of the variant, as a match tells it
pub not-refused : {A : Type 0} (k : Kind) (f : Refusal → A) (x : A) → OneOf (0 ∷ 1 ∷ 2 ∷ []) (tag_of the_type k) → unless_refused k f x ≡ x
not-refused Optimal f x h = refl
not-refused Infeasible f x h = refl
not-refused Unbounded f x h = refl
not-refused (Refused r) f x h = absurd (⊎_elim (λ e. omega arith) (λ g. ⊎_elim (λ e. omega arith) (λ e. omega arith) g) h)
