-- What the two senses mean: paper 02, request 11, "Weights known within a range". An item may have any weight from its low one to its high one, a fraction
-- too; that whole weights alone would say the same is proofs/Senses (whole-weights).
--   times w x           a weight times an amount
--   Choice m w          w gives every item a weight within its range
--   FitsBy m w x        with the weights w the point x is not over the capacity
--   FitsIn sense m x    sure: so it is with every choice of weights; possible: with some;  FitsInWhole: the weights are whole numbers
--   KeepsItem i x       an amount keeps the item's mark and its bounds
--   Permitted sense m x the point keeps marks, bounds and needs, and fits in that sense: the request's definition, to which `plain_of sense m` is held
--                       (proofs/Senses, sense-iff)
use Rattle.std.specs.Prelude.{ℕ, ◌*◌, ◌<◌, ℤ, ◌*ℤ◌}
use Rattle.std.proofs.Common.{mul-le-mul}
use Rattle.arith.specs.Fractions.{Frac, int, ◌≤ᶠ◌, total}
use Rattle.arith.specs.Sum.{Each}
use Rattle.knapsack.specs.Meaning.{Point, KeepsMark, KeepsLower, KeepsUpper}
use Rattle.model.specs.declared.Model.{Model}
use Rattle.model.specs.declared.ModelItem.{ModelItem}
use Rattle.model.specs.declared.Sense.{Sense}
use Rattle.model.specs.declared.Sense.TheVariants.{Sure, Possible}
use Rattle.model.specs.Needs.{KeepsNeeds}
use Rattle.model.specs.Records.{item_at, needs_of}

unfoldable pub times : Frac → Frac → Frac
times w x = record { num = w.num *ℤ x.num; den = w.den * x.den; den≥1 = mul-le-mul w.den≥1 x.den≥1 }

abbrev pub Choice : Model → (ℕ → Frac) → Type 0
Choice m w = Each m.count (λ k. (int (item_at m k).low ≤ᶠ w k) × (w k ≤ᶠ int (item_at m k).high))

abbrev pub FitsBy : Model → (ℕ → Frac) → Point → Type 0
FitsBy m w x = total m.count (λ k. times (w k) (x k)) ≤ᶠ int m.capacity

abbrev pub FitsIn : Sense → Model → Point → Type 0
FitsIn Sure m x = (w : ℕ → Frac) → Choice m w → FitsBy m w x
FitsIn Possible m x = (w : ℕ → Frac) × (Choice m w × FitsBy m w x)

abbrev pub FitsInWhole : Sense → Model → Point → Type 0
FitsInWhole Sure m x = (w : ℕ → ℤ) → Choice m (λ k. int (w k)) → FitsBy m (λ k. int (w k)) x
FitsInWhole Possible m x = (w : ℕ → ℤ) × (Choice m (λ k. int (w k)) × FitsBy m (λ k. int (w k)) x)

pub record KeepsItem (i : ModelItem) (x : Frac) : Type 0 where
  pub marked : KeepsMark i.mark x
  pub above : KeepsLower i.lower x
  pub below : KeepsUpper i.upper x

pub record Permitted (sense : Sense) (m : Model) (x : Point) : Type 0 where
  pub keeps : (k : ℕ) → k < m.count → KeepsItem (item_at m k) (x k)
  pub fits : FitsIn sense m x
  pub kept : KeepsNeeds (needs_of m.needs) x
