-- What a change leaves alone: paper 02, request 10, "a change to one item leaves every other item's figures". Places and lines count from 0.
--   Adds m x o           o is m with the item x at the end
--   Removes m k o        o is m without item k: items before it stay, later ones move down by one; the lines of needs that do not name it stay, in order
--   Bounds m k u o       o is m with the upper bound u of item k, and nothing else is changed
--   Alone c m o          o is m with the change c alone (proofs/Effects, change-alone)
use Rattle.std.specs.Prelude.{false, ◌≡◌, ℕ, suc, ◌-◌, ◌≤◌, ◌<◌}
use Rattle.arith.specs.Sum.{Each}
use Rattle.std.specs.Prelude.{Option, ℤ}
use Rattle.model.specs.declared.Model.{Model}
use Rattle.model.specs.declared.ModelItem.{ModelItem}
use Rattle.model.specs.declared.Side.TheVariants.{Upper}
use Rattle.model.specs.Records.{item_at, need_at, names_item}
use Rattle.model.specs.Setters.{bounded}
use Rattle.standing.specs.Changes.{Change, Adding, Removing, Bounding, lowered_need}

pub record Adds (m : Model) (x : ModelItem) (o : Model) : Type 0 where
  pub count : o.count ≡ suc m.count
  pub capacity : o.capacity ≡ m.capacity
  pub needs : o.needs ≡ m.needs
  pub rest : Each m.count (λ j. item_at o j ≡ item_at m j)
  pub last : item_at o m.count ≡ x

pub record Removes (m : Model) (k : ℕ) (o : Model) : Type 0 where
  pub count : suc o.count ≡ m.count
  pub capacity : o.capacity ≡ m.capacity
  pub before : (j : ℕ) → suc j < k → item_at o j ≡ item_at m j
  pub after : (j : ℕ) → k ≤ suc j → suc j < m.count → item_at o j ≡ item_at m (suc j)
  pub old : ℕ → ℕ
  pub old-in : Each o.needs.count (λ i. old i < m.needs.count)
  pub old-spared : Each o.needs.count (λ i. names_item (need_at m.needs (old i)) k ≡ false)
  pub lines : Each o.needs.count (λ i. need_at o.needs i ≡ lowered_need k (need_at m.needs (old i)))
  pub in_order : (i j : ℕ) → i < j → j < o.needs.count → old i < old j
  pub all-spared : Each m.needs.count (λ j. names_item (need_at m.needs j) k ≡ false → (i : ℕ) × ((i < o.needs.count) × (old i ≡ j)))

pub record Bounds (m : Model) (k : ℕ) (u : Option ℤ) (o : Model) : Type 0 where
  pub count : o.count ≡ m.count
  pub capacity : o.capacity ≡ m.capacity
  pub needs : o.needs ≡ m.needs
  pub rest : (j : ℕ) → (suc j ≡ k → ⊥) → item_at o j ≡ item_at m j
  pub own : item_at o (k - 1) ≡ bounded Upper u (item_at m (k - 1))

abbrev pub Alone : Change → Model → Model → Type 0
Alone (Adding x) m o = Adds m x o
Alone (Removing k) m o = Removes m k o
Alone (Bounding k u) m o = Bounds m k u o
