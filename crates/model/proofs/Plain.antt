-- The solver's problem of a record in a sense.
-- plain-item: its items are those of the record in that sense. filled_none, filled_more, filled-all: its list while the items are filled in.
use mathlib.Core.List.{List, [], ◌∷◌}
use mathlib.Core.Path.{◌≡◌, refl, ap}
use Prim.Native.Nat.{ℕ, zero, suc, ◌<◌}
use native.Mathlib.Omega.{arith}
use lib.ListN.{length, get_or, set, replicate, get_or-map}
use Rattle.knapsack.specs.Ranges.{blank, item_at as plain_item}
use Rattle.knapsack.specs.declared.Item.{Item}
use Rattle.model.specs.declared.Model.{Model}
use Rattle.model.specs.declared.ModelItem.{ModelItem}
use Rattle.model.specs.declared.Sense.{Sense}
use Rattle.model.specs.Records.{no_item, item_at, item_in, items_in, plain_of}

pub plain-item : (s : Sense) (m : Model) (k : ℕ) → plain_item (plain_of s m) k ≡ item_in s (item_at m k)
unfolding items_in
plain-item Sense.Sure m k = get_or-map (item_in Sense.Sure) m.items k no_item
plain-item Sense.Possible m k = get_or-map (item_in Sense.Possible) m.items k no_item

-- the first k of n places filled in, and blank items behind them
unfoldable pub filled_to : Sense → ℕ → List ModelItem → ℕ → List Item
filled_to s zero l k = []
filled_to s (suc n) [] k = blank ∷ filled_to s n [] k
filled_to s (suc n) (x ∷ l) zero = blank ∷ filled_to s n l zero
filled_to s (suc n) (x ∷ l) (suc k) = item_in s x ∷ filled_to s n l k

pub filled_none : (s : Sense) (n : ℕ) (l : List ModelItem) → filled_to s n l 0 ≡ replicate n blank
unfolding filled_to
filled_none s zero l = refl
filled_none s (suc n) [] = ap (λ t. blank ∷ t) (filled_none s n [])
filled_none s (suc n) (x ∷ l) = ap (λ t. blank ∷ t) (filled_none s n l)

pub filled_more : (s : Sense) (n : ℕ) (l : List ModelItem) (k : ℕ) → k < n → k < length l →
    set (filled_to s n l k) k (item_in s (get_or l k no_item)) ≡ filled_to s n l (suc k)
unfolding filled_to
filled_more s zero l k h g = absurd (omega arith)
filled_more s (suc n) [] k h g = absurd (omega arith)
filled_more s (suc n) (x ∷ l) zero h g = refl
filled_more s (suc n) (x ∷ l) (suc k) h g = ap (λ t. item_in s x ∷ t) (filled_more s n l k (omega arith) (omega arith))

pub filled-all : (s : Sense) (n : ℕ) (l : List ModelItem) → length l ≡ n → filled_to s n l n ≡ items_in s l
unfolding filled_to items_in
filled-all s zero [] h = refl
filled-all s zero (x ∷ l) h = absurd (omega arith)
filled-all s (suc n) [] h = absurd (omega arith)
filled-all s (suc n) (x ∷ l) h = ap (λ t. item_in s x ∷ t) (filled-all s n l (omega arith))
