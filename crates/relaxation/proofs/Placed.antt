-- The items put in order, one by one.
-- place-more: one item more is placed. place-all: with all placed the record is in order.
use mathlib.Core.List.{List, [], ◌∷◌, ◌++◌, map}
use mathlib.Core.Path.{◌≡◌, refl, sym, ap, ◌∙◌}
use Prim.Native.Nat.{ℕ, zero, suc, ◌+◌, ◌<◌}
use native.Mathlib.Numerals.{add-one}
use lib.ListN.{length, get_or, take, drop, set, length-map, get_or-map}
use Rattle.knapsack.specs.Ranges.{item_at as plain_item}
use Rattle.model.specs.declared.Model.{Model}
use Rattle.model.specs.declared.ModelItem.{ModelItem}
use Rattle.model.specs.declared.Sense.{Sense}
use Rattle.model.specs.Records.{item_at, item_in, plain_of}
use Rattle.model.specs.Setters.{with_items, with_item}
use Rattle.model.proofs.Plain.{plain-item}
use Rattle.ordering.specs.Ranking.{Sorted}
use Rattle.ordering.proofs.Lists.{store-more}
use Rattle.ordering.proofs.Order.{order-cong}
use Rattle.relaxation.specs.Lent.{in_order, arranged_in}

-- the record whose first u places hold the items that the ranking names
abbrev pub placed : Model → List ℕ → ℕ → Model
placed m at u = with_items m (take u (map (item_at m) at) ++ drop u m.items)

pub place-more : (m : Model) (at : List ℕ) (u : ℕ) → u < length at → u < length m.items →
    with_item (placed m at u) u (item_at m (get_or at u 0)) ≡ placed m at (u + 1)
place-more m at u h g =
    let l : u < length (map (item_at m) at) = simp length-map h in
    let x = get_or-map (item_at m) at u 0 in
    rw add-one (ap (with_items m) (ap (set (take u (map (item_at m) at) ++ drop u m.items) u) (sym x)
    ∙ store-more (item_at m 0) (map (item_at m) at) m.items u l g))

take-map : (f : ℕ → ModelItem) (n : ℕ) (l : List ℕ) → take n (map f l) ≡ map f (take n l)
take-map f zero l = refl
take-map f (suc n) [] = refl
take-map f (suc n) (x ∷ l) = ap (λ t. f x ∷ t) (take-map f n l)

pub place-all : (sense : Sense) (m : Model) (at : List ℕ) → Sorted (plain_item (plain_of sense m)) m.count at → placed m at m.count ≡ arranged_in sense m
unfolding arranged_in in_order
place-all sense m at s =
    let e = order-cong (plain_item (plain_of sense m)) (λ k. item_in sense (item_at m k)) m.count (λ k h. plain-item sense m k) in
    ap (λ t. with_items m (t ++ drop m.count m.items)) (take-map (item_at m) m.count at ∙ ap (map (item_at m)) (s.first ∙ e))
