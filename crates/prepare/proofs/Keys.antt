-- The problem of the items' keys can be ordered, and its order is that of the keys.
use mathlib.Core.Path.{sym, ◌∙◌, subst}
use mathlib.Core.Bool.{Bool, true, false, cond}
use mathlib.Core.List.{List}
use Prim.Native.Nat.{ℕ, ◌<◌}
use native.Mathlib.Omega.{arith}
use lib.Dec.{eqb}
use lib.IntN.{pos, negsuc, nat_abs}
use Rattle.arith.proofs.Parts.{within_more}
use Rattle.knapsack.specs.Ranges.{item_at, ItemInRange, InRange}
use Rattle.knapsack.specs.declared.Item.{Item}
use Rattle.knapsack.specs.declared.Problem.{Problem}
use Rattle.ordering.proofs.Order.{order-cong}
use Rattle.ordering.specs.Ranking.{Small, Ranged, Sorted}
use Rattle.prepare.specs.Figures.{is_integer, key_item, reduced_price, key_of, SmallKey}
use Rattle.prepare.specs.Tables.{Keyed}
use Rattle.prepare.specs.declared.tables.Key.TheVariants.{Filling, Branching}
use Rattle.prepare.specs.declared.tables.Key.{Key}
use Rattle.prepare.proofs.Ranges.{zero-within, size-within, weight-within, key-within, branching-within}

key-small : (by : Key) (i : Item) → ItemInRange i → SmallKey by → Small (key_of by i)
key-small Filling i r s = record { weight = size-within i.weight (weight-within i r); price = within_more (omega arith) (key-within i r) }
key-small (Branching p q) i r s = go (is_integer i.mark) (eqb (nat_abs i.weight) 0)
  where
    go : (b t : Bool) → Small (cond b (key_item (pos 1) (cond t (negsuc 0) (pos (nat_abs (reduced_price p q i))))) (key_item (pos 0) (pos 0)))
    go true true = record { weight = record { above = omega arith; below = omega arith }; price = record { above = omega arith; below = omega arith } }
    go true false = record { weight = record { above = omega arith; below = omega arith }; price = within_more (omega arith) (branching-within i r p q s) }
    go false t = record { weight = zero-within; price = zero-within }

module _ (p r : Problem) (by : Key) (k : Keyed by p r) where
  pub keys-ranged : InRange p → SmallKey by → Ranged r
  keys-ranged h s = record {
    few = omega (arith, k.count, h.few-items);
    small = λ j l. let m : j < p.count = omega (arith, k.count) in subst Small (sym (k.keys j m)) (key-small by (item_at p j) (h.items-in j m) s);
  }

  pub keys-sorted : (l : List ℕ) → Sorted (item_at r) r.count l → Sorted (λ j. key_of by (item_at p j)) p.count l
  keys-sorted l s = record { first = (rw k.count at s.first) ∙ order-cong (item_at r) (λ j. key_of by (item_at p j)) p.count k.keys; below = s.below }
