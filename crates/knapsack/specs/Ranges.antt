-- Plain problems, as the solver knows them, and the ranges that they keep: paper 01, the table of ranges.
--   blank               what stands in the places beyond the count: integer, weight 0, price 0, no bounds
--   item_at p k          the item at a place, from 0
--   BoundInRange b      a bound within its range
--   BoundsInOrder l u   no lower bound above its upper
--   ItemInRange i       an item's figures within their ranges, its bounds in order
--   InRange p           the problem keeps the ranges of the paper's table
use Rattle.std.specs.Prelude.{ℕ, ◌≤◌, ◌<◌, pos, nat_abs, get_or, ◌≤ℤ◌}
use Rattle.std.specs.Prelude.{Option, ℤ, None, Some}
use Rattle.knapsack.specs.declared.Mark.TheVariants.{Integer}
use Rattle.knapsack.specs.declared.Item.{Item}
use Rattle.knapsack.specs.declared.Problem.{Problem}

abbrev pub blank : Item
blank = record { mark = Integer; weight = pos 0; price = pos 0; lower = None; upper = None }

abbrev pub item_at : Problem → ℕ → Item
item_at p k = get_or p.items k blank

abbrev pub BoundInRange : Option ℤ → Type 0
BoundInRange None = Unit {0}
BoundInRange (Some v) = nat_abs v ≤ 10000

abbrev pub BoundsInOrder : Option ℤ → Option ℤ → Type 0
BoundsInOrder None u = Unit {0}
BoundsInOrder (Some l) None = Unit {0}
BoundsInOrder (Some l) (Some u) = l ≤ℤ u

pub record ItemInRange (i : Item) : Type 0 where
  pub weight-in : nat_abs i.weight ≤ 1000
  pub price-in : nat_abs i.price ≤ 10000
  pub lower_in : BoundInRange i.lower
  pub upper_in : BoundInRange i.upper
  pub in_order : BoundsInOrder i.lower i.upper

pub record InRange (p : Problem) : Type 0 where
  pub some-items : 1 ≤ p.count
  pub few-items : p.count ≤ 16
  pub capacity-in : nat_abs p.capacity ≤ 100000000
  pub items-in : (k : ℕ) → k < p.count → ItemInRange (item_at p k)
