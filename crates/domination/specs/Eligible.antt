-- Which items may be paired. What a pair then is stands in knapsack's specs/Meaning: CostPair, LeastPair, NoPair.
--   Eligible x           x may be paired: integer, weight and price both above zero or both below
use Rattle.std.specs.Prelude.{◌≡◌, ◌⊎◌, pos, ◌<ℤ◌}
use Rattle.knapsack.specs.declared.Mark.TheVariants.{Integer}
use Rattle.knapsack.specs.declared.Item.{Item}

pub record Eligible (x : Item) : Type 0 where
  pub integer : x.mark ≡ Integer
  pub one-sign : ((pos 0 <ℤ x.weight) × (pos 0 <ℤ x.price)) ⊎ ((x.weight <ℤ pos 0) × (x.price <ℤ pos 0))
