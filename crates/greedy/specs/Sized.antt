-- What the arithmetic of the filling asks so that nothing overflows.
--   SizedColumns c  every figure of the columns is in its range
--   SizedEnds e     every end is
--   Sized c e       both
--   Raisable f …    the same of one rank that is raised
--   SizedFill c f   the same of where a filling stands, for its bound
--   Shareable f s p the same of a room at the price p for a weight of s
--   Fittable l u r  the same of an amount that just fits
use Rattle.std.specs.Prelude.{ℕ, ◌≤◌, ◌<◌, ℤ, nat_abs}
use Rattle.arith.specs.Limits.{farthest, most_room, most_worth}
use Rattle.arith.specs.Within.{Within}
use Rattle.greedy.specs.declared.Columns.{Columns}
use Rattle.greedy.specs.declared.Ends.{Ends}
use Rattle.greedy.specs.declared.Fill.{Fill}
use Rattle.greedy.specs.Fill.{at, item_of, weight_of, price_of}

pub record SizedColumns (c : Columns) : Type 0 where
  pub few : c.count ≤ 16
  pub live-few : c.live ≤ 16
  pub weights-in : (k : ℕ) → Within 1000 (weight_of c k)
  pub prices-in : (k : ℕ) → Within 10000 (price_of c k)
  pub sizes-in : (u : ℕ) → Within 1000 (at c.size u)
  pub rates-in : (u : ℕ) → Within 10000 (at c.rate u)
  pub items-in : (u : ℕ) → item_of c u < 16
  pub live-sizes : (u : ℕ) → u < c.live → 0 < nat_abs (at c.size u)
  pub capacity-in : Within 100000000 c.capacity

pub record SizedEnds (e : Ends) : Type 0 where
  pub lo-in : (k : ℕ) → Within farthest (at e.lo k)
  pub hi-in : (k : ℕ) → Within farthest (at e.hi k)

pub record Sized (c : Columns) (e : Ends) : Type 0 where
  pub columns : SizedColumns c
  pub ends : SizedEnds e

pub record Raisable (f : Fill) (size rate wide : ℤ) : Type 0 where
  pub rank-in : f.at < 16
  pub room_in : Within most_room f.room
  pub worth-in : Within most_worth f.worth
  pub size_in : Within 1000 size
  pub rate-in : Within 10000 rate
  pub wide-in : Within 600000000 wide

pub record SizedFill (c : Columns) (f : Fill) : Type 0 where
  pub columns : SizedColumns c
  pub room_in : Within most_room f.room
  pub worth-in : Within most_worth f.worth

pub record Shareable (f : Fill) (s p : ℕ) : Type 0 where
  pub room_in : Within most_room f.room
  pub worth-in : Within 300000000000000000 f.worth
  pub size_in : 0 < s
  pub rate-in : p ≤ 10000

pub record Fittable (l u room : ℤ) : Type 0 where
  pub low-in : Within farthest l
  pub high-in : Within farthest u
  pub room_in : Within most_room room
