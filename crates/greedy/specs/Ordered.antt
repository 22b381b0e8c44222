-- Columns whose order is by falling price per weight.
--   Idle a c        an item that is not worth its weight: it stays at its light end
--   weight_at c u    the weight of the item of rank u;  rate_at c u: its price without the weight's sign
--   Ordered c       rank and order lead back to each other, ratios fall with the rank, and the first live ranks are those worth their weight
use Rattle.std.specs.Prelude.{◌≡◌, ◌≢◌, ◌⊎◌, ℕ, ◌≤◌, ◌<◌, ℤ, pos, nat_abs, ◌*ℤ◌, ◌≤ℤ◌, ◌<ℤ◌}
use Rattle.greedy.specs.declared.Columns.{Columns}
use Rattle.arith.specs.Signs.{times_sign}
use Rattle.greedy.specs.Fill.{at, weight_of, price_of, item_of, rank_of}

abbrev pub Idle : ℤ → ℤ → Type 0
Idle a c = (a ≡ pos 0) ⊎ (times_sign a c ≤ℤ pos 0)

-- the item of rank u, its weight and its price without the weight's sign
abbrev pub weight_at : Columns → ℕ → ℤ
weight_at c u = weight_of c (item_of c u)

abbrev pub rate_at : Columns → ℕ → ℤ
rate_at c u = times_sign (weight_of c (item_of c u)) (price_of c (item_of c u))

pub record Ordered (c : Columns) : Type 0 where
  pub item_in : (u : ℕ) → u < c.count → item_of c u < c.count
  pub rank-in : (k : ℕ) → k < c.count → rank_of c k < c.count
  pub item-rank : (k : ℕ) → k < c.count → item_of c (rank_of c k) ≡ k
  pub rank-item : (u : ℕ) → u < c.count → rank_of c (item_of c u) ≡ u
  pub falls : (u v : ℕ) → u < v → v < c.count → weight_at c u ≢ pos 0 → weight_at c v ≢ pos 0
      → (rate_at c v *ℤ pos (nat_abs (weight_at c u))) ≤ℤ (rate_at c u *ℤ pos (nat_abs (weight_at c v)))
  pub live_in : c.live ≤ c.count
  pub live-weight : (u : ℕ) → u < c.live → weight_at c u ≢ pos 0
  pub live-rate : (u : ℕ) → u < c.live → pos 0 <ℤ rate_at c u
  pub idle : (u : ℕ) → c.live ≤ u → u < c.count → Idle (weight_at c u) (price_of c (item_of c u))
  pub sizes : (u : ℕ) → u < c.live → at c.size u ≡ pos (nat_abs (weight_at c u))
  pub rates : (u : ℕ) → u < c.live → at c.rate u ≡ rate_at c u
