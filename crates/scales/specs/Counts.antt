-- How many cells a call writes. K is the capacity that is left, R the weight of all units that are still to come.
--   live_of d w n K         how many cells are live after d passes of a unit of weight w, of n before: none is beyond K
--   pass_cells d w n K R    how many cells these write: no load so low that all units to come could not fill K
--   live_at I j n K         how many cells are live after the digits of the first j ranges
--   heft_at I j R           what the units weigh that come after these
--   fill_cells I j n K R    how many cells these write
--   thin_of n s bit         how many of n cells stay live when every s-th is kept, from bit on
--   cells_of cap s I n K R  how many cells s scales write
--   ScalesOf u s           s is the first scale at which nothing is left of the range u, of at most 64
--   ScalesOfAll us s       the same of all ranges
--   Takes cap I C n        n cells are written in all the scales that the items have
use Rattle.std.specs.Prelude.{◌≡◌, List, ℕ, zero, suc, ◌+◌, ◌-◌, ◌*◌, ◌/◌, ◌%◌, ◌≤◌, ◌<◌, min, length, get_or}
use Rattle.scales.specs.Digits.{digit, rest_at}
use Rattle.scales.specs.Filling.{Items, heft, stride, next}

unfoldable pub live_of : ℕ → ℕ → ℕ → ℕ → ℕ
live_of zero w n K = n
live_of (suc d) w n K = min (live_of d w n K + w) (suc K)

unfoldable pub pass_cells : ℕ → ℕ → ℕ → ℕ → ℕ → ℕ
pass_cells zero w n K R = 0
pass_cells (suc d) w n K R = pass_cells d w n K R + (live_of (suc d) w n K - min (K - (R - suc d * w)) (live_of d w n K))

unfoldable pub live_at : Items → ℕ → ℕ → ℕ → ℕ
live_at I zero n K = n
live_at I (suc j) n K = live_of (digit (I.range j)) (I.weight j) (live_at I j n K) K

unfoldable pub heft_at : Items → ℕ → ℕ → ℕ
heft_at I zero R = R
heft_at I (suc j) R = heft_at I j R - digit (I.range j) * I.weight j

unfoldable pub fill_cells : Items → ℕ → ℕ → ℕ → ℕ → ℕ
fill_cells I zero n K R = 0
fill_cells I (suc j) n K R = fill_cells I j n K R + pass_cells (digit (I.range j)) (I.weight j) (live_at I j n K) K (heft_at I j R)

abbrev pub thin_of : ℕ → ℕ → ℕ → ℕ
thin_of n s bit = (n + (s - 1 - bit)) / s

unfoldable pub cells_of : ℕ → ℕ → Items → ℕ → ℕ → ℕ → ℕ
cells_of cap zero I n K R = 0
cells_of cap (suc s) I n K R =
    let m = thin_of (live_at I I.count n K) (stride I) (K % stride I) in
    (fill_cells I I.count n K R + m) + cells_of cap s (next cap I) m (K / stride I) (heft_at I I.count R / stride I)

pub record ScalesOf (u s : ℕ) : Type 0 where
  pub done : rest_at s u ≡ 0
  pub soonest : (k : ℕ) → rest_at k u ≡ 0 → s ≤ k
  pub few : s ≤ 64

pub record ScalesOfAll (us : List ℕ) (s : ℕ) : Type 0 where
  pub done : (j : ℕ) → j < length us → rest_at s (get_or us j 0) ≡ 0
  pub soonest : (k : ℕ) → ((j : ℕ) → j < length us → rest_at k (get_or us j 0) ≡ 0) → s ≤ k
  pub few : s ≤ 64

pub record Takes (cap : ℕ) (I : Items) (C n : ℕ) : Type 0 where
  pub scales : ℕ
  pub done : (j : ℕ) → j < I.count → rest_at scales (I.range j) ≡ 0
  pub soonest : (k : ℕ) → ((j : ℕ) → j < I.count → rest_at k (I.range j) ≡ 0) → scales ≤ k
  pub written : n ≡ cells_of cap scales I 1 C (heft I)
