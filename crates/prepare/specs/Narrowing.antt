-- How far a search of a problem without a ray has to go, and a setting that goes no farther.
--   larger a b        the larger of two numbers
--   bound_size b       a bound without sign, 0 where it is absent
--   open_weight i      the weight of an item that lacks a bound, without sign, else 0
--   grown_by m i       the greatest figures so far, with those of one item more
--   most_of p n        the greatest weight of an item that lacks a bound, and the greatest bound, of the first n items, without sign
--   own_bound i, lead_by a i
--                     how far an item's bounds lead, and how far the item leads: a farther if one is absent
--   burden_of p a n    what the first n items weigh as far as they lead
--   reach_by, reach_of p  how far the items of p lead: in weight, and in amount
--   span_by r a, span_of p k
--                     how far an item of weight a, and item k, has to go, which is enough (knapsack, proofs/Reach)
--   clamp_by l u x     x, or the nearest of l and u
--   clamp_to r x       x, or the nearest of -r and r
--   Narrowed s r t    t is s with every item's ends clamped to its span
--   Small r           no span by the reach r is beyond what stands for an absent bound
use Rattle.std.specs.Prelude.{◌≡◌, cond, ℕ, zero, suc, ◌+◌, ◌*◌, ◌/◌, ◌≤◌, ◌<◌, ltb, ℤ, pos, neg_ℤ, nat_abs, length}
use Rattle.std.specs.Int.Signed.{lt_z}
use Rattle.greedy.specs.Fill.{at, weight_of}
use Rattle.knapsack.specs.Items.{is_open}
use Rattle.knapsack.specs.Ranges.{item_at}
use Rattle.std.specs.Prelude.{Option, None, Some}
use Rattle.knapsack.specs.declared.Item.{Item}
use Rattle.knapsack.specs.declared.Problem.{Problem}
use Rattle.setting.specs.declared.Setting.{Setting}
use Rattle.setting.specs.Box.{level_at}
use Rattle.prepare.specs.declared.Most.{Most}
use Rattle.prepare.specs.declared.Reach.{Reach}

abbrev pub larger : ℕ → ℕ → ℕ
larger a b = cond (ltb a b) b a

abbrev pub bound_size : Option ℤ → ℕ
bound_size None = 0
bound_size (Some v) = nat_abs v

abbrev pub open_weight : Item → ℕ
open_weight i = cond (is_open i) (nat_abs i.weight) 0

abbrev pub grown_by : Most → Item → Most
grown_by m i = record { weight = larger m.weight (open_weight i); bound = larger (larger m.bound (bound_size i.lower)) (bound_size i.upper) }

unfoldable pub most_of : Problem → ℕ → Most
most_of p zero = record { weight = 0; bound = 0 }
most_of p (suc n) = grown_by (most_of p n) (item_at p n)

-- how far an item leads: to its bounds, and a farther if it lacks one
abbrev pub own_bound : Item → ℕ
own_bound i = larger (bound_size i.lower) (bound_size i.upper)

abbrev pub lead_by : ℕ → Item → ℕ
lead_by a i = own_bound i + cond (is_open i) a 0

-- what the first n items weigh as far as they lead
unfoldable pub burden_of : Problem → ℕ → ℕ → ℕ
burden_of p a zero = 0
burden_of p a (suc n) = burden_of p a n + nat_abs (item_at p n).weight * lead_by a (item_at p n)

abbrev pub reach_by : ℤ → Most → ℕ → Reach
reach_by b m t = record { weight = nat_abs b + t + m.weight; amount = m.bound + m.weight }

unfoldable pub reach_of : Problem → Reach
reach_of p = reach_by p.capacity (most_of p p.count) (burden_of p (most_of p p.count).weight p.count)

-- the amounts of an item of weight a
abbrev pub span_by : Reach → ℤ → ℕ
span_by r a = r.amount + r.weight / larger 1 (nat_abs a) + 1

abbrev pub span_of : Problem → ℕ → ℕ
span_of p k = span_by (reach_of p) (item_at p k).weight

abbrev pub clamp_by : ℤ → ℤ → ℤ → ℤ
clamp_by l u x = cond (lt_z x l) l (cond (lt_z u x) u x)

abbrev pub clamp_to : ℕ → ℤ → ℤ
clamp_to r x = clamp_by (neg_ℤ (pos r)) (pos r) x

pub record Narrowed (s : Setting) (r : Reach) (t : Setting) : Type 0 where
  pub cols : t.cols ≡ s.cols
  pub level : t.level ≡ s.level
  pub levels : t.levels ≡ s.levels
  pub lattice : t.lattice ≡ s.lattice
  pub lo : (k : ℕ) → k < 16 → at t.ends.lo k ≡ clamp_to (span_by r (weight_of s.cols k)) (at s.ends.lo k)
  pub hi : (k : ℕ) → k < 16 → at t.ends.hi k ≡ clamp_to (span_by r (weight_of s.cols k)) (at s.ends.hi k)
  pub low : (d : ℕ) → d < s.levels → at t.low d ≡ at t.ends.lo (level_at s d)
  pub high : (d : ℕ) → d < s.levels → at t.high d ≡ at t.ends.hi (level_at s d)
  pub lengths : (length t.ends.lo ≡ 16) × (length t.ends.hi ≡ 16)

-- no span of a weight in range is beyond what stands for an absent bound
pub record Small (r : Reach) : Type 0 where
  pub weight-in : r.weight ≤ 280000000
  pub amount-in : r.amount ≤ 11000
