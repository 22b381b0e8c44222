-- How large the figures and the keys of an accepted item are.
-- weight-within, price-within, end-within, head-start-within, key-within, reduced-within, weighted-within: of an item's figures, its ends and its keys.
use Prim.Native.Nat.{ℕ}
use native.Mathlib.Omega.{arith}
use lib.IntN.{ℤ, pos, neg_ℤ, nat_abs, ◌+ℤ◌, ◌*ℤ◌}
use Rattle.arith.specs.Limits.{farthest}
use Rattle.arith.proofs.Parts.{within_more, within-add, within-sub, within-mul, abs-within}
use Rattle.arith.specs.Within.{Within}
use Rattle.arith.proofs.Signs.{within-times-sign, times-sign-self}
use Rattle.arith.specs.Signs.{times_sign}
use Rattle.knapsack.specs.Ranges.{BoundInRange, ItemInRange}
use Rattle.std.specs.Prelude.{Option, None, Some}
use Rattle.knapsack.specs.declared.Item.{Item}
use Rattle.prepare.specs.Figures.{end_or, low_end, high_end, light_bound, head_start, reduced_price, SmallRatio}

pub zero-within : {n : ℕ} → Within n (pos 0)
zero-within = record { above = omega arith; below = omega arith }

pub size-within : {n : ℕ} (a : ℤ) → Within n a → Within n (pos (nat_abs a))
size-within a h = rw (times-sign-self a) at (within-times-sign a a h)

pub head-start-within : {n : ℕ} (b : Option ℤ) (a : ℤ) → Within n a → Within n (head_start b a)
head-start-within None a h = size-within a h
head-start-within (Some v) a h = zero-within

-- a bound, or what stands for an absent one
pub end-within : (b : Option ℤ) (d : ℤ) → BoundInRange b → Within farthest d → Within farthest (end_or b d)
end-within None d h w = w
end-within (Some v) d h w = within_more (omega arith) (abs-within v h)

module _ (i : Item) (r : ItemInRange i) where
  pub weight-within : Within 1000 i.weight
  weight-within = abs-within i.weight r.weight-in

  pub price-within : Within 10000 i.price
  price-within = abs-within i.price r.price-in

  pub low-within : Within farthest (low_end i)
  low-within = end-within i.lower (neg_ℤ (pos farthest)) r.lower_in (record { above = omega arith; below = omega arith })

  pub high-within : Within farthest (high_end i)
  high-within = end-within i.upper (pos farthest) r.upper_in (record { above = omega arith; below = omega arith })

  pub scaled-within : Within 20000000000 (pos 2000000 *ℤ times_sign i.weight i.price)
  scaled-within = within-mul {m = 2000000} {x = pos 2000000} (record { above = omega arith; below = omega arith })
      (within-times-sign i.weight i.price price-within)

  pub key-within : Within 20000001000 (pos 2000000 *ℤ times_sign i.weight i.price +ℤ head_start (light_bound i) i.weight)
  key-within = within-add scaled-within (head-start-within (light_bound i) i.weight weight-within)

  module _ (p q : ℤ) (s : SmallRatio p q) where
    pub gain-within : Within 10000000 (q *ℤ i.price)
    gain-within = within-mul s.weight price-within

    pub cost-within : Within 10000000 (p *ℤ i.weight)
    cost-within = within-mul s.price weight-within

    pub reduced-within : Within 20000000 (reduced_price p q i)
    reduced-within = within-sub gain-within cost-within

    pub branching-within : Within 20000000 (pos (nat_abs (reduced_price p q i)))
    branching-within = size-within (reduced_price p q i) reduced-within
