-- The figures and steps of two items that may be traded, as the code needs them.
-- sizes: what the count needs.
-- trade_small, pair_small: no step of a least pair is farther than 1000 from zero.
use Rattle.std.specs.Prelude.{Option, None, Some}
use mathlib.Core.Path.{◌≡◌, refl}
use mathlib.Core.Bool.{Bool, true, false, cond}
use Prim.Native.Nat.{ℕ, ◌≤◌, ◌*◌}
use native.Mathlib.Nat.{mul-le-mul}
use native.Mathlib.Omega.{arith}
use lib.IntN.{ℤ, pos, negsuc, nat_abs}
use borrow.Author.Tests.{ltb-true}
use Rattle.arith.specs.Gcd.{signed}
use Rattle.arith.specs.Within.{Within}
use Rattle.arith.proofs.Parts.{neg-within, within-neg}
use Rattle.knapsack.specs.declared.Item.{Item}
use Rattle.model.specs.Records.{ItemFigures}
use Rattle.domination.specs.Trades.{Sizes}
use Rattle.domination.specs.Pairs.{Fit, Traded, room_for, less_efficient, giving, taking, steps, one_way, swapped, pair_of}
use Rattle.domination.proofs.Trades.{least-trade}
use Rattle.domination.proofs.Minimal.{signs, nonzero}

-- products of a price and a weight
pub ratio-most : {x y : Item} → ItemFigures x → ItemFigures y → nat_abs x.price * nat_abs y.weight ≤ 10000000
ratio-most h k = mul-le-mul h.price-in k.weight-in

pub sizes : {x y : Item} → Traded x y → Sizes (nat_abs x.weight) (nat_abs y.weight) (nat_abs x.price) (nat_abs y.price)
sizes {x} {y} h = record {
  a-least = (nonzero _ _ (signs x h.first-fit.is-eligible)).0;
  a-most = h.first-fit.in-range.weight-in;
  b-least = (nonzero _ _ (signs y h.second-fit.is-eligible)).0;
  b-most = h.second-fit.in-range.weight-in;
  c-least = (nonzero _ _ (signs x h.first-fit.is-eligible)).1;
  c-most = h.first-fit.in-range.price-in;
  d-least = (nonzero _ _ (signs y h.second-fit.is-eligible)).1;
  d-most = h.second-fit.in-range.price-in;
}

pub trade_small : {x y : Item} → Traded x y → (giving x y ≤ 1000) × (taking x y ≤ 1000)
trade_small {x} {y} h =
    let z = sizes h in
    let l = least-trade _ _ _ _ z.b-least z.d-least (ltb-true _ _ h.direction) in
    (omega (arith, l.give-small, z.b-most), omega (arith, l.take-small, z.a-most))

pub signed-within : {m : ℕ} (w : ℤ) (n : ℕ) → n ≤ m → Within m (signed w n)
unfolding signed
signed-within (pos k) n h = record { above = h; below = omega arith }
signed-within (negsuc k) n h = neg-within n h

-- both steps of a pair, where there are any
abbrev pub Small : Option (ℤ × ℤ) → Type 0
Small None = Unit {0}
Small (Some (r, s)) = Within 1000 r × Within 1000 s

one-way-small : (x y : Item) → Traded x y → Small (one_way x y)
unfolding one_way
one-way-small x y h = go (room_for x.lower x.upper (giving x y)) (room_for y.lower y.upper (taking x y))
  where
    go : (p q : Bool) → Small (cond p (cond q (steps x y (giving x y) (taking x y)) None) None)
    go true true = let s = trade_small h in (signed-within x.weight (giving x y) s.0, within-neg _ (signed-within y.weight (taking x y) s.1))
    go true false = tt
    go false q = tt

swap-small : (q : Option (ℤ × ℤ)) → Small q → Small (swapped q)
swap-small None h = tt
swap-small (Some (r, s)) h = (h.1, h.0)

pub pair_small : (x y : Item) → Fit x → Fit y → Small (pair_of x y)
unfolding pair_of
pair_small x y fx fy = go (less_efficient x y) (less_efficient y x) refl refl
  where
    go : (p q : Bool) → less_efficient x y ≡ p → less_efficient y x ≡ q → Small (cond p (one_way x y) (cond q (swapped (one_way y x)) None))
    go true q e f = one-way-small x y (record { first-fit = fx; second-fit = fy; direction = e })
    go false true e f = swap-small (one_way y x) (one-way-small y x (record { first-fit = fy; second-fit = fx; direction = f }))
    go false false e f = tt
