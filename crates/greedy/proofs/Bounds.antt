-- How large a filling's bound is, and that it can be compared.
use mathlib.Core.Path.{◌≡◌, refl}
use mathlib.Core.Bool.{Bool, true, false, cond}
use Prim.Native.Nat.{ℕ, ◌*◌, ◌/◌, ◌≤◌, ◌<◌}
use native.Mathlib.Nat.{div-le_self, mod-lt, mul-le-mul}
use native.Mathlib.Omega.{arith}
use lib.Dec.{ltb}
use lib.IntN.{ℤ, pos, nat_abs}
use lib.Signed.{◌<ℤ◌}
use borrow.Author.Tests.{ltb-true}
use Rattle.arith.specs.Within.{Within}
use Rattle.arith.specs.Mixed.{Proper}
use Rattle.arith.proofs.Integers.{split, zed}
use Rattle.arith.proofs.Parts.{within-add, within_more, within-abs}
use Rattle.greedy.specs.declared.Columns.{Columns}
use Rattle.greedy.specs.declared.Fill.{Fill}
use Rattle.greedy.specs.Fill.{at, size_of, rate_of, shared_by, bound}
use Rattle.greedy.specs.Sized.{SizedFill}

-- what is above 0 has a size
pub above_zero : (z : ℤ) → pos 0 <ℤ z → 0 < nat_abs z
above_zero = split _ (λ a b. simp zed (omega arith))

-- a room's share can be compared
pub shared-proper : (f : Fill) (s p : ℕ) → 0 < s → s ≤ 1000 → Proper (shared_by f s p)
shared-proper f s p l few = record { low = mod-lt (p * nat_abs f.room) l; few = few }

module _ (c : Columns) (f : Fill) (z : SizedFill c f) where
  pub bound-proper : Proper (bound c f)
  unfolding bound
  bound-proper = go (ltb f.at c.live) refl
    where
      go : (b : Bool) → ltb f.at c.live ≡ b → Proper (cond b (shared_by f (size_of c f) (rate_of c f)) (record { whole = f.worth; part = 0; parts = 1 }))
      go true h = shared-proper f (size_of c f) (rate_of c f) (z.columns.live-sizes f.at (ltb-true f.at c.live h))
          (within-abs (at c.size f.at) (z.columns.sizes-in f.at))
      go false h = record { low = omega arith; few = omega arith }

  pub bound-within : Within 201000000000000000 (bound c f).whole
  unfolding bound
  bound-within = go (ltb f.at c.live)
    where
      product : rate_of c f * nat_abs f.room ≤ 200000000000000000
      product = mul-le-mul (within-abs (at c.rate f.at) (z.columns.rates-in f.at)) (within-abs f.room z.room_in)

      share-within : Within 200000000000000000 (pos ((rate_of c f * nat_abs f.room) / size_of c f))
      share-within = record { above = omega (arith, div-le_self (rate_of c f * nat_abs f.room) (size_of c f), product); below = omega arith }

      go : (b : Bool) → Within 201000000000000000 (cond b (shared_by f (size_of c f) (rate_of c f)) (record { whole = f.worth; part = 0; parts = 1 })).whole
      go true = within_more (omega arith) (within-add z.worth-in share-within)
      go false = within_more (omega arith) z.worth-in
