-- The value of a filling as one number of parts.
-- bound-joins: it fits; joined-within: and so does the number.
-- begun-within: the room of the light ends is in range.
use mathlib.Core.Path.{◌≡◌}
use mathlib.Core.Bool.{Bool, true, false, cond}
use Prim.Native.Nat.{ℕ, ◌*◌, ◌/◌, ◌≤◌}
use native.Mathlib.Nat.{div-add-mod, mul-le-mul}
use native.Mathlib.Omega.{arith}
use lib.Dec.{ltb}
use lib.IntN.{ℤ, pos, nat_abs, ◌+ℤ◌, ◌*ℤ◌}
use Rattle.arith.specs.Within.{Within}
use Rattle.arith.specs.declared.Mixed.{Mixed}
use Rattle.arith.proofs.Integers.{split2, zed}
use Rattle.arith.proofs.Mixes.{over}
use Rattle.arith.proofs.Parts.{within-add, within-sub, within-mul, within_more, within-abs, abs-within}
use Rattle.greedy.specs.declared.Columns.{Columns}
use Rattle.greedy.specs.declared.Ends.{Ends}
use Rattle.greedy.specs.declared.Fill.{Fill}
use Rattle.greedy.specs.Fill.{at, begun, size_of, rate_of, shared_by, bound}
use Rattle.greedy.specs.Sized.{Sized, SizedFill}
use Rattle.greedy.proofs.Sizes.{corner-weight-within}
use Rattle.greedy.proofs.Bounds.{bound-proper, bound-within}
use Rattle.solver.specs.Outcomes.{Joinable}

pub joined-within : (v : Mixed) → Joinable v → Within 500000000000001000 (over v)
joined-within v h = within-add h.product-in (abs-within (pos v.part) h.part_in)

module _ (c : Columns) (f : Fill) (z : SizedFill c f) where
  product-within : Within 500000000000000000 ((bound c f).whole *ℤ pos (bound c f).parts)
  unfolding bound
  product-within = go (ltb f.at c.live)
    where
      product : rate_of c f * nat_abs f.room ≤ 200000000000000000
      product = mul-le-mul (within-abs (at c.rate f.at) (z.columns.rates-in f.at)) (within-abs f.room z.room_in)

      size : Within 1000 (pos (size_of c f))
      size = abs-within (pos (size_of c f)) (within-abs (at c.size f.at) (z.columns.sizes-in f.at))

      -- the quotient times its divisor is no more than what was divided
      whole : (x s : ℕ) → x ≤ 200000000000000000 → Within 200000000000000000 (pos (x / s) *ℤ pos s)
      whole x s h = abs-within (pos (x / s) *ℤ pos s) (omega (arith, div-add-mod x s, h))

      spread : (w k : ℤ) (s : ℕ) → (w +ℤ k) *ℤ pos s ≡ w *ℤ pos s +ℤ k *ℤ pos s
      spread w k s = go w k
        where
          go : (w k : ℤ) → (w +ℤ k) *ℤ pos s ≡ w *ℤ pos s +ℤ k *ℤ pos s
          go = split2 _ (λ a b c e. simp zed (omega arith))

      go : (b : Bool) → Within 500000000000000000 ((cond b (shared_by f (size_of c f) (rate_of c f)) (record { whole = f.worth; part = 0; parts = 1 })
          ).whole *ℤ pos (cond b (shared_by f (size_of c f) (rate_of c f)) (record { whole = f.worth; part = 0; parts = 1 })).parts)
      go true = rw (spread f.worth (pos ((rate_of c f * nat_abs f.room) / size_of c f)) (size_of c f))
          (within_more (omega arith) (within-add (within-mul z.worth-in size) (whole (rate_of c f * nat_abs f.room) (size_of c f) product)))
      go false = within_more (omega arith) (within-mul z.worth-in (abs-within {n = 1} (pos 1) (omega arith)))

  pub bound-joins : Joinable (bound c f)
  bound-joins = record {
    whole_in = bound-within c f z;
    product-in = product-within;
    part_in = omega (arith, (bound-proper c f z).low, (bound-proper c f z).few);
    parts_in = (bound-proper c f z).few;
  }

pub begun-within : (c : Columns) (e : Ends) → Sized c e → Within 5000000000000 (begun c e).room
begun-within c e z = within_more (omega arith) (within-sub z.columns.capacity-in (corner-weight-within c e z c.count z.columns.few))
