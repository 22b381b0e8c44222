-- How large the numbers of a filling get.
-- light-within, heavy-within: an end is in the range of ends; corner-weight-within, corner-worth-within: sums of light ends.
-- fill-sized: a filling's numbers.
use mathlib.Core.Bool.{Bool, true, false, cond}
use Prim.Native.Nat.{ℕ, zero, suc, ◌+◌, ◌*◌, ◌≤◌}
use native.Mathlib.Omega.{arith}
use lib.IntN.{ℤ, pos, ◌*ℤ◌}
use lib.Signed.{lt_z}
use Rattle.arith.specs.Limits.{farthest, most_room, most_worth}
use Rattle.arith.specs.Sum.{sum}
use Rattle.arith.specs.Within.{Within}
use Rattle.arith.proofs.Parts.{within-mul, within-add, within-sub, within_more}
use Rattle.greedy.specs.declared.Columns.{Columns}
use Rattle.greedy.specs.declared.Ends.{Ends}
use Rattle.greedy.specs.declared.Fill.{Fill}
use Rattle.greedy.specs.Fill.{at, weight_of, price_of, lightest, light_of, heavy_of, width, corner_weight, corner_worth, begun, raised, fill_from, fill}
use Rattle.greedy.specs.Sized.{Sized, SizedFill}

-- one of two numbers in a range is in it
pub cond-within : {m : ℕ} {x y : ℤ} (b : Bool) → Within m x → Within m y → Within m (cond b x y)
cond-within true h k = h
cond-within false h k = k

pub lightest-within : {m : ℕ} (a c l u : ℤ) → Within m l → Within m u → Within m (lightest a c l u)
lightest-within a c l u h k = cond-within (lt_z (pos 0) a) h (cond-within (lt_z a (pos 0)) k (cond-within (lt_z (pos 0) c) k h))

-- n terms of a size
sum-within : (m n : ℕ) (f : ℕ → ℤ) → ((k : ℕ) → Within m (f k)) → Within (n * m) (sum n f)
sum-within m zero f h = record { above = omega arith; below = omega arith }
sum-within m (suc n) f h = within_more (omega arith) (within-add (sum-within m n f h) (h n))

module _ (c : Columns) (e : Ends) (z : Sized c e) where
  pub light-within : (k : ℕ) → Within farthest (light_of c e k)
  light-within k = lightest-within (weight_of c k) (price_of c k) (at e.lo k) (at e.hi k) (z.ends.lo-in k) (z.ends.hi-in k)

  pub heavy-within : (k : ℕ) → Within farthest (heavy_of c e k)
  heavy-within k = cond-within (lt_z (weight_of c k) (pos 0)) (z.ends.lo-in k) (z.ends.hi-in k)

  pub width-within : (u : ℕ) → Within 600000000 (width c e u)
  width-within u = within-sub (z.ends.hi-in _) (z.ends.lo-in _)

  pub corner-weight-within : (n : ℕ) → n ≤ 16 → Within 4800000000000 (corner_weight c e n)
  corner-weight-within n h =
      within_more (omega arith) (sum-within 300000000000 n (λ k. weight_of c k *ℤ light_of c e k) (λ k. within-mul (z.columns.weights-in k) (light-within k)))

  pub corner-worth-within : (n : ℕ) → n ≤ 16 → Within 48000000000000 (corner_worth c e n)
  corner-worth-within n h =
      within_more (omega arith) (sum-within 3000000000000 n (λ k. price_of c k *ℤ light_of c e k) (λ k. within-mul (z.columns.prices-in k) (light-within k)))

  -- a filling after some ranks
  abbrev Room : ℕ → ℤ → Type 0
  Room t r = Within (5000000000000 + t * 600000000000) r

  abbrev Worth : ℕ → ℤ → Type 0
  Worth t w = Within (48000000000000 + t * 6000000000000) w

  from-sized : (n : ℕ) (f : Fill) → f.at + n ≤ 16 → Room f.at f.room → Worth f.at f.worth → Within most_room (fill_from c e n f).room
      × Within most_worth (fill_from c e n f).worth
  unfolding fill_from
  from-sized zero f h r w = (within_more (omega arith) r, within_more (omega arith) w)
  from-sized (suc n) f h r w = go (lt_z f.room (at c.size f.at *ℤ width c e f.at)) (λ r' w'. from-sized n (raised c e f) (omega arith) r' w')
    where
      go : (b : Bool) → (Room (f.at + 1) (raised c e f).room → Worth (f.at + 1) (raised c e f).worth → Within most_room (fill_from c e n (raised c e f)).room
          × Within most_worth (fill_from c e n (raised c e f)).worth)
          → Within most_room (cond b f (fill_from c e n (raised c e f))).room × Within most_worth (cond b f (fill_from c e n (raised c e f))).worth
      go true ih = (within_more (omega arith) r, within_more (omega arith) w)
      go false ih = ih (within_more (omega arith) (within-sub r (within-mul (z.columns.sizes-in f.at) (width-within f.at))))
          (within_more (omega arith) (within-add w (within-mul (z.columns.rates-in f.at) (width-within f.at))))

  pub fill-sized : SizedFill c (fill c e)
  unfolding fill
  fill-sized = go (lt_z (begun c e).room (pos 0))
    where
      room : Room 0 (begun c e).room
      room = within_more (omega arith) (within-sub z.columns.capacity-in (corner-weight-within c.count z.columns.few))

      worth : Worth 0 (begun c e).worth
      worth = within_more (omega arith) (corner-worth-within c.count z.columns.few)

      go : (b : Bool) → SizedFill c (cond b (begun c e) (fill_from c e c.live (begun c e)))
      go true = record { columns = z.columns; room_in = within_more (omega arith) room; worth-in = within_more (omega arith) worth }
      go false = let h = from-sized c.live (begun c e) (omega (arith, z.columns.live-few)) room worth in
          record { columns = z.columns; room_in = h.0; worth-in = h.1 }
