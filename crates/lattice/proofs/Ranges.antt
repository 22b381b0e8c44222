-- How large the figures of a descent are.
-- multiple-within, rest-within: what a divisor above 0 takes of a number, and what it leaves.
-- first-weight, first-worth: the first rung.
use mathlib.Core.Path.{◌≡◌}
use Prim.Native.Nat.{ℕ, ◌+◌}
use native.Mathlib.Omega.{arith}
use lib.IntN.{ℤ, pos, ◌-ℤ◌, ◌*ℤ◌}
use lib.Signed.{◌<ℤ◌}
use Rattle.arith.specs.Limits.{most_room}
use Rattle.arith.specs.Within.{Within}
use Rattle.arith.specs.Division.{floor_div}
use Rattle.arith.proofs.Integers.{split, zed}
use Rattle.arith.proofs.Parts.{zs, sum, diff, to-within, within-mul}
use Rattle.arith.proofs.Rounding.{floor-is, floor-within}
use Rattle.lattice.specs.declared.Lattice.{Lattice}
use Rattle.lattice.specs.Lattice.{Starts, first_rung}

pub nonzero : (d : ℤ) → pos 0 <ℤ d → d ≡ pos 0 → ⊥
nonzero = split _ (λ a b. simp zed (omega arith))

module _ {m k : ℕ} (n d : ℤ) (p : pos 0 <ℤ d) (a : Within m n) (b : Within k d) where
  pub multiple-within : Within (m + k) (d *ℤ floor_div n d)
  multiple-within =
      let f = (floor-is n d (nonzero d p)).positive p in
      let x = d *ℤ floor_div n d in
      to-within (omega (arith, zs, f.0, f.1, a.above, a.below, b.above, b.below, sum x d))
      (omega (arith, zs, f.0, f.1, a.above, a.below, b.above, b.below, sum x d))

  pub rest-within : Within k (n -ℤ d *ℤ floor_div n d)
  rest-within =
      let f = (floor-is n d (nonzero d p)).positive p in
      let x = d *ℤ floor_div n d in
      to-within (omega (arith, zs, f.0, f.1, b.above, b.below, sum x d, diff n x)) (omega (arith, zs, f.0, f.1, b.above, b.below, sum x d, diff n x))

module _ (l : Lattice) (room : ℤ) (h : Starts l room) where
  abbrev S : ℤ
  S = floor_div room l.stride

  pub strides-within : Within most_room S
  strides-within = floor-within room l.stride h.room_in

  pub first-weight : Within 20000000001000 (first_rung l room).weight
  first-weight = multiple-within room l.stride h.stride≥1 h.room_in h.tame.stride-in

  pub first-worth : Within 10000000000000000 (first_rung l room).worth
  first-worth = within-mul h.tame.slant-in (rest-within S l.gap h.tame.gap≥1 strides-within h.tame.gap-in)
