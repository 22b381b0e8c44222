-- Amounts within ranges, counted from the least ones on.
--   Shifted p r y z     y is z more than the least amounts, within the ranges
-- shifted_of, shifted-to: such a z, such a y. shifted-inside: y is inside the ranges, shifted-within: z is no more than there is.
-- shifted-load, shifted-cost: what both weigh and cost.  offset-least: nothing within the ranges costs less than the offset, and low-least: nor weighs
-- less than the least amounts.
use mathlib.Core.Path.{◌≡◌, refl, ◌∙◌}
use Prim.Native.Nat.{ℕ, ◌+◌, ◌*◌, ◌-◌, ◌≤◌, ◌<◌}
use native.Mathlib.Omega.{arith}
use lib.ListN.{length}
use Rattle.scales.specs.Filling.{load, cost, Within}
use Rattle.scales.proofs.Sums.{sum-cong, sum-add}
use Rattle.fillings.specs.declared.Parts.{Parts}
use Rattle.fillings.specs.declared.Ranges.{Ranges}
use Rattle.fillings.specs.Ranges.{num, items_in, Inside, Among, offset_at, offset_of, boxed}

pub record Shifted (r : Ranges) (y z : ℕ → ℕ) : Type 0 where
  pub up : (j : ℕ) → j < 17 → y j ≡ num r.low j + z j
  pub few : (j : ℕ) → j < 17 → z j ≤ num r.wide j

abbrev pub from_low : Ranges → (ℕ → ℕ) → ℕ → ℕ
from_low r y j = y j - num r.low j

pub shifted_of : (r : Ranges) (y : ℕ → ℕ) → Inside r y → Shifted r y (from_low r y)
shifted_of r y h = record { up = λ j l. omega (arith, (h j l).0); few = λ j l. omega (arith, (h j l).0, (h j l).1) }

pub shifted-inside : (r : Ranges) (y z : ℕ → ℕ) → Shifted r y z → Inside r y
shifted-inside r y z h j l = (omega (arith, h.up j l), omega (arith, h.up j l, h.few j l))

module _ (p : Parts) (r : Ranges) (long : length p.weight ≡ 17) (among : Among p r) where
  in-17 : (j : ℕ) → j < length p.weight → j < 17
  in-17 j l = omega (arith, long)

  pub shifted-to : (z : ℕ → ℕ) → Within (boxed p r) z → Shifted r (λ j. num r.low j + z j) z
  shifted-to z h = record { up = λ j l. refl; few = λ j l. h j (omega (arith, long)) }

  module _ (y z : ℕ → ℕ) (h : Shifted r y z) where
    pub shifted-within : Within (boxed p r) z
    shifted-within j l = h.few j (in-17 j l)

    pub whole-within : Within (items_in p) y
    whole-within j l = omega (arith, h.up j (in-17 j l), h.few j (in-17 j l), among j (in-17 j l))

    pub shifted-load : load (items_in p) y ≡ load (items_in p) (num r.low) + load (boxed p r) z
    shifted-load = sum-cong (length p.weight) _ (λ j. num p.weight j * num r.low j + num p.weight j * z j)
        (λ j l. one (num p.weight j) (y j) (num r.low j) (z j) (h.up j (in-17 j l)))
        ∙ sum-add (length p.weight) (λ j. num p.weight j * num r.low j) (λ j. num p.weight j * z j)
      where
        one : (w y a z : ℕ) → y ≡ a + z → w * y ≡ w * a + w * z
        one w y a z e = rw e (omega arith)

    pub shifted-cost : cost (items_in p) y ≡ offset_of p r + cost (boxed p r) z
    unfolding offset_of
    shifted-cost = sum-cong (length p.weight) _ (λ j. offset_at p r j + (num p.taken j * z j + num p.left j * (num r.wide j - z j)))
        (λ j l. one (num p.taken j) (num p.left j) (num p.range j) (y j) (num r.low j) (z j) (num r.wide j) (h.up j (in-17 j l))
        (h.few j (in-17 j l)) (among j (in-17 j l)))
        ∙ sum-add (length p.weight) (offset_at p r) (λ j. num p.taken j * z j + num p.left j * (num r.wide j - z j))
      where
        one : (t l u y a z w : ℕ) → y ≡ a + z → z ≤ w → a + w ≤ u → t * y + l * (u - y) ≡ (t * a + l * (u - (a + w))) + (t * z + l * (w - z))
        one t l u y a z w e h k =
            let parts : u - y ≡ (u - (a + w)) + (w - z) = omega arith in
            rw (parts, e) (omega arith)

  pub offset-least : (y : ℕ → ℕ) → Inside r y → offset_of p r ≤ cost (items_in p) y
  offset-least y h = omega (arith, shifted-cost y (from_low r y) (shifted_of r y h))

  pub low-least : (y : ℕ → ℕ) → Inside r y → load (items_in p) (num r.low) ≤ load (items_in p) y
  low-least y h = omega (arith, shifted-load y (from_low r y) (shifted_of r y h))
