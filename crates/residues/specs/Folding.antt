-- Beside a free item of weight m only what the other weights leave modulo m matters, if there is enough of the free item.
--   turned m w             whether w is nearer to the multiple of m above it than to the one below
--   swapped m w a b        a, or b if w is turned
--   folded_weight m w       how far w is from the nearer multiple
--   offset m w u           what u units of weight w weigh folded, if w is turned: those that are taken count then as left, and the other way round
--   offset_at f w u k, folded_weight_at f w k, swapped_at f w a b k    the same of item k, folded by item f, which keeps its weight
--   folded_range_at f n u k  the ranges, but n for item f
--   folded_capacity f I C   the capacity and all offsets
--   folded f C I           the items folded by item f; of this there are as many units as the folded capacity can hold
--   AbsorbsBy m u t l H C  an item of weight m and range u costs nothing; one unit more than there are of it exceeds C; and the other items weigh less than
--                          C and one unit of it, but enough for the folding to be worth while: H is the weight of all units
--   Absorbs I f C          so does item f
use Rattle.std.specs.Prelude.{◌≡◌, Bool, cond, ℕ, suc, ◌+◌, ◌-◌, ◌*◌, ◌/◌, ◌%◌, ◌≤◌, ◌<◌, ltb, eqb}
use Rattle.scales.specs.Filling.{Items, sum, heft}

abbrev pub turned : ℕ → ℕ → Bool
turned m w = ltb (m - w % m) (w % m)

abbrev pub swapped : ℕ → ℕ → ℕ → ℕ → ℕ
swapped m w a b = cond (turned m w) b a

abbrev pub folded_weight : ℕ → ℕ → ℕ
folded_weight m w = swapped m w (w % m) (m - w % m)

abbrev pub offset : ℕ → ℕ → ℕ → ℕ
offset m w u = swapped m w 0 ((m - w % m) * u)

abbrev pub offset_at : ℕ → (ℕ → ℕ) → (ℕ → ℕ) → ℕ → ℕ
offset_at f w u k = offset (w f) (w k) (u k)

abbrev pub folded_weight_at : ℕ → (ℕ → ℕ) → ℕ → ℕ
folded_weight_at f w k = cond (eqb k f) (w f) (folded_weight (w f) (w k))

abbrev pub swapped_at : ℕ → (ℕ → ℕ) → (ℕ → ℕ) → (ℕ → ℕ) → ℕ → ℕ
swapped_at f w a b k = swapped (w f) (w k) (a k) (b k)

abbrev pub folded_range_at : ℕ → ℕ → (ℕ → ℕ) → ℕ → ℕ
folded_range_at f n u k = cond (eqb k f) n (u k)

abbrev pub folded_capacity : ℕ → Items → ℕ → ℕ
folded_capacity f I C = C + sum I.count (offset_at f I.weight I.range)

abbrev pub folded : ℕ → ℕ → Items → Items
folded f C I = record {
  count = I.count;
  weight = folded_weight_at f I.weight;
  range = folded_range_at f (folded_capacity f I C / I.weight f) I.range;
  taken = swapped_at f I.weight I.taken I.left;
  left = swapped_at f I.weight I.left I.taken;
}

pub record AbsorbsBy (m u t l H C : ℕ) : Type 0 where
  pub some : 1 ≤ m
  pub free-taken : t ≡ 0
  pub free-left : l ≡ 0
  pub worth : m * u + 16384 ≤ H
  pub reaches : C < m * suc u
  pub carries : H < C + m * suc u

pub record Absorbs (I : Items) (f C : ℕ) : Type 0 where
  pub inside : f < I.count
  pub by : AbsorbsBy (I.weight f) (I.range f) (I.taken f) (I.left f) (heft I) C
