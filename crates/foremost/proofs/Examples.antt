-- Two boxes whose order is Tied, and their first points: a guard that the theorem says something.
--   two             columns of two items, the second filled before the first
--   even            room 3, two items of weight 1 and price 1, both 0 .. 5: the first point is 0, 3
--   sinking         room 1, weight -1 and price 0, 0 .. 5, then weight 2 and price 1, 0 .. 1: the first point is 1, 1
use mathlib.Core.Path.{◌≡◌, refl}
use mathlib.Core.List.{[], ◌∷◌}
use mathlib.Core.Logic.{◌≢◌, inl, inr}
use Prim.Native.Nat.{ℕ, zero, suc, ◌<◌}
use native.Mathlib.Omega.{arith}
use lib.IntN.{ℤ, pos, negsuc, nat_abs}
use lib.ListN.{get_or}
use lib.Signed.{lt_z_yes}
use Rattle.arith.specs.Signs.{times_sign}
use Rattle.greedy.specs.declared.Columns.{Columns}
use Rattle.greedy.specs.declared.Ends.{Ends}
use Rattle.greedy.specs.Fill.{at, fill, fill_from, bound}
use Rattle.greedy.specs.Ordered.{weight_at, rate_at}
use Rattle.foremost.specs.Tied.{Falls, rising, Live, worth, sinks, Tied}
use Rattle.foremost.proofs.Filling.{parts, filling}

-- weights a, b and prices c, d
abbrev two : ℤ → ℤ → ℤ → ℤ → ℤ → Columns
two a b c d room = record {
  weight = a ∷ b ∷ [];
  price = c ∷ d ∷ [];
  order = 1 ∷ 0 ∷ [];
  rank = 1 ∷ 0 ∷ [];
  size = pos (nat_abs b) ∷ pos (nat_abs a) ∷ [];
  rate = times_sign b d ∷ times_sign a c ∷ [];
  live = 2;
  count = 2;
  capacity = room;
}

-- what holds of 0 and 1 holds of the first two
both : (P : ℕ → Type 0) → P 0 → P 1 → (u : ℕ) → u < 2 → P u
both P x y zero l = x
both P x y (suc zero) l = y
both P x y (suc (suc u)) l = absurd (omega arith)

module _ (a b c d room : ℤ) (na : a ≢ pos 0) (nb : b ≢ pos 0) (la : Live a (times_sign a c)) (lb : Live b (times_sign b d)) (f : Falls (two a b c d room) 0 1)
  where
    two-tied : Tied (two a b c d room)
    two-tied = record {
      item_in = both (λ u. get_or (1 ∷ 0 ∷ []) u 0 < 2) (omega arith) (omega arith);
      rank-in = both (λ u. get_or (1 ∷ 0 ∷ []) u 0 < 2) (omega arith) (omega arith);
      item-rank = both (λ u. get_or (1 ∷ 0 ∷ []) (get_or (1 ∷ 0 ∷ []) u 0) 0 ≡ u) refl refl;
      rank-item = both (λ u. get_or (1 ∷ 0 ∷ []) (get_or (1 ∷ 0 ∷ []) u 0) 0 ≡ u) refl refl;
      falls = falls;
      live_in = omega arith;
      live-weight = both (λ u. weight_at (two a b c d room) u ≢ pos 0) nb na;
      live-rate = both (λ u. Live (weight_at (two a b c d room) u) (rate_at (two a b c d room) u)) lb la;
      resting = λ u l m. absurd (omega arith);
      sizes = both (λ u. at (two a b c d room).size u ≡ pos (nat_abs (weight_at (two a b c d room) u))) refl refl;
    }
      where
        falls : (u v : ℕ) → u < v → v < 2 → weight_at (two a b c d room) u ≢ pos 0 → weight_at (two a b c d room) v ≢ pos 0 → Falls (two a b c d room) u v
        falls zero (suc zero) l m nu nv = f
        falls zero zero l m nu nv = absurd (omega arith)
        falls zero (suc (suc v)) l m nu nv = absurd (omega arith)
        falls (suc u) v l m nu nv = absurd (omega arith)

some : (n : ℕ) → pos (suc n) ≢ pos 0
some n h = let z : suc n ≡ 0 = cc in absurd (omega arith)

below : (n : ℕ) → negsuc n ≢ pos 0
below n h = absurd (let z : ◌≡◌ {A = ℕ} 0 1 = cc in omega arith)

-- ---- two of one ratio

abbrev even : Columns
even = two (pos 1) (pos 1) (pos 1) (pos 1) (pos 3)

abbrev five : Ends
five = record { lo = pos 0 ∷ pos 0 ∷ []; hi = pos 5 ∷ pos 5 ∷ [] }

even-tied : Tied even
even-tied = two-tied (pos 1) (pos 1) (pos 1) (pos 1) (pos 3) (some 0) (some 0) (worth (lt_z_yes tt)) (worth (lt_z_yes tt))
    (inr (refl, rising (lt_z_yes tt) (lt_z_yes tt) (omega arith)))

even-first : (filling even five 0 ≡ pos 0) × (filling even five 1 ≡ pos 3) × (parts even five ≡ 1)
unfolding fill fill_from bound
even-first = (refl, refl, refl)

-- ---- one that falls and is worth nothing

abbrev sinking : Columns
sinking = two (negsuc 0) (pos 2) (pos 0) (pos 1) (pos 1)

abbrev ends : Ends
ends = record { lo = pos 0 ∷ pos 0 ∷ []; hi = pos 5 ∷ pos 1 ∷ [] }

sinking-tied : Tied sinking
sinking-tied = two-tied (negsuc 0) (pos 2) (pos 0) (pos 1) (pos 1) (below 0) (some 1) (sinks (lt_z_yes tt) refl) (worth (lt_z_yes tt)) (inl (lt_z_yes tt))

sinking-first : (filling sinking ends 0 ≡ pos 1) × (filling sinking ends 1 ≡ pos 1) × (parts sinking ends ≡ 1)
unfolding fill fill_from bound
sinking-first = (refl, refl, refl)
