-- The meaning over ONE common divisor D ≥ 1: the amount of item k is N k / D, and every condition is one of integers.
--   Feasibleᴰ s D N    N / D is feasible
--   weighsᴰ, valueᴰ    its weight and value, times D
--   Optimalᴰ s E M     M / E is feasible, and no feasible N / D at any D is worth more
-- Bridge proves that this is the meaning.
use mathlib.Core.Path.{◌≡◌}
use Prim.Native.Nat.{ℕ, ◌≤◌, ◌<◌}
use lib.IntN.{ℤ, pos, ◌*ℤ◌}
use lib.Signed.{◌≤ℤ◌}
use Rattle.arith.specs.Sum.{sum}
use Rattle.std.specs.Prelude.{Option, None, Some}
use Rattle.knapsack.specs.declared.Mark.{Mark}
use Rattle.knapsack.specs.declared.Mark.TheVariants.{Integer, Continuous}
use Rattle.knapsack.specs.declared.Item.{Item}
use Rattle.knapsack.specs.Meaning.{Instance, weights, prices}

abbrev pub KeepsMarkᴰ : ℕ → Mark → ℤ → Type 0
KeepsMarkᴰ D Integer n = (m : ℤ) × (n ≡ m *ℤ pos D)
KeepsMarkᴰ D Continuous n = Unit {0}

abbrev pub KeepsLowerᴰ : ℕ → Option ℤ → ℤ → Type 0
KeepsLowerᴰ D None n = Unit {0}
KeepsLowerᴰ D (Some l) n = (l *ℤ pos D) ≤ℤ n

abbrev pub KeepsUpperᴰ : ℕ → Option ℤ → ℤ → Type 0
KeepsUpperᴰ D None n = Unit {0}
KeepsUpperᴰ D (Some u) n = n ≤ℤ (u *ℤ pos D)

pub record Keepsᴰ (D : ℕ) (i : Item) (n : ℤ) : Type 0 where
  pub marked : KeepsMarkᴰ D i.mark n
  pub above : KeepsLowerᴰ D i.lower n
  pub below : KeepsUpperᴰ D i.upper n

abbrev pub weighsᴰ : Instance → (ℕ → ℤ) → ℤ
weighsᴰ s N = sum s.count (λ k. weights s k *ℤ N k)

abbrev pub valueᴰ : Instance → (ℕ → ℤ) → ℤ
valueᴰ s N = sum s.count (λ k. prices s k *ℤ N k)

pub record Feasibleᴰ (s : Instance) (D : ℕ) (N : ℕ → ℤ) : Type 0 where
  pub keeps : (k : ℕ) → k < s.count → Keepsᴰ D (s.item k) (N k)
  pub fits : weighsᴰ s N ≤ℤ (s.capacity *ℤ pos D)

pub record Optimalᴰ (s : Instance) (E : ℕ) (M : ℕ → ℤ) : Type 0 where
  pub feasible : Feasibleᴰ s E M
  pub highest : (D : ℕ) (N : ℕ → ℤ) → 1 ≤ D → Feasibleᴰ s D N → (valueᴰ s N *ℤ pos E) ≤ℤ (valueᴰ s M *ℤ pos D)
