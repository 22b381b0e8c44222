-- Which part absorbs the others.
--   Barren I from C k      none before item k does, from one on
-- barren-first, barren-next: one after the other.
use mathlib.Core.Path.{◌≡◌, subst}
use Prim.Native.Nat.{ℕ, ◌+◌, ◌≤◌, ◌<◌}
use native.Mathlib.Omega.{arith}
use native.Mathlib.Decide.{ℕ_discrete}
use Rattle.scales.specs.Filling.{Items}
use Rattle.residues.specs.Folding.{Absorbs}

abbrev pub Barren : Items → ℕ → ℕ → ℕ → Type 0
Barren I from C k = (j : ℕ) → from ≤ j → j < k → Absorbs I j C → ⊥

pub barren-first : {I : Items} (from C : ℕ) → Barren I from C from
barren-first from C j h l a = absurd (omega arith)

pub barren-next : {I : Items} {from C k : ℕ} → Barren I from C k → (Absorbs I k C → ⊥) → Barren I from C (k + 1)
barren-next {I} {from} {C} {k} b d j h l a = go (ℕ_discrete j k)
  where
    go : Dec (j ≡ k) → ⊥
    go (yes e) = d (subst (λ i. Absorbs I i C) e a)
    go (no n) = b j h (omega arith) a
