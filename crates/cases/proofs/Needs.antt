-- Needs over a common divisor, and lists of needs.
--   KeepsNeedᴰ D n N        the point N / D keeps the need n;  KeepsNeedsᴰ D ns N: each of ns
--   FeasibleNeedsᴰ s ns D N   feasible for s, and each of ns is kept
-- every-none, every-also: of no need, of one more.
-- needs-agree: amounts of items that are not named play no part.
use mathlib.Core.Path.{◌≡◌, sym, subst}
use mathlib.Core.List.{List, [], ◌∷◌}
use Prim.Native.Nat.{ℕ, ◌≤◌}
use native.Mathlib.Omega.{arith}
use lib.IntN.{ℤ, pos, ◌*ℤ◌}
use lib.ListN.{length}
use lib.Signed.{◌≤ℤ◌, ◌<ℤ◌}
use Rattle.knapsack.proofs.Common.{Feasibleᴰ}
use Rattle.knapsack.specs.Meaning.{Instance}
use Rattle.model.specs.declared.Need.{Need}
use Rattle.model.specs.Needs.{In, here, there, Every}

-- ---- lists of needs

in_some : {n : Need} {ns : List Need} → In n ns → 1 ≤ length ns
in_some here = omega arith
in_some (there i) = omega arith

pub every-none : (P : Need → Type 0) → Every P []
every-none P n i = absurd (nought (in_some i))
  where
    nought : 1 ≤ 0 → ⊥
    nought l = omega arith

pub every-also : {P : Need → Type 0} {n : Need} {ns : List Need} → P n → Every P ns → Every P (n ∷ ns)
every-also p h m here = p
every-also p h m (there i) = h m i

-- ---- needs that a point keeps

abbrev pub KeepsNeedᴰ : ℕ → Need → (ℕ → ℤ) → Type 0
KeepsNeedᴰ D n N = pos 0 <ℤ N n.item → (pos 1 *ℤ pos D) ≤ℤ N n.cover

abbrev pub KeepsNeedsᴰ : ℕ → List Need → (ℕ → ℤ) → Type 0
KeepsNeedsᴰ D ns N = Every (λ n. KeepsNeedᴰ D n N) ns

pub record FeasibleNeedsᴰ (s : Instance) (ns : List Need) (D : ℕ) (N : ℕ → ℤ) : Type 0 where
  pub plain : Feasibleᴰ s D N
  pub kept : KeepsNeedsᴰ D ns N

-- amounts of items that no need names play no part
pub needs-agree : (D : ℕ) (N M : ℕ → ℤ) (ns : List Need) → Every (λ n. (N n.item ≡ M n.item) × (N n.cover ≡ M n.cover)) ns → KeepsNeedsᴰ D ns N
    → KeepsNeedsᴰ D ns M
needs-agree D N M ns a h n i m = subst (λ z. (pos 1 *ℤ pos D) ≤ℤ z) (a n i).1 (h n i (subst (λ z. pos 0 <ℤ z) (sym (a n i).0) m))
