-- Needs kept by points of fractions, each amount with its own divisor, are needs kept over a common divisor.
-- bridge-need, bridge-needs: the two say the same.  inside-allowed: what a need may name is an item.
-- fractions: every point over a common divisor is a point of fractions.
use mathlib.Core.Path.{◌≡◌, subst}
use mathlib.Core.List.{List}
use mathlib.Core.Logic.{◌↔◌}
use Prim.Native.Nat.{ℕ, ◌≤◌}
use native.Mathlib.Omega.{arith}
use lib.IntN.{ℤ, pos, ◌*ℤ◌}
use lib.Signed.{◌≤ℤ◌, ◌<ℤ◌}
use Rattle.arith.proofs.Fractions.{over-int, over-frac, over-≤, over-<}
use Rattle.arith.proofs.Integers.{split, zed}
use Rattle.arith.specs.Fractions.{int, frac, ◌≤ᶠ◌}
use Rattle.knapsack.proofs.Bridge.{Reads, bridge-feasible}
use Rattle.knapsack.specs.Meaning.{Instance, Point}
use Rattle.foremost.proofs.Points.{over-<-back}
use Rattle.model.specs.declared.Need.{Need}
use Rattle.model.specs.Needs.{Every, Allowed, KeepsNeed, FeasibleNeeds, Inside}
use Rattle.cases.proofs.Needs.{KeepsNeedᴰ, FeasibleNeedsᴰ}

pub bridge-need : (s : Instance) (D : ℕ) (x : Point) (N : ℕ → ℤ) → 1 ≤ D → Reads s D x N → (n : Need) → Inside s n → KeepsNeed n x ↔ KeepsNeedᴰ D n N
bridge-need s D x N d h n i = (
  λ k l. cover.0 (k (over-< d (over-int D (pos 0)) (h n.item i.0) (subst (λ z. z <ℤ N n.item) (nought D) l))),
  λ k l. cover.1 (k (some (N n.item) (over-<-back d (over-int D (pos 0)) (h n.item i.0) l))),
)
  where
    cover : (int (pos 1) ≤ᶠ x n.cover) ↔ ((pos 1 *ℤ pos D) ≤ℤ N n.cover)
    cover = over-≤ d (over-int D (pos 1)) (h n.cover i.1)

    nought : (D : ℕ) → pos 0 ≡ pos 0 *ℤ pos D
    nought D = simp zed (omega arith)

    some : (z : ℤ) → (pos 0 *ℤ pos D) <ℤ z → pos 0 <ℤ z
    some = split _ (λ a b. simp zed (omega arith))

module _ (s : Instance) (ns : List Need) (inside : Every (Inside s) ns) where
  pub bridge-needs : (D : ℕ) (x : Point) (N : ℕ → ℤ) → 1 ≤ D → Reads s D x N → FeasibleNeeds s ns x ↔ FeasibleNeedsᴰ s ns D N
  bridge-needs D x N d h = (
    λ p. record { plain = (bridge-feasible s D x N d h).0 p.plain; kept = λ n i. (bridge-need s D x N d h n (inside n i)).0 (p.kept n i) },
    λ p. record { plain = (bridge-feasible s D x N d h).1 p.plain; kept = λ n i. (bridge-need s D x N d h n (inside n i)).1 (p.kept n i) },
  )

pub inside-allowed : (s : Instance) (ns : List Need) → Every (Allowed s) ns → Every (Inside s) ns
inside-allowed s ns a n i = ((a n i).item.inside, (a n i).cover.inside)

pub fractions : (s : Instance) (D : ℕ) (N : ℕ → ℤ) → 1 ≤ D → Reads s D (λ k. frac (N k) D) N
fractions s D N d k l = over-frac (N k) D d
