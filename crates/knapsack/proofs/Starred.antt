-- The starred rows of paper 01's table, from the meaning alone: certificates, branches and one ray.
--   starred : StarredTable
use mathlib.Core.Path.{◌≡◌, refl}
use mathlib.Core.Logic.{◌≢◌}
use Prim.Native.Nat.{ℕ, zero, suc, ◌*◌, ◌≤◌, ◌<◌}
use native.Mathlib.Omega.{arith}
use native.Mathlib.Decide.{ℕ_discrete}
use lib.IntN.{ℤ, pos, negsuc, nat_abs, ◌+ℤ◌, ◌*ℤ◌}
use lib.Signed.{◌≤ℤ◌, ◌<ℤ◌, le_z_yes, lt_z_yes}
use Rattle.arith.specs.Fractions.{frac, int, ◌+ᶠ◌, ◌·ᶠ◌, ◌≈ᶠ◌}
use Rattle.arith.specs.Sum.{Each}
use Rattle.arith.proofs.Integers.{split, split2, zed}
use Rattle.std.specs.Prelude.{None, Some}
use Rattle.knapsack.specs.declared.Item.{Item}
use Rattle.knapsack.specs.Meaning.{Instance, Point, value, Optimal, Infeasible, Unbounded, relaxed, LeastPair, NoPair}
use Rattle.knapsack.specs.Table.{at, by, A, B, C, D, E, F, G, H, I, J, K, M, Best, StarredTable}
use Rattle.knapsack.proofs.Common.{Feasibleᴰ}
use Rattle.knapsack.proofs.Bridge.{Reads, bridge-optimal, bridge-infeasible, bridge-feasible}
use Rattle.knapsack.proofs.Dual.{score, AtEnd, Certificate, certified}
use Rattle.knapsack.proofs.Branch.{AtMost, leaf, leaf-empty, empty, narrow, branch, at-most-optimal}
use Rattle.knapsack.proofs.Rays.{ray-unbounded}

-- ---- each of one or two places

each0 : (P : ℕ → Type 0) → Each 0 P
each0 P k l = absurd (omega arith)

each1 : (n : ℕ) (P : ℕ → Type 0) → Each n P → P n → Each (suc n) P
each1 n P h p k l = go (ℕ_discrete k n)
  where
    go : Dec (k ≡ n) → P k
    go (yes e) = rw e p
    go (no e) = h k (omega arith)

one : (P : ℕ → Type 0) → P 0 → Each 1 P
one P p = each1 0 P (each0 P) p

two : (P : ℕ → Type 0) → P 0 → P 1 → Each 2 P
two P p q = each1 1 P (one P p) q

-- numerators for two items
abbrev over : ℤ → ℤ → ℕ → ℤ
over x y zero = x
over x y (suc k) = y

-- ---- ends: an item of score 0, above 0, below 0

flat : {E : ℕ} {i : Item} {m : ℤ} → AtEnd E (pos 0) i m
flat = record { good = λ h. absurd h.lt; bad = λ h. absurd h.lt }

-- the certificate's point is optimal, and so is its reading as fractions
by-certificate : (s : Instance) (q : ℕ) (x : Point) (N : ℕ → ℤ) → 1 ≤ q → Reads s q x N → Feasibleᴰ s q N → Certificate s q N → Optimal s x
by-certificate s q x N h r p c = bridge-optimal s q x N h r (record { feasible = p; highest = certified s q N h c })

A-best : Best A (at (int (pos 2)) (frac (pos 2) 3)) (frac (pos 82) 3)
unfolding score ◌+ᶠ◌ ◌·ᶠ◌ ◌≈ᶠ◌
A-best = (
  by-certificate A 3 (at (int (pos 2)) (frac (pos 2) 3)) (over (pos 6) (pos 2)) (omega arith) (two _ (record { eq = refl }) (record { eq = refl }))
      (record {
        keeps = two _ (record { marked = (pos 2, refl); above = le_z_yes tt; below = le_z_yes tt }) (record {
          marked = tt;
          above = le_z_yes tt;
          below = le_z_yes tt;
        });
        fits = le_z_yes tt;
      })
      (record { p = 2; q = 3; q≥1 = omega arith; ends = two _ (record { good = λ h. refl; bad = λ h. absurd h.lt }) flat; tight = refl }),
  refl,
)

B-best : Best B (at (int (pos 2)) (int (pos 2))) (int (pos 28))
unfolding score ◌+ᶠ◌ ◌·ᶠ◌ ◌≈ᶠ◌
B-best = (
  by-certificate B 1 (at (int (pos 2)) (int (pos 2))) (over (pos 2) (pos 2)) (omega arith) (two _ (record { eq = refl }) (record { eq = refl }))
      (record {
        keeps = two _ (record { marked = (pos 2, refl); above = le_z_yes tt; below = le_z_yes tt }) (record {
          marked = tt;
          above = le_z_yes tt;
          below = le_z_yes tt;
        });
        fits = le_z_yes tt;
      })
      (record { p = 1; q = 1; q≥1 = omega arith; ends = two _ (record { good = λ h. refl; bad = λ h. absurd h.lt }) flat; tight = refl }),
  refl,
)

-- C: at most 2 of the first item, or at least 3
C-low : AtMost (narrow C 0 (Some (pos 0)) (Some (pos 2))) (negsuc 29) 1
unfolding score ℕ_discrete
C-low = leaf _ (negsuc 29) 1 1 (over (pos 2) (pos 2)) (omega arith) (record {
  p = 2;
  q = 1;
  q≥1 = omega arith;
  ends = two _ (record { good = λ h. refl; bad = λ h. absurd h.lt }) flat;
  tight = refl;
}) (le_z_yes tt)

C-high : AtMost (narrow C 0 (Some (pos 3)) (Some (pos 3))) (negsuc 29) 1
unfolding score ℕ_discrete
C-high = leaf _ (negsuc 29) 1 1 (over (pos 3) (pos 0)) (omega arith) (record {
  p = 0;
  q = 1;
  q≥1 = omega arith;
  ends = two _ (record { good = λ h. absurd h.lt; bad = λ h. refl }) (record { good = λ h. absurd h.lt; bad = λ h. refl });
  tight = refl;
}) (le_z_yes tt)

C-best : Best C (at (int (pos 2)) (int (pos 2))) (int (negsuc 29))
unfolding ℕ_discrete ◌+ᶠ◌ ◌·ᶠ◌ ◌≈ᶠ◌
C-best = (
  bridge-optimal C 1 (at (int (pos 2)) (int (pos 2))) (over (pos 2) (pos 2)) (omega arith) (two _ (record { eq = refl }) (record { eq = refl }))
      (at-most-optimal C 1 (over (pos 2) (pos 2)) (record {
        keeps = two _ (record { marked = (pos 2, refl); above = le_z_yes tt; below = le_z_yes tt })
            (record { marked = tt; above = le_z_yes tt; below = le_z_yes tt });
        fits = le_z_yes tt;
      })
      (branch C (negsuc 29) 1 0 (pos 2) (omega arith) refl C-low C-high)),
  refl,
)

D-best : Best D (at (int (pos 1)) (int (pos 5))) (int (negsuc 22))
unfolding score ◌+ᶠ◌ ◌·ᶠ◌ ◌≈ᶠ◌
D-best = (
  by-certificate D 1 (at (int (pos 1)) (int (pos 5))) (over (pos 1) (pos 5)) (omega arith) (two _ (record { eq = refl }) (record { eq = refl }))
      (record {
        keeps = two _ (record { marked = (pos 1, refl); above = le_z_yes tt; below = le_z_yes tt }) (record {
          marked = tt;
          above = le_z_yes tt;
          below = le_z_yes tt;
        });
        fits = le_z_yes tt;
      })
      (record { p = 2; q = 1; q≥1 = omega arith; ends = two _ (record { good = λ h. refl; bad = λ h. absurd h.lt }) flat; tight = refl }),
  refl,
)

E-infeasible : Infeasible E
E-infeasible = bridge-infeasible E (empty E 1 (over (pos 1) (pos 5)) (record {
  ends = two _ (record { good = λ h. refl; bad = λ h. absurd h.lt }) (record { good = λ h. refl; bad = λ h. absurd h.lt });
  over = lt_z_yes tt;
}))

-- F, by five nodes
abbrev F₁ : Instance
F₁ = narrow F 0 (Some (pos 0)) (Some (pos 3))

abbrev F₂ : Instance
F₂ = narrow F 0 (Some (pos 4)) (Some (pos 10))

F₂-empty : AtMost F₂ (pos 16) 1
unfolding ℕ_discrete
F₂-empty = leaf-empty F₂ (pos 16) 1 (empty F₂ 1 (over (pos 4) (pos 0)) (record {
  ends = two _ (record { good = λ h. absurd h.lt; bad = λ h. refl }) (record { good = λ h. absurd h.lt; bad = λ h. refl });
  over = lt_z_yes tt;
}))

F₁-low : AtMost (narrow F₁ 1 (Some (pos 0)) (Some (pos 0))) (pos 16) 1
unfolding score ℕ_discrete
F₁-low = leaf _ (pos 16) 1 1 (over (pos 3) (pos 0)) (omega arith) (record {
  p = 0;
  q = 1;
  q≥1 = omega arith;
  ends = two _ (record { good = λ h. refl; bad = λ h. absurd h.lt }) (record { good = λ h. refl; bad = λ h. absurd h.lt });
  tight = refl;
}) (le_z_yes tt)

F₁-high : AtMost (narrow F₁ 1 (Some (pos 1)) (Some (pos 10))) (pos 16) 1
unfolding score ℕ_discrete
F₁-high = leaf _ (pos 16) 1 1 (over (pos 2) (pos 1)) (omega arith) (record {
  p = 5;
  q = 3;
  q≥1 = omega arith;
  ends = two _ flat (record { good = λ h. absurd h.lt; bad = λ h. refl });
  tight = refl;
}) (le_z_yes tt)

F-best : Best F (at (int (pos 2)) (int (pos 1))) (int (pos 16))
unfolding ℕ_discrete ◌+ᶠ◌ ◌·ᶠ◌ ◌≈ᶠ◌
F-best = (
  bridge-optimal F 1 (at (int (pos 2)) (int (pos 1))) (over (pos 2) (pos 1)) (omega arith) (two _ (record { eq = refl }) (record { eq = refl }))
      (at-most-optimal F 1 (over (pos 2) (pos 1)) (record {
        keeps = two _ (record { marked = (pos 2, refl); above = le_z_yes tt; below = le_z_yes tt })
            (record { marked = (pos 1, refl); above = le_z_yes tt; below = le_z_yes tt });
        fits = le_z_yes tt;
      })
      (branch F (pos 16) 1 0 (pos 3) (omega arith) refl (branch F₁ (pos 16) 1 1 (pos 0) (omega arith) refl F₁-low F₁-high) F₂-empty)),
  refl,
)

F-relaxed : Best (relaxed F) (at (frac (pos 10) 3) (int (pos 0))) (frac (pos 50) 3)
unfolding score ◌+ᶠ◌ ◌·ᶠ◌ ◌≈ᶠ◌
F-relaxed = (
  by-certificate (relaxed F) 3 (at (frac (pos 10) 3) (int (pos 0))) (over (pos 10) (pos 0)) (omega arith) (two _ (record { eq = refl }) (record { eq = refl }))
      (record {
        keeps = two _ (record { marked = tt; above = le_z_yes tt; below = le_z_yes tt }) (record { marked = tt; above = le_z_yes tt; below = le_z_yes tt });
        fits = le_z_yes tt;
      })
      (record { p = 5; q = 3; q≥1 = omega arith; ends = two _ flat (record { good = λ h. absurd h.lt; bad = λ h. refl }); tight = refl }),
  refl,
)

G-unbounded : Unbounded G (at (int (pos 0)) (int (pos 0))) (by (pos 3) (pos 2))
G-unbounded = ray-unbounded G (at (int (pos 0)) (int (pos 0))) (by (pos 3) (pos 2)) 0 1 (omega arith) (omega arith) three twice rest
    (record { up = two _ (λ h. refl) (λ h. refl); down = two _ (λ h. absurd h.lt) (λ h. absurd h.lt); light = le_z_yes tt; gain = lt_z_yes tt })
    ((bridge-feasible G 1 (at (int (pos 0)) (int (pos 0))) (over (pos 0) (pos 0)) (omega arith) (two _ (record { eq = refl }) (record { eq = refl }))).1
    (record {
      keeps = two _ (record { marked = (pos 0, refl); above = le_z_yes tt; below = tt }) (record { marked = (pos 0, refl); above = le_z_yes tt; below = tt });
      fits = le_z_yes tt;
    }))
  where
    three : pos 3 ≢ pos 0
    three = simp zed (omega arith)

    twice : pos 2 ≢ pos 0
    twice = simp zed (omega arith)

    rest : (k : ℕ) → k ≢ 0 → k ≢ 1 → by (pos 3) (pos 2) k ≡ pos 0
    rest zero a b = absurd (a refl)
    rest (suc zero) a b = absurd (b refl)
    rest (suc (suc k)) a b = refl

H-best : Best H (at (int (pos 0)) (int (pos 0))) (int (pos 0))
unfolding score ◌+ᶠ◌ ◌·ᶠ◌ ◌≈ᶠ◌
H-best = (
  by-certificate H 1 (at (int (pos 0)) (int (pos 0))) (over (pos 0) (pos 0)) (omega arith) (two _ (record { eq = refl }) (record { eq = refl }))
      (record {
        keeps = two _ (record { marked = (pos 0, refl); above = le_z_yes tt; below = tt }) (record { marked = (pos 0, refl); above = le_z_yes tt; below = tt });
        fits = le_z_yes tt;
      })
      (record { p = 3; q = 2; q≥1 = omega arith; ends = two _ flat (record { good = λ h. absurd h.lt; bad = λ h. refl }); tight = refl }),
  refl,
)

-- both items of I have the ratio 3 / 2
I-best : (n : ℕ) → Best I (at (int (pos n)) (int (pos n))) (int (pos 0))
unfolding score ◌+ᶠ◌ ◌·ᶠ◌ ◌≈ᶠ◌
I-best n = (
  by-certificate I 1 (at (int (pos n)) (int (pos n))) (over (pos n) (pos n)) (omega arith) (two _ (record { eq = refl }) (record { eq = refl }))
      (record {
        keeps = two _ (record { marked = (pos n, one_more (pos n)); above = least n; below = tt }) (record {
          marked = (pos n, one_more (pos n));
          above = least n;
          below = tt;
        });
        fits = even (pos n);
      })
      (record { p = 3; q = 2; q≥1 = omega arith; ends = two _ flat flat; tight = tight (pos n) }),
  worth (pos n),
)
  where
    one_more : (x : ℤ) → x ≡ x *ℤ pos 1
    one_more = split _ (λ a b. simp zed (omega arith))

    least : (n : ℕ) → (pos 0 *ℤ pos 1) ≤ℤ pos n
    least n = simp zed (omega arith)

    even : (x : ℤ) → ((pos 0 +ℤ pos 2 *ℤ x) +ℤ negsuc 1 *ℤ x) ≤ℤ (pos 0 *ℤ pos 1)
    even = split _ (λ a b. simp zed (omega arith))

    tight : (x : ℤ) → pos 3 *ℤ ((pos 0 +ℤ pos 2 *ℤ x) +ℤ negsuc 1 *ℤ x) ≡ pos 3 *ℤ (pos 0 *ℤ pos 1)
    tight = split _ (λ a b. simp zed (omega arith))

    worth : (x : ℤ) → value I (at (int x) (int x)) ≈ᶠ int (pos 0)
    worth = split _ (λ a b. simp zed (omega arith))

-- J: at most -3, or at least -2
J-low : AtMost (narrow J 0 None (Some (negsuc 2))) (negsuc 2) 1
unfolding score ℕ_discrete
J-low = leaf _ (negsuc 2) 1 1 (over (negsuc 2) (pos 0)) (omega arith) (record {
  p = 0;
  q = 1;
  q≥1 = omega arith;
  ends = one _ (record { good = λ h. refl; bad = λ h. absurd h.lt });
  tight = refl;
}) (le_z_yes tt)

J-high : AtMost (narrow J 0 (Some (negsuc 1)) None) (negsuc 2) 1
unfolding ℕ_discrete
J-high = leaf-empty _ (negsuc 2) 1 (empty _ 1 (over (negsuc 1) (pos 0))
    (record { ends = one _ (record { good = λ h. absurd h.lt; bad = λ h. refl }); over = lt_z_yes tt }))

J-best : Best J (at (int (negsuc 2)) (int (pos 0))) (int (negsuc 2))
unfolding ℕ_discrete ◌+ᶠ◌ ◌·ᶠ◌ ◌≈ᶠ◌
J-best = (
  bridge-optimal J 1 (at (int (negsuc 2)) (int (pos 0))) (over (negsuc 2) (pos 0)) (omega arith) (one _ (record { eq = refl }))
      (at-most-optimal J 1 (over (negsuc 2) (pos 0)) (record {
        keeps = one _ (record { marked = (negsuc 2, refl); above = tt; below = tt });
        fits = le_z_yes tt;
      })
      (branch J (negsuc 2) 1 0 (negsuc 2) (omega arith) refl J-low J-high)),
  refl,
)

K-best : Best K (at (frac (negsuc 6) 3) (int (pos 0))) (frac (negsuc 6) 3)
unfolding score ◌+ᶠ◌ ◌·ᶠ◌ ◌≈ᶠ◌
K-best = (
  by-certificate K 3 (at (frac (negsuc 6) 3) (int (pos 0))) (over (negsuc 6) (pos 0)) (omega arith) (one _ (record { eq = refl }))
      (record { keeps = one _ (record { marked = tt; above = tt; below = tt }); fits = le_z_yes tt })
      (record { p = 1; q = 3; q≥1 = omega arith; ends = one _ flat; tight = refl }),
  refl,
)

-- 3 r + 4 t ≥ 0 and 5 r + 6 t < 0 ask r below 0 and t above, and at least 4 of the one and 3 of the other
sizes : (r t : ℤ) → pos 0 ≤ℤ (pos 3 *ℤ r +ℤ pos 4 *ℤ t) → (pos 5 *ℤ r +ℤ pos 6 *ℤ t) <ℤ pos 0 → (3 * nat_abs r ≤ 4 * nat_abs t) × (6 * nat_abs t < 5 * nat_abs r)
sizes = split2 _ (λ a b c e. simp zed (λ h k. (omega arith, omega arith)))

far_apart : (x y : ℕ) → 3 * x ≤ 4 * y → 6 * y < 5 * x → (4 ≤ x) × (3 ≤ y)
far_apart zero y h k = absurd (omega arith)
far_apart (suc zero) y h k = absurd (omega arith)
far_apart (suc (suc zero)) y h k = absurd (omega arith)
far_apart (suc (suc (suc zero))) y h k = absurd (omega arith)
far_apart (suc (suc (suc (suc x)))) y h k = (omega arith, omega arith)

apart : (r t : ℤ) → pos 0 ≤ℤ (pos 3 *ℤ r +ℤ pos 4 *ℤ t) → (pos 5 *ℤ r +ℤ pos 6 *ℤ t) <ℤ pos 0 → (4 ≤ nat_abs r) × (3 ≤ nat_abs t)
apart r t h k = let e = sizes r t h k in far_apart (nat_abs r) (nat_abs t) e.0 e.1

L-least : LeastPair (F.item 0) (F.item 1) (negsuc 3) (pos 3)
L-least = record {
  pair = record {
    steps = record { r-moves = λ e. absurd (ne-4 e); t-moves = simp zed (omega arith); r-fits = le_z_yes tt; t-fits = le_z_yes tt };
    heavy = le_z_yes tt;
    loss = lt_z_yes tt;
  };
  least = λ r t p. apart r t p.heavy p.loss;
}
  where
    ne-4 : negsuc 3 ≢ pos 0
    ne-4 = simp zed (omega arith)

M-none : NoPair (M.item 0) (M.item 1)
M-none r t p = short (nat_abs r) p.steps.r-fits (apart r t p.heavy p.loss).0
  where
    short : (n : ℕ) → pos n ≤ℤ pos 3 → 4 ≤ n → ⊥
    short n = simp zed (omega arith)

-- ---- the table

pub starred : StarredTable
starred = record {
  row-A = A-best;
  row-B = B-best;
  row-C = C-best;
  row-D = D-best;
  row-E = E-infeasible;
  row-F = F-best;
  row-F-relaxed = F-relaxed;
  row-G = G-unbounded;
  row-H = H-best;
  row-I = I-best 0;
  row-I-also = I-best 1;
  row-J = J-best;
  row-K = K-best;
  row-L = L-least;
  row-M = M-none;
}
