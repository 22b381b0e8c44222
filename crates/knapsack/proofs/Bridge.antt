-- A point of fractions and its numerators over one common denominator say the same.
use mathlib.Core.Path.{◌≡◌, sym, ap, ◌∙◌}
use mathlib.Core.Logic.{◌↔◌}
use Prim.Native.Nat.{ℕ, ◌≤◌, ◌<◌}
use native.Mathlib.Omega.{arith}
use native.Mathlib.Nat.{mul-le-mul, mul_comm}
use lib.IntN.{ℤ, pos, ◌*ℤ◌}
use lib.Signed.{◌≤ℤ◌}
use Rattle.arith.proofs.Integers.{split, zed, times-≡-back}
use Rattle.arith.specs.Fractions.{Frac, int, ◌≤ᶠ◌}
use Rattle.knapsack.proofs.Common.{KeepsMarkᴰ, KeepsLowerᴰ, KeepsUpperᴰ, Keepsᴰ, weighsᴰ, Feasibleᴰ, Optimalᴰ}
use Rattle.knapsack.specs.Meaning.{Instance, Point, KeepsMark, KeepsLower, KeepsUpper, Keeps, weighs, value, Feasible, Optimal, Infeasible}
use Rattle.std.specs.Prelude.{Option, None, Some}
use Rattle.knapsack.specs.declared.Mark.{Mark}
use Rattle.knapsack.specs.declared.Mark.TheVariants.{Integer, Continuous}
use Rattle.arith.proofs.Fractions.{Over, over-int, over-≤, over-total, over-scale, Common, common}

-- ---- the bridge

over-mark : {D : ℕ} {x : Frac} {n : ℤ} → 1 ≤ D → Over D x n → (m : Mark) → KeepsMark m x ↔ KeepsMarkᴰ D m n
over-mark {D} {x} {n} d h Integer = (
  λ w. (w.0, times-≡-back x.den n (w.0 *ℤ pos D) x.den≥1 (sym h.eq ∙ ap (λ z. z *ℤ pos D) w.1 ∙ swap w.0 x.den D)),
  λ w. (w.0, times-≡-back D x.num (w.0 *ℤ pos x.den) d (h.eq ∙ ap (λ z. z *ℤ pos x.den) w.1 ∙ swap w.0 D x.den)),
)
  where
    swap : (p : ℤ) (s D : ℕ) → (p *ℤ pos s) *ℤ pos D ≡ (p *ℤ pos D) *ℤ pos s
    swap = split _ (λ a b s D. simp zed (omega arith))
over-mark d h Continuous = (λ w. tt, λ w. tt)

pub over-lower : {D : ℕ} {x : Frac} {n : ℤ} → 1 ≤ D → Over D x n → (b : Option ℤ) → KeepsLower b x ↔ KeepsLowerᴰ D b n
over-lower d h None = (λ w. tt, λ w. tt)
over-lower {D} d h (Some l) = over-≤ d (over-int D l) h

pub over-upper : {D : ℕ} {x : Frac} {n : ℤ} → 1 ≤ D → Over D x n → (b : Option ℤ) → KeepsUpper b x ↔ KeepsUpperᴰ D b n
over-upper d h None = (λ w. tt, λ w. tt)
over-upper {D} d h (Some u) = over-≤ d h (over-int D u)

-- the point x is N / D at every item of s
abbrev pub Reads : Instance → ℕ → Point → (ℕ → ℤ) → Type 0
Reads s D x N = (k : ℕ) → k < s.count → Over D (x k) (N k)

pub bridge-feasible : (s : Instance) (D : ℕ) (x : Point) (N : ℕ → ℤ) → 1 ≤ D → Reads s D x N → Feasible s x ↔ Feasibleᴰ s D N
bridge-feasible s D x N d h = (
  λ p. record { keeps = λ k l. to k l (p.keeps k l); fits = fits_iff.0 p.fits },
  λ p. record {
    keeps = λ k l. from k l (p.keeps k l);
    fits = fits_iff.1 p.fits;
  },
)
  where
    fits_iff : (weighs s x ≤ᶠ int s.capacity) ↔ (weighsᴰ s N ≤ℤ (s.capacity *ℤ pos D))
    fits_iff = over-≤ d (over-total D s.count x N h (λ k. (s.item k).weight)) (over-int D s.capacity)

    to : (k : ℕ) → k < s.count → Keeps (s.item k) (x k) → Keepsᴰ D (s.item k) (N k)
    to k l p = record {
      marked = (over-mark d (h k l) (s.item k).mark).0 p.marked;
      above = (over-lower d (h k l) (s.item k).lower).0 p.above;
      below = (over-upper d (h k l) (s.item k).upper).0 p.below;
    }

    from : (k : ℕ) → k < s.count → Keepsᴰ D (s.item k) (N k) → Keeps (s.item k) (x k)
    from k l p = record {
      marked = (over-mark d (h k l) (s.item k).mark).1 p.marked;
      above = (over-lower d (h k l) (s.item k).lower).1 p.above;
      below = (over-upper d (h k l) (s.item k).upper).1 p.below;
    }

-- ---- optimal, over integers: no feasible numerators over any D are worth more

pub bridge-optimal : (s : Instance) (E : ℕ) (x : Point) (M : ℕ → ℤ) → 1 ≤ E → Reads s E x M → Optimalᴰ s E M → Optimal s x
bridge-optimal s E x M e h b = record { feasible = (bridge-feasible s E x M e h).1 b.feasible; highest = λ y p. go y p (common s.count y) }
  where
    go : (y : Point) → Feasible s y → Common s.count y → value s y ≤ᶠ value s x
    go y p c = (over-≤ (mul-le-mul c.D≥1 e) (over-scale E (over-total c.D s.count y c.N c.reads (λ k. (s.item k).price)))
        (rw (mul_comm E c.D) at (over-scale c.D (over-total E s.count x M h (λ k. (s.item k).price))))
        ).1 (b.highest c.D c.N c.D≥1 ((bridge-feasible s c.D y c.N c.D≥1 c.reads).0 p))

pub bridge-infeasible : (s : Instance) → ((D : ℕ) (N : ℕ → ℤ) → 1 ≤ D → ¬ Feasibleᴰ s D N) → Infeasible s
bridge-infeasible s h y p = let c = common s.count y in h c.D c.N c.D≥1 ((bridge-feasible s c.D y c.N c.D≥1 c.reads).0 p)
