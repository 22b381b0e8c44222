-- Whole steps on one or two items.
use mathlib.Core.Path.{◌≡◌, ap, ◌∙◌}
use mathlib.Core.Logic.{◌≢◌}
use Prim.Native.Nat.{ℕ, ◌<◌}
use native.Mathlib.Omega.{arith}
use native.Mathlib.Nat.{mul-le-mul_left}
use lib.IntN.{ℤ, pos, neg_ℤ, ◌+ℤ◌, ◌-ℤ◌, ◌*ℤ◌}
use lib.Signed.{◌≤ℤ◌, ◌<ℤ◌}
use Rattle.arith.proofs.Integers.{split, split2, split3, split4, zed}
use Rattle.arith.proofs.Sums.{bump-other, each-bump, sum_bump}
use Rattle.arith.specs.Sum.{sum, Each, bump}
use Rattle.knapsack.proofs.Common.{KeepsMarkᴰ, Keepsᴰ, weighsᴰ, valueᴰ, Feasibleᴰ}
use Rattle.knapsack.proofs.Dual.{Within}
use Rattle.knapsack.specs.Meaning.{Instance}
use Rattle.knapsack.specs.declared.Item.{Item}
use Rattle.knapsack.specs.declared.Mark.{Mark}
use Rattle.knapsack.specs.declared.Mark.TheVariants.{Integer, Continuous}

-- a whole step keeps every mark
pub mark-step : (D : ℕ) (m : Mark) (n r : ℤ) → KeepsMarkᴰ D m n → KeepsMarkᴰ D m (n +ℤ r *ℤ pos D)
mark-step D Integer n r (k, e) = (k +ℤ r, rw e (join k r))
  where
    join : (k r : ℤ) → k *ℤ pos D +ℤ r *ℤ pos D ≡ (k +ℤ r) *ℤ pos D
    join = split2 _ (λ a b c e. simp zed (omega arith))
mark-step D Continuous n r k = tt

pub keeps-step : (D : ℕ) (i : Item) (n r : ℤ) → Keepsᴰ D i n → Within D i (n +ℤ r *ℤ pos D) → Keepsᴰ D i (n +ℤ r *ℤ pos D)
keeps-step D i n r k w = record { marked = mark-step D i.mark n r k.marked; above = w.above; below = w.below }

-- N with r whole units more of item i, and t of item j
abbrev pub shift : ℕ → (ℕ → ℤ) → ℕ → ℤ → ℕ → ℤ → ℕ → ℤ
shift D N i r j t = bump (bump N i (r *ℤ pos D)) j (t *ℤ pos D)

pub sum-shift : (n D : ℕ) (a N : ℕ → ℤ) (i j : ℕ) (r t : ℤ) → i < n → j < n →
    sum n (λ k. a k *ℤ shift D N i r j t k) ≡ sum n (λ k. a k *ℤ N k) +ℤ (a i *ℤ r +ℤ a j *ℤ t) *ℤ pos D
sum-shift n D a N i j r t l m = sum_bump n a (bump N i (r *ℤ pos D)) j (t *ℤ pos D) m ∙ ap (λ z. z +ℤ a j *ℤ (t *ℤ pos D)) (sum_bump n a N i (r *ℤ pos D) l) ∙
    join (sum n (λ k. a k *ℤ N k)) (a i) (a j) r t
  where
    join : (s x y r t : ℤ) → (s +ℤ x *ℤ (r *ℤ pos D)) +ℤ y *ℤ (t *ℤ pos D) ≡ s +ℤ (x *ℤ r +ℤ y *ℤ t) *ℤ pos D
    join = split _ (λ h i. split4 _ (λ a b c e f g k l. simp zed (omega arith)))

-- what holds at each place, and of the two new numbers, holds after the steps
pub each-shift : (P : ℕ → ℤ → Type 0) (n D : ℕ) (N : ℕ → ℤ) (i j : ℕ) (r t : ℤ) → j ≢ i → Each n (λ k. P k (N k)) → P i (N i +ℤ r *ℤ pos D) →
    P j (N j +ℤ t *ℤ pos D) → Each n (λ k. P k (shift D N i r j t k))
each-shift P n D N i j r t ne h pi pj =
    each-bump P (bump N i (r *ℤ pos D)) j (t *ℤ pos D) n (each-bump P N i (r *ℤ pos D) n h pi) (rw (bump-other N i (r *ℤ pos D) j ne) pj)

pub keeps-shift : (s : Instance) (D : ℕ) (N : ℕ → ℤ) (i j : ℕ) (r t : ℤ) → i < s.count → j < s.count → j ≢ i →
    Each s.count (λ k. Keepsᴰ D (s.item k) (N k))
    → Within D (s.item i) (N i +ℤ r *ℤ pos D) → Within D (s.item j) (N j +ℤ t *ℤ pos D) → Each s.count (λ k. Keepsᴰ D (s.item k) (shift D N i r j t k))
keeps-shift s D N i j r t l m ne h wi wj = each-shift (λ k. Keepsᴰ D (s.item k)) s.count D N i j r t ne h (keeps-step D (s.item i) (N i) r (h i l) wi)
    (keeps-step D (s.item j) (N j) t (h j m) wj)

-- steps r, t on i and j that weigh nothing or less and bring something: the new point is feasible and worth at least D / D = 1 more
pub pair-gain : (s : Instance) (D : ℕ) (N : ℕ → ℤ) (i j : ℕ) (r t : ℤ) → i < s.count → j < s.count → j ≢ i → Feasibleᴰ s D N
    → ((s.item i).weight *ℤ r +ℤ (s.item j).weight *ℤ t) ≤ℤ pos 0 → pos 0 <ℤ ((s.item i).price *ℤ r +ℤ (s.item j).price *ℤ t)
    → Within D (s.item i) (N i +ℤ r *ℤ pos D) → Within D (s.item j) (N j +ℤ t *ℤ pos D)
    → Feasibleᴰ s D (shift D N i r j t) × ((valueᴰ s N +ℤ pos D) ≤ℤ valueᴰ s (shift D N i r j t))
pair-gain s D N i j r t l m ne p light gain wi wj = (
  record {
    keeps = keeps-shift s D N i j r t l m ne p.keeps wi wj;
    fits = rw (sum-shift s.count D (λ k. (s.item k).weight) N i j r t l m)
        (lighter (weighsᴰ s N) (s.capacity *ℤ pos D) ((s.item i).weight *ℤ r +ℤ (s.item j).weight *ℤ t) p.fits light);
  },
  rw (sum-shift s.count D (λ k. (s.item k).price) N i j r t l m) (more (valueᴰ s N) ((s.item i).price *ℤ r +ℤ (s.item j).price *ℤ t) gain),
)
  where
    lighter : (w b x : ℤ) → w ≤ℤ b → x ≤ℤ pos 0 → (w +ℤ x *ℤ pos D) ≤ℤ b
    lighter = split3 _ (λ a b c e f g. simp zed (λ k l. omega (arith, mul-le-mul_left D l)))

    more : (v x : ℤ) → pos 0 <ℤ x → (v +ℤ pos D) ≤ℤ (v +ℤ x *ℤ pos D)
    more = split2 _ (λ a b c e. simp zed (λ l. omega (arith, mul-le-mul_left D l)))

-- the least pair's form: r and t are taken away
pub pair-discard : (s : Instance) (D : ℕ) (N : ℕ → ℤ) (i j : ℕ) (r t : ℤ) → i < s.count → j < s.count → j ≢ i → Feasibleᴰ s D N
    → pos 0 ≤ℤ ((s.item i).weight *ℤ r +ℤ (s.item j).weight *ℤ t) → ((s.item i).price *ℤ r +ℤ (s.item j).price *ℤ t) <ℤ pos 0
    → Within D (s.item i) (N i -ℤ r *ℤ pos D) → Within D (s.item j) (N j -ℤ t *ℤ pos D)
    → (N' : ℕ → ℤ) × Feasibleᴰ s D N' × ((valueᴰ s N +ℤ pos D) ≤ℤ valueᴰ s N')
pair-discard s D N i j r t l m ne p heavy loss wi wj =
    let g = pair-gain s D N i j (neg_ℤ r) (neg_ℤ t) l m ne p (flip (s.item i).weight (s.item j).weight r t heavy)
    (flip' (s.item i).price (s.item j).price r t loss) (rw (away (N i) r) at wi) (rw (away (N j) t) at wj) in
    (shift D N i (neg_ℤ r) j (neg_ℤ t), g.0, g.1)
  where
    flip : (x y r t : ℤ) → pos 0 ≤ℤ (x *ℤ r +ℤ y *ℤ t) → (x *ℤ neg_ℤ r +ℤ y *ℤ neg_ℤ t) ≤ℤ pos 0
    flip = split4 _ (λ a b c e f g h i. simp zed (omega arith))

    flip' : (x y r t : ℤ) → (x *ℤ r +ℤ y *ℤ t) <ℤ pos 0 → pos 0 <ℤ (x *ℤ neg_ℤ r +ℤ y *ℤ neg_ℤ t)
    flip' = split4 _ (λ a b c e f g h i. simp zed (omega arith))

    away : (n r : ℤ) → n -ℤ r *ℤ pos D ≡ n +ℤ neg_ℤ r *ℤ pos D
    away = split2 _ (λ a b c e. simp zed (omega arith))
