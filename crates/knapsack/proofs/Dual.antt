-- Weak duality: a price p / q for a unit of weight bounds the value of every feasible point.
use mathlib.Core.Path.{◌≡◌, refl, ap, ap₂, ◌∙◌, subst₂}
use Prim.Native.Nat.{ℕ, zero, suc, ◌*◌, ◌≤◌, ◌<◌}
use native.Mathlib.Omega.{arith}
use native.Mathlib.Nat.{mul-le-mul_left, le_of_mul-le-mul_left}
use lib.IntN.{ℤ, pos, negsuc, neg_ℤ, ◌+ℤ◌, ◌-ℤ◌, ◌*ℤ◌, zero-*ℤ}
use lib.Signed.{◌≤ℤ◌, ◌<ℤ◌}
use Rattle.arith.proofs.Integers.{split2, split3, split4, zed, ≤ℤ-reflexive, times-≤}
use Rattle.arith.proofs.Sums.{sum_mono, sum-cong, sum-lin, sum-times}
use Rattle.arith.specs.Sum.{sum, Each}
use Rattle.knapsack.proofs.Common.{Keepsᴰ, KeepsLowerᴰ, KeepsUpperᴰ, weighsᴰ, valueᴰ, Feasibleᴰ}
use Rattle.knapsack.specs.Meaning.{Instance}
use Rattle.std.specs.Prelude.{Option, None, Some}
use Rattle.knapsack.specs.declared.Item.{Item}

-- what one unit of an item of weight a and price c brings beyond the price of its weight, times q
unfoldable pub score : ℕ → ℕ → ℤ → ℤ → ℤ
score p q a c = pos q *ℤ c -ℤ pos p *ℤ a

pub sum-score : (n p q : ℕ) (a c N : ℕ → ℤ) → sum n (λ j. score p q (a j) (c j) *ℤ N j) ≡ pos q *ℤ sum n (λ j. c j *ℤ N j) -ℤ pos p *ℤ sum n (λ j. a j *ℤ N j)
unfolding score
sum-score n p q a c N = sum-cong n _ _ (λ j l. apart (a j) (c j) (N j) p q) ∙ sum-lin n (pos q) (neg_ℤ (pos p)) (λ j. c j *ℤ N j) (λ j. a j *ℤ N j) ∙
    join (sum n (λ j. c j *ℤ N j)) (sum n (λ j. a j *ℤ N j)) p q
  where
    apart : (a c x : ℤ) (p q : ℕ) → (pos q *ℤ c -ℤ pos p *ℤ a) *ℤ x ≡ pos q *ℤ (c *ℤ x) +ℤ neg_ℤ (pos p) *ℤ (a *ℤ x)
    apart = split3 _ (λ a b c e f g p q. simp zed (omega arith))

    join : (x y : ℤ) (p q : ℕ) → pos q *ℤ x +ℤ neg_ℤ (pos p) *ℤ y ≡ pos q *ℤ x -ℤ pos p *ℤ y
    join = split2 _ (λ a b c e p q. simp zed (omega arith))

pub weak-duality : (n p q : ℕ) (a c N M : ℕ → ℤ) (B : ℤ)
    → Each n (λ j. (score p q (a j) (c j) *ℤ N j) ≤ℤ (score p q (a j) (c j) *ℤ M j))
    → sum n (λ j. a j *ℤ N j) ≤ℤ B
    → (pos q *ℤ sum n (λ j. c j *ℤ N j)) ≤ℤ (pos p *ℤ B +ℤ sum n (λ j. score p q (a j) (c j) *ℤ M j))
weak-duality n p q a c N M B h fits = close p _ _ _ _ fits (rw (sum-score n p q a c N) at (sum_mono n _ _ h))
  where
    close : (p : ℕ) (C A S B : ℤ) → A ≤ℤ B → (C -ℤ pos p *ℤ A) ≤ℤ S → C ≤ℤ (pos p *ℤ B +ℤ S)
    close p = split4 _ (λ a b c e f g h i. simp zed (λ l m. omega (arith, mul-le-mul_left p l)))

-- a point M at its preferred ends, tight if the weight has a price, is worth at least as much as N
pub optimal : (n p q : ℕ) (a c N M : ℕ → ℤ) (B : ℤ) → 1 ≤ q
    → Each n (λ j. (score p q (a j) (c j) *ℤ N j) ≤ℤ (score p q (a j) (c j) *ℤ M j))
    → sum n (λ j. a j *ℤ N j) ≤ℤ B
    → pos p *ℤ sum n (λ j. a j *ℤ M j) ≡ pos p *ℤ B
    → sum n (λ j. c j *ℤ N j) ≤ℤ sum n (λ j. c j *ℤ M j)
optimal n p q a c N M B pos-q h fits tight = done q pos-q (sum n (λ j. c j *ℤ N j)) (sum n (λ j. c j *ℤ M j)) (pos p *ℤ sum n (λ j. a j *ℤ M j))
    (rw (← tight, sum-score n p q a c M) at (weak-duality n p q a c N M B h fits))
  where
    done : (q : ℕ) → 1 ≤ q → (C C' A : ℤ) → (pos q *ℤ C) ≤ℤ (A +ℤ (pos q *ℤ C' -ℤ A)) → C ≤ℤ C'
    done q pos-q = split3 _ (λ a b c e f g. simp zed (λ l. le_of_mul-le-mul_left {k = q} (omega arith) pos-q))

-- ---- a certificate for a instance's point M / E

-- an item with a good score stands at its upper bound, one with a bad score at its lower bound
abbrev pub AtBound : ℕ → Option ℤ → ℤ → Type 0
AtBound E None m = ⊥
AtBound E (Some b) m = m ≡ b *ℤ pos E

pub record AtEnd (E : ℕ) (ρ : ℤ) (i : Item) (m : ℤ) : Type 0 where
  pub good : pos 0 <ℤ ρ → AtBound E i.upper m
  pub bad : ρ <ℤ pos 0 → AtBound E i.lower m

-- n / D keeps the bounds of i
pub record Within (D : ℕ) (i : Item) (n : ℤ) : Type 0 where
  pub above : KeepsLowerᴰ D i.lower n
  pub below : KeepsUpperᴰ D i.upper n

pub within : {D : ℕ} {i : Item} {n : ℤ} → Keepsᴰ D i n → Within D i n
within k = record { above = k.above; below = k.below }

-- at its end, an item brings as much as anywhere that its bounds allow
pub at-end : (D E : ℕ) (ρ : ℤ) (i : Item) (n m : ℤ) → Within D i n → AtEnd E ρ i m → (ρ *ℤ (n *ℤ pos E)) ≤ℤ (ρ *ℤ (m *ℤ pos D))
at-end D E ρ i n m k e = go ρ i.lower i.upper e.good e.bad k.above k.below
  where
    up : (r D E : ℕ) (n u : ℤ) → n ≤ℤ (u *ℤ pos D) → (pos r *ℤ (n *ℤ pos E)) ≤ℤ (pos r *ℤ ((u *ℤ pos E) *ℤ pos D))
    up r D E = split2 _ (λ a b c e. simp zed (λ l. omega (arith, mul-le-mul_left (r * E) l)))

    dn : (r D E : ℕ) (n u : ℤ) → (u *ℤ pos D) ≤ℤ n → (negsuc r *ℤ (n *ℤ pos E)) ≤ℤ (negsuc r *ℤ ((u *ℤ pos E) *ℤ pos D))
    dn r D E = split2 _ (λ a b c e. simp zed (λ l. omega (arith, mul-le-mul_left (suc r * E) l)))

    go : (ρ : ℤ) (lo up : Option ℤ) → (pos 0 <ℤ ρ → AtBound E up m) → (ρ <ℤ pos 0 → AtBound E lo m) → KeepsLowerᴰ D lo n → KeepsUpperᴰ D up n →
        (ρ *ℤ (n *ℤ pos E)) ≤ℤ (ρ *ℤ (m *ℤ pos D))
    go (pos zero) lo hi g b kl ku = simp zero-*ℤ (≤ℤ-reflexive refl)
    go (pos (suc r)) lo None g b kl ku = absurd (g (simp zed (omega arith)))
    go (pos (suc r)) lo (Some u) g b kl ku = let at : m ≡ u *ℤ pos E = g (simp zed (omega arith)) in rw at (up (suc r) D E n u ku)
    go (negsuc r) None hi g b kl ku = absurd (b (simp zed (omega arith)))
    go (negsuc r) (Some l) hi g b kl ku = let at : m ≡ l *ℤ pos E = b (simp zed (omega arith)) in rw at (dn r D E n l kl)

pub record Certificate (s : Instance) (E : ℕ) (M : ℕ → ℤ) : Type 0 where
  pub p : ℕ
  pub q : ℕ
  pub q≥1 : 1 ≤ q
  pub ends : (k : ℕ) → k < s.count → AtEnd E (score p q (s.item k).weight (s.item k).price) (s.item k) (M k)
  pub tight : pos p *ℤ weighsᴰ s M ≡ pos p *ℤ (s.capacity *ℤ pos E)

-- where every item of M / E stands at its end, more weight than M's gains at most its price
pub slope : (s : Instance) (p q E : ℕ) (M : ℕ → ℤ) → ((k : ℕ) → k < s.count → AtEnd E (score p q (s.item k).weight (s.item k).price) (s.item k) (M k)) →
    (D : ℕ) (N : ℕ → ℤ) → ((k : ℕ) → k < s.count → Within D (s.item k) (N k))
    → (pos q *ℤ (valueᴰ s N *ℤ pos E) -ℤ pos p *ℤ (weighsᴰ s N *ℤ pos E)) ≤ℤ (pos q *ℤ (valueᴰ s M *ℤ pos D) -ℤ pos p *ℤ (weighsᴰ s M *ℤ pos D))
slope s p q E M ends D N inside =
    subst₂ ◌≤ℤ◌ (scored N E) (scored M D) (sum_mono s.count _ _ (λ k l. at-end D E _ (s.item k) (N k) (M k) (inside k l) (ends k l)))
  where
    weights : ℕ → ℤ
    weights k = (s.item k).weight

    prices : ℕ → ℤ
    prices k = (s.item k).price

    scored : (X : ℕ → ℤ) (F : ℕ) →
        sum s.count (λ k. score p q (weights k) (prices k) *ℤ (X k *ℤ pos F)) ≡ pos q *ℤ (valueᴰ s X *ℤ pos F) -ℤ pos p *ℤ (weighsᴰ s X *ℤ pos F)
    scored X F = sum-score s.count p q weights prices (λ k. X k *ℤ pos F) ∙ ap₂ (λ x y. pos q *ℤ x -ℤ pos p *ℤ y) (sum-times s.count prices X F)
        (sum-times s.count weights X F)

-- no feasible point is worth more than M / E, be M feasible or not
pub certified : (s : Instance) (E : ℕ) (M : ℕ → ℤ) → 1 ≤ E → Certificate s E M → (D : ℕ) (N : ℕ → ℤ) → 1 ≤ D → Feasibleᴰ s D N →
    (valueᴰ s N *ℤ pos E) ≤ℤ (valueᴰ s M *ℤ pos D)
certified s E M e c D N d p = subst₂ ◌≤ℤ◌ (sum-times s.count prices N E) (sum-times s.count prices M D)
    (optimal s.count c.p c.q weights prices (λ k. N k *ℤ pos E) (λ k. M k *ℤ pos D) ((s.capacity *ℤ pos D) *ℤ pos E) c.q≥1
    (λ k l. at-end D E _ (s.item k) (N k) (M k) (within (p.keeps k l)) (c.ends k l))
    (rw (sum-times s.count weights N E) (times-≤ E _ _ p.fits))
    (rw (sum-times s.count weights M D) (tighten c.p (weighsᴰ s M) s.capacity c.tight)))
  where
    weights : ℕ → ℤ
    weights k = (s.item k).weight

    prices : ℕ → ℤ
    prices k = (s.item k).price

    assoc : (x y : ℤ) (n : ℕ) → x *ℤ (y *ℤ pos n) ≡ (x *ℤ y) *ℤ pos n
    assoc = split2 _ (λ a b c e n. simp zed (omega arith))

    regroup : (x l : ℤ) (n m : ℕ) → (x *ℤ (l *ℤ pos n)) *ℤ pos m ≡ x *ℤ ((l *ℤ pos m) *ℤ pos n)
    regroup = split2 _ (λ a b c e n m. simp zed (omega arith))

    tighten : (p : ℕ) (A l : ℤ) → pos p *ℤ A ≡ pos p *ℤ (l *ℤ pos E) → pos p *ℤ (A *ℤ pos D) ≡ pos p *ℤ ((l *ℤ pos D) *ℤ pos E)
    tighten p A l h = assoc (pos p) A D ∙ ap (λ z. z *ℤ pos D) h ∙ regroup (pos p) l E D
