-- Fractions over one common divisor D.
--   Over D x n      x = n / D
--   Common n x      a divisor that serves the first n of the fractions x
-- over-…: sums, multiples and orders of fractions are those of the numerators over D.
-- common: there is such a divisor.
-- ≤ᶠ-trans, ≤ᶠ-antisym, <ᶠ-not-≤, ≈ᶠ-≤, ≈ᶠ-≥: the order of fractions.
use mathlib.Core.Path.{◌≡◌, refl, sym, ap, ap₂, ◌∙◌, subst₂}
use mathlib.Core.Logic.{◌↔◌, ◌⊎◌, inl, inr}
use Prim.Native.Nat.{ℕ, zero, suc, ◌*◌, ◌≤◌, ◌<◌}
use native.Mathlib.Omega.{arith}
use native.Mathlib.Nat.{mul-le-mul}
use native.Mathlib.Decide.{ℕ_discrete}
use lib.IntN.{ℤ, pos, ◌+ℤ◌, ◌*ℤ◌}
use lib.Signed.{◌≤ℤ◌, ◌<ℤ◌, clash_ℤ}
use Rattle.arith.specs.Sum.{sum, Each, pick}
use Rattle.arith.specs.Fractions.{Frac, int, frac, ◌+ᶠ◌, ◌·ᶠ◌, ◌≤ᶠ◌, ◌<ᶠ◌, ◌≈ᶠ◌, total}
use Rattle.arith.proofs.Integers.{split, split2, zed, ≤ℤ-or-<, ≤ℤ-trans, ≤ℤ-antisym, ≤ℤ-reflexive, times-≤, times-≤-back, times-≡-back}
use Rattle.arith.proofs.Sums.{pick_ind}

-- only the first n fractions matter
pub total-cong : (n : ℕ) (f g : ℕ → Frac) → Each n (λ k. f k ≡ g k) → total n f ≡ total n g
total-cong zero f g e = refl
total-cong (suc n) f g e = ap (λ x. x +ᶠ f n) (total-cong n f g (λ k h. e k (omega arith))) ∙ ap (λ y. total n g +ᶠ y) (e n (omega arith))

-- x = n / D
pub record Over (D : ℕ) (x : Frac) (n : ℤ) : Type 0 where
  pub eq : x.num *ℤ pos D ≡ n *ℤ pos x.den

pub over-int : (D : ℕ) (l : ℤ) → Over D (int l) (l *ℤ pos D)
over-int D l = record { eq = go l }
  where
    go : (l : ℤ) → l *ℤ pos D ≡ (l *ℤ pos D) *ℤ pos 1
    go = split _ (λ a b. simp zed (omega arith))

pub over-frac : (p : ℤ) (q : ℕ) → 1 ≤ q → Over q (frac p q) p
over-frac p q h = record { eq = ap (λ (n : ℕ). p *ℤ pos n) (omega arith) }

pub over-· : {D : ℕ} {x : Frac} {n : ℤ} (c : ℤ) → Over D x n → Over D (c ·ᶠ x) (c *ℤ n)
unfolding ◌·ᶠ◌
over-· {D} {x} {n} c h = record { eq = assoc c x.num D ∙ ap (λ z. c *ℤ z) h.eq ∙ sym (assoc c n x.den) }
  where
    assoc : (x y : ℤ) (n : ℕ) → (x *ℤ y) *ℤ pos n ≡ x *ℤ (y *ℤ pos n)
    assoc = split2 _ (λ a b c e n. simp zed (omega arith))

pub over-+ : {D : ℕ} {x y : Frac} {m n : ℤ} → Over D x m → Over D y n → Over D (x +ᶠ y) (m +ℤ n)
unfolding ◌+ᶠ◌
over-+ {D} {x} {y} {m} {n} h k =
    record {
      eq = left x.num y.num x.den y.den D ∙ ap₂ (λ z w. z *ℤ pos y.den +ℤ w *ℤ pos x.den) h.eq k.eq
          ∙ right m n x.den y.den;
    }
  where
    left : (p r : ℤ) (q s D : ℕ) → (p *ℤ pos s +ℤ r *ℤ pos q) *ℤ pos D ≡ (p *ℤ pos D) *ℤ pos s +ℤ (r *ℤ pos D) *ℤ pos q
    left = split2 _ (λ a b c e q s D. simp zed (omega arith))

    right : (m n : ℤ) (q s : ℕ) → (m *ℤ pos q) *ℤ pos s +ℤ (n *ℤ pos s) *ℤ pos q ≡ (m +ℤ n) *ℤ pos (q * s)
    right = split2 _ (λ a b c e q s. simp zed (omega arith))

pub over-≤ : {D : ℕ} {x y : Frac} {m n : ℤ} → 1 ≤ D → Over D x m → Over D y n → (x ≤ᶠ y) ↔ (m ≤ℤ n)
unfolding ◌≤ᶠ◌
over-≤ {D} {x} {y} {m} {n} d h k = (
  λ l. times-≤-back (x.den * y.den) m n den (subst₂ ◌≤ℤ◌ left right (times-≤ D _ _ l)),
  λ l. times-≤-back D _ _ d (subst₂ ◌≤ℤ◌ (sym left) (sym right) (times-≤ (x.den * y.den) m n l)),
)
  where
    den : 1 ≤ x.den * y.den
    den = mul-le-mul x.den≥1 y.den≥1

    swap : (p : ℤ) (s D : ℕ) → (p *ℤ pos s) *ℤ pos D ≡ (p *ℤ pos D) *ℤ pos s
    swap = split _ (λ a b s D. simp zed (omega arith))

    join : (n : ℤ) (q s : ℕ) → (n *ℤ pos q) *ℤ pos s ≡ n *ℤ pos (q * s)
    join = split _ (λ a b q s. simp zed (omega arith))

    join' : (n : ℤ) (q s : ℕ) → (n *ℤ pos q) *ℤ pos s ≡ n *ℤ pos (s * q)
    join' = split _ (λ a b q s. simp zed (omega arith))

    left : (x.num *ℤ pos y.den) *ℤ pos D ≡ m *ℤ pos (x.den * y.den)
    left = swap x.num y.den D ∙ ap (λ z. z *ℤ pos y.den) h.eq ∙ join m x.den y.den

    right : (y.num *ℤ pos x.den) *ℤ pos D ≡ n *ℤ pos (x.den * y.den)
    right = swap y.num x.den D ∙ ap (λ z. z *ℤ pos x.den) k.eq ∙ join' n y.den x.den

pub over-total : (D n : ℕ) (x : ℕ → Frac) (N : ℕ → ℤ) → Each n (λ k. Over D (x k) (N k)) → (a : ℕ → ℤ)
    → Over D (total n (λ k. a k ·ᶠ x k)) (sum n (λ k. a k *ℤ N k))
over-total D zero x N h a = record { eq = simp zed (omega arith) }
over-total D (suc n) x N h a = over-+ (over-total D n x N (λ k l. h k (omega arith)) a) (over-· (a n) (h n (omega arith)))

-- ---- a common divisor exists

pub over-scale : {D : ℕ} {x : Frac} {m : ℤ} (E : ℕ) → Over D x m → Over (D * E) x (m *ℤ pos E)
over-scale {D} {x} {m} E h = record { eq = sym (join x.num D E) ∙ ap (λ z. z *ℤ pos E) h.eq ∙ swap m x.den E }
  where
    join : (n : ℤ) (q s : ℕ) → (n *ℤ pos q) *ℤ pos s ≡ n *ℤ pos (q * s)
    join = split _ (λ a b q s. simp zed (omega arith))

    swap : (p : ℤ) (s D : ℕ) → (p *ℤ pos s) *ℤ pos D ≡ (p *ℤ pos D) *ℤ pos s
    swap = split _ (λ a b s D. simp zed (omega arith))

pub over-own : (D : ℕ) (x : Frac) → Over (D * x.den) x (x.num *ℤ pos D)
over-own D x = record { eq = go x.num D x.den }
  where
    go : (p : ℤ) (D q : ℕ) → p *ℤ pos (D * q) ≡ (p *ℤ pos D) *ℤ pos q
    go = split _ (λ a b D q. simp zed (omega arith))

pub record Common (n : ℕ) (x : ℕ → Frac) : Type 0 where
  pub D : ℕ
  pub N : ℕ → ℤ
  pub D≥1 : 1 ≤ D
  pub reads : (k : ℕ) → k < n → Over D (x k) (N k)

pub common : (n : ℕ) (x : ℕ → Frac) → Common n x
common zero x = record { D = 1; N = λ k. pos 0; D≥1 = omega arith; reads = λ k l. absurd (omega arith) }
common (suc n) x = more (common n x)
  where
    more : Common n x → Common (suc n) x
    more c = record {
      D = c.D * (x n).den;
      N = λ k. pick (ℕ_discrete k n) ((x k).num *ℤ pos c.D) (c.N k *ℤ pos (x n).den);
      D≥1 = mul-le-mul c.D≥1 (x n).den≥1;
      reads = λ k l. pick_ind (λ z. Over (c.D * (x n).den) (x k) z) (ℕ_discrete k n) _ _ (λ e. rw e (over-own c.D (x n)))
          (λ e. over-scale (x n).den (c.reads k (omega arith)));
    }

pub over-< : {D : ℕ} {x y : Frac} {m n : ℤ} → 1 ≤ D → Over D x m → Over D y n → m <ℤ n → x <ᶠ y
unfolding ◌<ᶠ◌ ◌≤ᶠ◌
over-< {D} {x} {y} {m} {n} d h k l = go (≤ℤ-or-< (y.num *ℤ pos x.den) (x.num *ℤ pos y.den))
  where
    go : ((y.num *ℤ pos x.den) ≤ℤ (x.num *ℤ pos y.den)) ⊎ ((x.num *ℤ pos y.den) <ℤ (y.num *ℤ pos x.den))
        → (x.num *ℤ pos y.den) <ℤ (y.num *ℤ pos x.den)
    go (inl r) = clash_ℤ l ((over-≤ d k h).0 r)
    go (inr r) = r

pub over-≈ : {D : ℕ} {x y : Frac} {m n : ℤ} → Over D x m → Over D y n → 1 ≤ D → m ≡ n → x ≈ᶠ y
unfolding ◌≈ᶠ◌
over-≈ {D} {x} {y} {m} {n} h k d e =
    times-≡-back D _ _ d (swap x.num y.den D ∙ ap (λ z. z *ℤ pos y.den) (h.eq ∙ ap (λ z. z *ℤ pos x.den) e) ∙ reorder n x.den y.den
    ∙ ap (λ z. z *ℤ pos x.den) (sym k.eq) ∙ swap y.num D x.den)
  where
    swap : (p : ℤ) (s D : ℕ) → (p *ℤ pos s) *ℤ pos D ≡ (p *ℤ pos D) *ℤ pos s
    swap = split _ (λ a b s D. simp zed (omega arith))

    reorder : (n : ℤ) (s t : ℕ) → (n *ℤ pos s) *ℤ pos t ≡ (n *ℤ pos t) *ℤ pos s
    reorder = split _ (λ a b s t. simp zed (omega arith))

-- ---- the order

pub ≤ᶠ-trans : (x y z : Frac) → x ≤ᶠ y → y ≤ᶠ z → x ≤ᶠ z
unfolding ◌≤ᶠ◌
≤ᶠ-trans x y z h k =
    times-≤-back y.den _ _ y.den≥1
    (subst₂ ◌≤ℤ◌ (swap x.num y.den z.den) (swap z.num y.den x.den)
    (≤ℤ-trans (times-≤ z.den _ _ h) (subst₂ ◌≤ℤ◌ (swap y.num z.den x.den) refl (times-≤ x.den _ _ k))))
  where
    swap : (p : ℤ) (s D : ℕ) → (p *ℤ pos s) *ℤ pos D ≡ (p *ℤ pos D) *ℤ pos s
    swap = split _ (λ a b s D. simp zed (omega arith))

pub ≤ᶠ-antisym : (x y : Frac) → x ≤ᶠ y → y ≤ᶠ x → x ≈ᶠ y
unfolding ◌≤ᶠ◌ ◌≈ᶠ◌
≤ᶠ-antisym x y h k = ≤ℤ-antisym h k

pub <ᶠ-not-≤ : (x y : Frac) → x <ᶠ y → y ≤ᶠ x → ⊥
unfolding ◌<ᶠ◌ ◌≤ᶠ◌
<ᶠ-not-≤ x y h k = clash_ℤ h k

pub ≈ᶠ-≤ : (x y : Frac) → x ≈ᶠ y → x ≤ᶠ y
unfolding ◌≈ᶠ◌ ◌≤ᶠ◌
≈ᶠ-≤ x y h = ≤ℤ-reflexive h

pub ≈ᶠ-≥ : (x y : Frac) → x ≈ᶠ y → y ≤ᶠ x
unfolding ◌≈ᶠ◌ ◌≤ᶠ◌
≈ᶠ-≥ x y h = ≤ℤ-reflexive (sym h)
