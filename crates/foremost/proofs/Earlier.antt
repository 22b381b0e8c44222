-- The order of points over a common divisor: amounts are integers, the least amount of item 0 comes first, then of item 1, and so on.
--   Earlierᴰ n x y      x and y agree on the items before some k < n, and x k < y k
--   Agree n x y         x and y agree on the items below n
--   NotAfter n x y      they agree, or x comes before y;  NoLater n A x B y: the same of x / A and y / B
--   Cmp x y, Trichotomy n x y   which of two numbers, of two points, is the first
-- earlier-irreflexive, earlier-transitive, earlier-asymmetric, trichotomy: a strict total order of the points that differ below n.
-- not_after, not-after-not: not after is that the other does not come before.  not-after-trans, -total: the order that is not strict.
-- earlier-cong, not-after-cong: the order does not look beyond n.  earlier-times, -back, not-after-times, -back: nor at the divisor.
-- cross-trans, no-later-trans: of three fractions, of three points with divisors of their own.
use mathlib.Core.Path.{◌≡◌, refl, sym, ap, ◌∙◌, subst, subst₂}
use mathlib.Core.Logic.{◌⊎◌, inl, inr}
use Prim.Native.Nat.{ℕ, zero, suc, ◌≤◌, ◌<◌}
use native.Mathlib.Omega.{arith}
use native.Mathlib.Decide.{dec_lt, ℕ_discrete}
use native.Mathlib.Nat.{mul-le-mul_right}
use lib.IntN.{ℤ, pos, ◌*ℤ◌}
use lib.Signed.{◌≤ℤ◌, ◌<ℤ◌}
use Rattle.arith.proofs.Integers.{split, split2, split3, zed, ≤ℤ-or-<, ≤ℤ-antisym, ≤ℤ-trans, ≤ℤ-reflexive, times-≤, times-≤-back, times-≡-back}
use Rattle.arith.specs.Sum.{Each}

pub record Earlierᴰ (n : ℕ) (x y : ℕ → ℤ) : Type 0 where
  pub place : ℕ
  pub below : place < n
  pub same : Each place (λ j. x j ≡ y j)
  pub less : x place <ℤ y place

abbrev pub Agree : ℕ → (x y : ℕ → ℤ) → Type 0
Agree n x y = Each n (λ j. x j ≡ y j)

abbrev pub NotAfter : ℕ → (x y : ℕ → ℤ) → Type 0
NotAfter n x y = Agree n x y ⊎ Earlierᴰ n x y

-- x / A does not come after y / B
abbrev pub NoLater : ℕ → ℕ → (ℕ → ℤ) → ℕ → (ℕ → ℤ) → Type 0
NoLater n A x B y = NotAfter n (λ k. x k *ℤ pos B) (λ k. y k *ℤ pos A)

-- ---- integers

<_irreflexive : (x y : ℤ) → x ≡ y → x <ℤ y → ⊥
<_irreflexive = split2 _ (λ a b c e. simp zed (omega arith))

<_transitive : (x y z : ℤ) → x <ℤ y → y <ℤ z → x <ℤ z
<_transitive = split3 _ (λ a b c e f g. simp zed (omega arith))

pub data Cmp (x y : ℤ) : Type 0 where
  below : x <ℤ y → Cmp x y
  equal : x ≡ y → Cmp x y
  above : y <ℤ x → Cmp x y

pub cmp : (x y : ℤ) → Cmp x y
cmp x y = go (≤ℤ-or-< x y) (≤ℤ-or-< y x)
  where
    go : (x ≤ℤ y) ⊎ (y <ℤ x) → (y ≤ℤ x) ⊎ (x <ℤ y) → Cmp x y
    go (inr h) k = above h
    go (inl h) (inr k) = below k
    go (inl h) (inl k) = equal (≤ℤ-antisym h k)

-- ---- a strict total order

pub earlier-irreflexive : (n : ℕ) (x y : ℕ → ℤ) → Agree n x y → Earlierᴰ n x y → ⊥
earlier-irreflexive n x y a h = <_irreflexive (x h.place) (y h.place) (a h.place h.below) h.less

pub earlier-transitive : {n : ℕ} {x y z : ℕ → ℤ} → Earlierᴰ n x y → Earlierᴰ n y z → Earlierᴰ n x z
earlier-transitive {n} {x} {y} {z} h k = go (dec_lt h.place k.place) (dec_lt k.place h.place)
  where
    go : Dec (h.place < k.place) → Dec (k.place < h.place) → Earlierᴰ n x z
    go (yes l) d = record {
      place = h.place;
      below = h.below;
      same = λ j m. h.same j m ∙ k.same j (omega arith);
      less = subst (λ w. x h.place <ℤ w) (k.same h.place l) h.less;
    }
    go (no l) (yes m) = record {
      place = k.place;
      below = k.below;
      same = λ j i. h.same j (omega arith) ∙ k.same j i;
      less = subst (λ w. w <ℤ z k.place) (sym (h.same k.place m)) k.less;
    }
    go (no l) (no m) = let e : k.place ≡ h.place = omega arith in
        record {
          place = h.place;
          below = h.below;
          same = λ j i. h.same j i ∙ k.same j (omega arith);
          less = <_transitive (x h.place) (y h.place) (z h.place) h.less (subst (λ j. y j <ℤ z j) e k.less);
        }

pub earlier-asymmetric : {n : ℕ} {x y : ℕ → ℤ} → Earlierᴰ n x y → Earlierᴰ n y x → ⊥
earlier-asymmetric {n} {x} {y} h k = earlier-irreflexive n x x (λ j l. refl) (earlier-transitive h k)

pub data Trichotomy (n : ℕ) (x y : ℕ → ℤ) : Type 0 where
  before : Earlierᴰ n x y → Trichotomy n x y
  agree : Agree n x y → Trichotomy n x y
  after : Earlierᴰ n y x → Trichotomy n x y

more : {n : ℕ} {x y : ℕ → ℤ} → Earlierᴰ n x y → Earlierᴰ (suc n) x y
more h = record { place = h.place; below = omega (arith, h.below); same = h.same; less = h.less }

flip : {n : ℕ} {x y : ℕ → ℤ} → Agree n x y → Agree n y x
flip a j l = sym (a j l)

pub trichotomy : (n : ℕ) (x y : ℕ → ℤ) → Trichotomy n x y
trichotomy zero x y = agree (λ j l. absurd (omega arith))
trichotomy (suc n) x y = go (trichotomy n x y) (cmp (x n) (y n))
  where
    all : Agree n x y → x n ≡ y n → (j : ℕ) → j < suc n → Dec (j ≡ n) → x j ≡ y j
    all a e j l (yes q) = rw q e
    all a e j l (no q) = a j (omega arith)

    go : Trichotomy n x y → Cmp (x n) (y n) → Trichotomy (suc n) x y
    go (before h) c = before (more h)
    go (after h) c = after (more h)
    go (agree a) (below h) = before (record { place = n; below = omega arith; same = a; less = h })
    go (agree a) (above h) = after (record { place = n; below = omega arith; same = flip a; less = h })
    go (agree a) (equal e) = agree (λ j l. all a e j l (ℕ_discrete j n))

-- ---- not after

pub not_after : (n : ℕ) (x y : ℕ → ℤ) → ¬ Earlierᴰ n y x → NotAfter n x y
not_after n x y h = go (trichotomy n x y)
  where
    go : Trichotomy n x y → NotAfter n x y
    go (before k) = inr k
    go (agree a) = inl a
    go (after k) = absurd (h k)

pub not-after-not : (n : ℕ) (x y : ℕ → ℤ) → NotAfter n x y → ¬ Earlierᴰ n y x
not-after-not n x y (inl a) h = earlier-irreflexive n y x (flip a) h
not-after-not n x y (inr k) h = earlier-asymmetric k h

pub not-after-total : (n : ℕ) (x y : ℕ → ℤ) → NotAfter n x y ⊎ NotAfter n y x
not-after-total n x y = go (trichotomy n x y)
  where
    go : Trichotomy n x y → NotAfter n x y ⊎ NotAfter n y x
    go (before k) = inl (inr k)
    go (agree a) = inl (inl a)
    go (after k) = inr (inr k)

-- ---- points that agree, and other divisors

pub earlier-cong : {n : ℕ} {x y x' y' : ℕ → ℤ} → Agree n x x' → Agree n y y' → Earlierᴰ n x y → Earlierᴰ n x' y'
earlier-cong {n} {x} {y} {x'} {y'} a b h = record {
  place = h.place;
  below = h.below;
  same = λ j l. sym (a j (omega (arith, h.below))) ∙ h.same j l ∙ b j (omega (arith, h.below));
  less = subst₂ ◌<ℤ◌ (a h.place h.below) (b h.place h.below) h.less;
}

pub not-after-cong : {n : ℕ} {x y x' y' : ℕ → ℤ} → Agree n x x' → Agree n y y' → NotAfter n x y → NotAfter n x' y'
not-after-cong a b (inl h) = inl (λ j l. sym (a j l) ∙ h j l ∙ b j l)
not-after-cong a b (inr h) = inr (earlier-cong a b h)

pub not-after-trans : {n : ℕ} {x y z : ℕ → ℤ} → NotAfter n x y → NotAfter n y z → NotAfter n x z
not-after-trans (inl a) (inl b) = inl (λ j l. a j l ∙ b j l)
not-after-trans (inl a) (inr k) = inr (earlier-cong (flip a) (λ j l. refl) k)
not-after-trans (inr h) (inl b) = inr (earlier-cong (λ j l. refl) b h)
not-after-trans (inr h) (inr k) = inr (earlier-transitive h k)

times-< : (d : ℕ) (x y : ℤ) → 1 ≤ d → x <ℤ y → (x *ℤ pos d) <ℤ (y *ℤ pos d)
times-< d = split2 _ (λ a b c e. simp zed (λ p h. omega (arith, mul-le-mul_right d h)))

times-<-back : (d : ℕ) (x y : ℤ) → (x *ℤ pos d) <ℤ (y *ℤ pos d) → x <ℤ y
times-<-back d x y h = go (≤ℤ-or-< y x)
  where
    clash : (x y : ℤ) → (x *ℤ pos d) <ℤ (y *ℤ pos d) → y ≤ℤ x → ⊥
    clash = split2 _ (λ a b c e. simp zed (λ h k. omega (arith, mul-le-mul_right d k)))

    go : (y ≤ℤ x) ⊎ (x <ℤ y) → x <ℤ y
    go (inl k) = absurd (clash x y h k)
    go (inr k) = k

-- the points over d times the divisor
pub earlier-times : (d : ℕ) {n : ℕ} {x y : ℕ → ℤ} → 1 ≤ d → Earlierᴰ n x y → Earlierᴰ n (λ k. x k *ℤ pos d) (λ k. y k *ℤ pos d)
earlier-times d p h = record { place = h.place; below = h.below; same = λ j l. ap (λ z. z *ℤ pos d) (h.same j l); less = times-< d _ _ p h.less }

pub earlier-back : (d n : ℕ) (x y : ℕ → ℤ) → 1 ≤ d → Earlierᴰ n (λ k. x k *ℤ pos d) (λ k. y k *ℤ pos d) → Earlierᴰ n x y
earlier-back d n x y p h = record {
  place = h.place;
  below = h.below;
  same = λ j l. times-≡-back d (x j) (y j) p (h.same j l);
  less = times-<-back d (x h.place) (y h.place) h.less;
}

pub not-after-times : (d : ℕ) {n : ℕ} {x y : ℕ → ℤ} → 1 ≤ d → NotAfter n x y → NoLater n d x d y
not-after-times d p (inl a) = inl (λ j l. ap (λ z. z *ℤ pos d) (a j l))
not-after-times d p (inr h) = inr (earlier-times d p h)

pub not-after-back : (d n : ℕ) (x y : ℕ → ℤ) → 1 ≤ d → NoLater n d x d y → NotAfter n x y
not-after-back d n x y p (inl a) = inl (λ j l. times-≡-back d (x j) (y j) p (a j l))
not-after-back d n x y p (inr h) = inr (earlier-back d n x y p h)

-- ---- three divisors

swap : (z : ℤ) (m n : ℕ) → (z *ℤ pos m) *ℤ pos n ≡ (z *ℤ pos n) *ℤ pos m
swap = split _ (λ a b m n. simp zed (omega arith))

-- x / A ≤ y / B ≤ z / C
pub cross-trans : (x y z : ℤ) (A B C : ℕ) → 1 ≤ B → (x *ℤ pos B) ≤ℤ (y *ℤ pos A) → (y *ℤ pos C) ≤ℤ (z *ℤ pos B) → (x *ℤ pos C) ≤ℤ (z *ℤ pos A)
cross-trans x y z A B C b h k = times-≤-back B (x *ℤ pos C) (z *ℤ pos A) b
    (≤ℤ-trans (≤ℤ-reflexive (swap x C B))
    (≤ℤ-trans (times-≤ C _ _ h) (≤ℤ-trans (≤ℤ-reflexive (swap y A C)) (≤ℤ-trans (times-≤ A _ _ k) (≤ℤ-reflexive (swap z B A))))))

-- the same of the order of points
pub no-later-trans : (n : ℕ) (x y z : ℕ → ℤ) (A B C : ℕ) → 1 ≤ A → 1 ≤ B → 1 ≤ C → NoLater n A x B y → NoLater n B y C z → NoLater n A x C z
no-later-trans n x y z A B C a b c h k = not-after-back B n (λ k. x k *ℤ pos C) (λ k. z k *ℤ pos A) b
    (not-after-trans (not-after-cong (λ j l. swap (x j) B C) (λ j l. swap (y j) A C) (not-after-times C c h))
    (not-after-cong (λ j l. refl) (λ j l. swap (z j) B A) (not-after-times A a k)))
