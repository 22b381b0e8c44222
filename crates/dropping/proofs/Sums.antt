-- Sums over kept places, and fractions of equal value.
--   x ≃ y           x and y have one value, as a record (so that both are found from a proof of it)
-- ≃-refl, ≃-sym, ≃-join: its laws; +-≃, nothing-more, +-none, none-≃: sums keep it, and nothing adds nothing; ≤-≃, <-≃: orders keep it.
-- total_kept: a sum whose terms are 0 where a place is left out is the sum over the kept places, moved down.
use mathlib.Core.Bool.{Bool, true, false}
use mathlib.Core.Logic.{◌⊎◌, inl, inr}
use mathlib.Core.Path.{◌≡◌, refl, sym}
use Prim.Native.Nat.{ℕ, zero, suc, ◌*◌}
use native.Mathlib.Omega.{arith}
use native.Mathlib.Nat.{mul_comm, mul-le-mul}
use lib.IntN.{ℤ, pos, ◌+ℤ◌, ◌*ℤ◌}
use lib.Signed.{◌≤ℤ◌, ◌<ℤ◌}
use Rattle.arith.proofs.Fractions.{Over, over-+, over-≤, over-≈, over-scale, <ᶠ-not-≤}
use Rattle.arith.proofs.Integers.{split, zed, ≤ℤ-or-<}
use Rattle.arith.specs.Fractions.{Frac, int, ◌+ᶠ◌, ◌·ᶠ◌, ◌≤ᶠ◌, ◌<ᶠ◌, ◌≈ᶠ◌, total}
use Rattle.arith.specs.Sum.{Each}
use Rattle.dropping.proofs.Kept.{rank-none, rank-kept, rank_left}
use Rattle.dropping.specs.Kept.{rank}

-- ---- equality of values

infix 4 ◌≃◌
pub record ◌≃◌ (x y : Frac) : Type 0 where
  pub same : x ≈ᶠ y

≃-over : {x y : Frac} → x ≃ y → Over y.den x y.num
unfolding ◌≈ᶠ◌
≃-over h = record { eq = h.same }

pub ≃-refl : (x : Frac) → x ≃ x
unfolding ◌≈ᶠ◌
≃-refl x = record { same = refl }

pub ≃-sym : {x y : Frac} → x ≃ y → y ≃ x
unfolding ◌≈ᶠ◌
≃-sym h = record { same = sym h.same }

-- two fractions equal to a third
pub ≃-join : {x y z : Frac} → x ≃ z → y ≃ z → x ≃ y
≃-join {x} {y} {z} h k = record { same = over-≈ (≃-over h) (≃-over k) z.den≥1 refl }

-- two fractions read over one divisor, by fractions of equal value
both : {x x' y y' : Frac} → x ≃ x' → y ≃ y' → Over (x'.den * y'.den) x (x'.num *ℤ pos y'.den) × Over (x'.den * y'.den) y (y'.num *ℤ pos x'.den)
both {x} {x'} {y} {y'} h k = (over-scale y'.den (≃-over h), rw (mul_comm y'.den x'.den) at (over-scale x'.den (≃-over k)))

pub +-≃ : {x x' y y' : Frac} → x ≃ x' → y ≃ y' → x +ᶠ y ≃ x' +ᶠ y'
unfolding ◌≈ᶠ◌ ◌+ᶠ◌
+-≃ h k = record { same = (over-+ (both h k).0 (both h k).1).eq }

pub nothing-more : (x : Frac) → x ≃ x +ᶠ int (pos 0)
unfolding ◌≈ᶠ◌ ◌+ᶠ◌
nothing-more x = record { same = go x.num x.den }
  where
    go : (p : ℤ) (q : ℕ) → p *ℤ pos (q * 1) ≡ (p *ℤ pos 1 +ℤ pos 0 *ℤ pos q) *ℤ pos q
    go = split _ (λ a b q. simp zed (omega arith))

pub +-none : {x x' y : Frac} → x ≃ x' → y ≃ int (pos 0) → x +ᶠ y ≃ x'
+-none {x} {x'} {y} h k = ≃-join (+-≃ h k) (nothing-more x')

-- no amount of nothing
pub none-≃ : (x : Frac) → pos 0 ·ᶠ x ≃ int (pos 0)
unfolding ◌≈ᶠ◌ ◌·ᶠ◌
none-≃ x = record { same = go x.num x.den }
  where
    go : (p : ℤ) (q : ℕ) → (pos 0 *ℤ p) *ℤ pos 1 ≡ pos 0 *ℤ pos q
    go = split _ (λ a b q. simp zed (omega arith))

pub ≤-≃ : {x x' y y' : Frac} → x ≃ x' → y ≃ y' → x ≤ᶠ y → x' ≤ᶠ y'
≤-≃ {x} {x'} {y} {y'} h k l =
    let d = mul-le-mul x'.den≥1 y'.den≥1 in
    let p = both h k in
    let q = both (≃-refl x') (≃-refl y') in
    (over-≤ d q.0 q.1).1 ((over-≤ d p.0 p.1).0 l)

above : (x y : Frac) → (y ≤ᶠ x → ⊥) → x <ᶠ y
unfolding ◌<ᶠ◌ ◌≤ᶠ◌
above x y h = go (≤ℤ-or-< (y.num *ℤ pos x.den) (x.num *ℤ pos y.den))
  where
    go : ((y.num *ℤ pos x.den) ≤ℤ (x.num *ℤ pos y.den)) ⊎ ((x.num *ℤ pos y.den) <ℤ (y.num *ℤ pos x.den))
        → (x.num *ℤ pos y.den) <ℤ (y.num *ℤ pos x.den)
    go (inl r) = absurd (h r)
    go (inr r) = r

pub <-≃ : {x x' y y' : Frac} → x ≃ x' → y ≃ y' → x <ᶠ y → x' <ᶠ y'
<-≃ {x} {x'} {y} {y'} h k l = above x' y' (λ m. <ᶠ-not-≤ x y l (≤-≃ (≃-sym k) (≃-sym h) m))

-- ---- sums over kept places

module _ (keep : ℕ → Bool) where
  pub total_kept : (n : ℕ) (f g : ℕ → Frac) → Each n (λ k. keep k ≡ true → f k ≃ g (rank keep k)) → Each n (λ k. keep k ≡ false → f k ≃ int (pos 0))
      → total n f ≃ total (rank keep n) g
  total_kept zero f g h o = rw (rank-none keep) (≃-refl (int (pos 0)))
  total_kept (suc n) f g h o = go (keep n) refl (total_kept n f g (λ k l. h k (omega arith)) (λ k l. o k (omega arith)))
    where
      go : (b : Bool) → keep n ≡ b → total n f ≃ total (rank keep n) g → total n f +ᶠ f n ≃ total (rank keep (suc n)) g
      go true e ih = rw (rank-kept keep n e) (+-≃ ih (h n (omega arith) e))
      go false e ih = rw (rank_left keep n e) (+-none ih (o n (omega arith) e))
