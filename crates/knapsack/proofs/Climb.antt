-- Arguments that end: improving a value that is bounded, and lowering a measure.
use mathlib.Core.Logic.{◌⊎◌, inl, inr}
use Prim.Native.Nat.{ℕ, zero, suc, ◌+◌, ◌*◌, ◌≤◌, ◌<◌}
use native.Mathlib.Omega.{arith}
use native.Mathlib.Nat.{mul-le-mul_right}
use lib.IntN.{ℤ, pos, nat_abs, ◌+ℤ◌, ◌-ℤ◌}
use lib.Signed.{◌≤ℤ◌, ≤ℤ_refl}
use Rattle.arith.proofs.Integers.{split2, split3, zed, ≤ℤ-trans}

-- each number is at most some natural number above any other
pub gap : (u v : ℤ) → (n : ℕ) × (u ≤ℤ (v +ℤ pos n))
gap = split2 _ (λ a b c e. (a + e, simp zed (omega arith)))

module _ {A : Type 0} (P : A → Type 0) (v : A → ℤ) (best U : ℤ) (bounded : (x : A) → P x → v x ≤ℤ U)
    (step : (x : A) → P x → (v x ≤ℤ best) ⊎ ((y : A) × P y × ((v x +ℤ pos 1) ≤ℤ v y))) where
  climbing : (n : ℕ) (x : A) → P x → U ≤ℤ (v x +ℤ pos n) → v x ≤ℤ best
  climbing zero x p l = go (step x p)
    where
      clash : (u x y : ℤ) → u ≤ℤ (x +ℤ pos 0) → (x +ℤ pos 1) ≤ℤ y → y ≤ℤ u → ⊥
      clash = split3 _ (λ a b c e f g. simp zed (omega arith))

      go : (v x ≤ℤ best) ⊎ ((y : A) × P y × ((v x +ℤ pos 1) ≤ℤ v y)) → v x ≤ℤ best
      go (inl h) = h
      go (inr (y, p', h)) = absurd (clash U (v x) (v y) l h (bounded y p'))
  climbing (suc n) x p l = go (step x p) (λ y p' h. climbing n y p' (closer U (v x) (v y) l h))
    where
      closer : (u x y : ℤ) → u ≤ℤ (x +ℤ pos (suc n)) → (x +ℤ pos 1) ≤ℤ y → u ≤ℤ (y +ℤ pos n)
      closer = split3 _ (λ a b c e f g. simp zed (omega arith))

      under : (x y z : ℤ) → (x +ℤ pos 1) ≤ℤ y → y ≤ℤ z → x ≤ℤ z
      under = split3 _ (λ a b c e f g. simp zed (omega arith))

      go : (v x ≤ℤ best) ⊎ ((y : A) × P y × ((v x +ℤ pos 1) ≤ℤ v y)) → ((y : A) → P y → (v x +ℤ pos 1) ≤ℤ v y → v y ≤ℤ best) → v x ≤ℤ best
      go (inl h) ih = h
      go (inr (y, p', h)) ih = under (v x) (v y) best h (ih y p' h)

  -- nothing is worth more than best, if each thing is not, or can be bettered
  pub climb : (x : A) → P x → v x ≤ℤ best
  climb x p = let g = gap U (v x) in climbing g.0 x p g.1

-- by steps that lower a measure one comes to a thing that is done, along a relation that composes
module _ {A : Type 0} (P Q : A → Type 0) (R : A → A → Type 0) (R-refl : (x : A) → R x x) (R-trans : (x y z : A) → R x y → R y z → R x z)
    (m : A → ℕ) (step : (x : A) → P x → Q x ⊎ ((y : A) × P y × R x y × (m y < m x))) where
  descending : (n : ℕ) (x : A) → P x → m x ≤ n → (y : A) × P y × Q y × R x y
  descending zero x p l = go (step x p)
    where
      go : Q x ⊎ ((y : A) × P y × R x y × (m y < m x)) → (y : A) × P y × Q y × R x y
      go (inl q) = (x, p, q, R-refl x)
      go (inr (y, p', r, h)) = absurd (omega arith)
  descending (suc n) x p l = go (step x p) (λ y p' h. descending n y p' (omega arith))
    where
      go : Q x ⊎ ((y : A) × P y × R x y × (m y < m x)) → ((y : A) → P y → m y < m x → (z : A) × P z × Q z × R y z) → (y : A) × P y × Q y × R x y
      go (inl q) ih = (x, p, q, R-refl x)
      go (inr (y, p', r, h)) ih = let e = ih y p' h in (e.0, e.1, e.2, R-trans x y e.0 r e.3)

  pub descend : (x : A) → P x → (y : A) × P y × Q y × R x y
  descend x p = descending (m x) x p (omega arith)

-- climbing with ties: a step may also keep the value and lower a rank (an equal-value pair, discarded in favour of the point that comes first)
module _ {A : Type 0} (P : A → Type 0) (v : A → ℤ) (rank : A → ℕ) (K : ℕ) (best U : ℤ) (bounded : (x : A) → P x → (v x ≤ℤ U) × (rank x < K))
    (step : (x : A) → P x → (v x ≤ℤ best) ⊎ ((y : A) × P y × (((v x +ℤ pos 1) ≤ℤ v y) ⊎ ((v x ≤ℤ v y) × (rank y < rank x))))) where
  -- what is left of the value counts K times as much as the rank
  left : A → ℕ
  left x = nat_abs (U -ℤ v x) * K + rank x

  lower : (x y : A) → v x ≤ℤ U → v y ≤ℤ U → rank y < K → ((v x +ℤ pos 1) ≤ℤ v y) ⊎ ((v x ≤ℤ v y) × (rank y < rank x)) → left y < left x
  unfolding left
  lower x y hx hy hr (inl h) = omega (arith, mul-le-mul_right K (gain (v x) (v y) U hy h))
    where
      gain : (x y u : ℤ) → y ≤ℤ u → (x +ℤ pos 1) ≤ℤ y → nat_abs (u -ℤ y) + 1 ≤ nat_abs (u -ℤ x)
      gain = split3 _ (λ a b c e f g. simp zed (omega arith))
  lower x y hx hy hr (inr (h, k)) = omega (arith, mul-le-mul_right K (keep (v x) (v y) U hy h))
    where
      keep : (x y u : ℤ) → y ≤ℤ u → x ≤ℤ y → nat_abs (u -ℤ y) ≤ nat_abs (u -ℤ x)
      keep = split3 _ (λ a b c e f g. simp zed (omega arith))

  pub climb-ties : (x : A) → P x → v x ≤ℤ best
  climb-ties x p =
      let d = descend P (λ y. v y ≤ℤ best) (λ y z. v y ≤ℤ v z) (λ y. ≤ℤ_refl (v y)) (λ y z w. ≤ℤ-trans) left (λ y q. go y q (step y q)) x p in
      ≤ℤ-trans d.3 d.2
    where
      weak : (x y : ℤ) → (x +ℤ pos 1) ≤ℤ y → x ≤ℤ y
      weak = split2 _ (λ a b c e. simp zed (omega arith))

      go : (x : A) → P x → (v x ≤ℤ best) ⊎ ((y : A) × P y × (((v x +ℤ pos 1) ≤ℤ v y) ⊎ ((v x ≤ℤ v y) × (rank y < rank x)))) →
          (v x ≤ℤ best) ⊎ ((y : A) × P y × (v x ≤ℤ v y) × (left y < left x))
      go x p (inl h) = inl h
      go x p (inr (y, q, inl h)) = inr (y, q, weak (v x) (v y) h, lower x y (bounded x p).0 (bounded y q).0 (bounded y q).1 (inl h))
      go x p (inr (y, q, inr (h, k))) = inr (y, q, h, lower x y (bounded x p).0 (bounded y q).0 (bounded y q).1 (inr (h, k)))
