-- What a point weighs, with one choice of weights and with another.
-- total_mono: sums keep orders. times-whole, whole-times: a whole weight times an amount. times-mono: a greater weight of an amount that is not below 0.
-- weighs-mono: so it is of a whole point.
use mathlib.Core.Path.{◌≡◌, refl, ap, ap₂, sym, ◌∙◌, subst₂}
use mathlib.Core.Logic.{◌⊎◌, inl, inr}
use Prim.Native.Nat.{ℕ, zero, suc, ◌*◌}
use native.Mathlib.Omega.{arith}
use lib.IntN.{ℤ, pos, ◌+ℤ◌, ◌-ℤ◌, ◌*ℤ◌}
use lib.Signed.{◌≤ℤ◌}
use Rattle.arith.specs.Fractions.{Frac, int, ◌+ᶠ◌, ◌·ᶠ◌, ◌≤ᶠ◌, total}
use Rattle.arith.specs.Sum.{Each}
use Rattle.arith.proofs.Fractions.{≤ᶠ-trans}
use Rattle.arith.proofs.Integers.{split, split2, split3, zed, ≤ℤ-reflexive, ≤ℤ-antisym, ≤ℤ-diff, diff-≤ℤ, +ℤ-mono, times-≤, *ℤ-nonneg}
use Rattle.model.specs.Senses.{times}

-- ---- sums

add-first : (x y u : Frac) → x ≤ᶠ y → x +ᶠ u ≤ᶠ y +ᶠ u
unfolding ◌≤ᶠ◌ ◌+ᶠ◌
add-first x y u h =
    subst₂ ◌≤ℤ◌ (sym (apart x.num u.num x.den u.den y.den))
    (sym (apart y.num u.num y.den u.den x.den ∙ turn y.num u.num y.den u.den x.den))
    (+ℤ-mono (times-≤ (u.den * u.den) _ _ h) (≤ℤ-reflexive refl))
  where
    apart : (p r : ℤ) (q s t : ℕ) → (p *ℤ pos s +ℤ r *ℤ pos q) *ℤ pos (t * s) ≡ (p *ℤ pos t) *ℤ pos (s * s) +ℤ (r *ℤ pos q) *ℤ pos (t * s)
    apart = split2 _ (λ a b c e q s t. simp zed (omega arith))

    turn : (p r : ℤ) (q s t : ℕ) →
        (p *ℤ pos t) *ℤ pos (s * s) +ℤ (r *ℤ pos q) *ℤ pos (t * s) ≡ (p *ℤ pos t) *ℤ pos (s * s) +ℤ (r *ℤ pos t) *ℤ pos (q * s)
    turn = split2 _ (λ a b c e q s t. simp zed (omega arith))

add-second : (x u v : Frac) → u ≤ᶠ v → x +ᶠ u ≤ᶠ x +ᶠ v
unfolding ◌≤ᶠ◌ ◌+ᶠ◌
add-second x u v h =
    subst₂ ◌≤ℤ◌ (sym (apart x.num u.num x.den u.den v.den))
    (sym (apart x.num v.num x.den v.den u.den ∙ turn x.num v.num x.den v.den u.den))
    (+ℤ-mono (times-≤ (x.den * x.den) _ _ h) (≤ℤ-reflexive refl))
  where
    apart : (p r : ℤ) (q s t : ℕ) → (p *ℤ pos s +ℤ r *ℤ pos q) *ℤ pos (q * t) ≡ (r *ℤ pos t) *ℤ pos (q * q) +ℤ (p *ℤ pos s) *ℤ pos (q * t)
    apart = split2 _ (λ a b c e q s t. simp zed (omega arith))

    turn : (p r : ℤ) (q s t : ℕ) →
        (r *ℤ pos t) *ℤ pos (q * q) +ℤ (p *ℤ pos s) *ℤ pos (q * t) ≡ (r *ℤ pos t) *ℤ pos (q * q) +ℤ (p *ℤ pos t) *ℤ pos (q * s)
    turn = split2 _ (λ a b c e q s t. simp zed (omega arith))

pub total_mono : (n : ℕ) (f g : ℕ → Frac) → Each n (λ k. f k ≤ᶠ g k) → total n f ≤ᶠ total n g
unfolding ◌≤ᶠ◌
total_mono zero f g h = ≤ℤ-reflexive refl
total_mono (suc n) f g h =
    ≤ᶠ-trans (total n f +ᶠ f n) (total n g +ᶠ f n) (total n g +ᶠ g n) (add-first (total n f) (total n g) (f n) (total_mono n f g (λ k l. h k (omega arith))))
    (add-second (total n g) (f n) (g n) (h n (omega arith)))

-- ---- a weight times an amount

pub times-whole : (a : ℤ) (x : Frac) → times (int a) x ≤ᶠ a ·ᶠ x
unfolding ◌≤ᶠ◌ ◌·ᶠ◌ times
times-whole a x = ≤ℤ-reflexive (ap (λ n. (a *ℤ x.num) *ℤ pos n) (omega arith))

pub whole-times : (a : ℤ) (x : Frac) → a ·ᶠ x ≤ᶠ times (int a) x
unfolding ◌≤ᶠ◌ ◌·ᶠ◌ times
whole-times a x = ≤ℤ-reflexive (ap (λ n. (a *ℤ x.num) *ℤ pos n) (omega arith))

apart : (p z : ℤ) (s t : ℕ) → (p *ℤ z) *ℤ pos (s * t) ≡ ((p *ℤ pos s) *ℤ z) *ℤ pos t
apart = split2 _ (λ a b c e s t. simp zed (omega arith))

less : (u v z : ℤ) (t : ℕ) → (u *ℤ z) *ℤ pos t -ℤ (v *ℤ z) *ℤ pos t ≡ ((u -ℤ v) *ℤ z) *ℤ pos t
less = split3 _ (λ a b c e f g t. simp zed (omega arith))

pub times-mono : (u v x : Frac) → u ≤ᶠ v → (int (pos 0) ≤ᶠ x) ⊎ (v ≤ᶠ u) → times u x ≤ᶠ times v x
unfolding ◌≤ᶠ◌ times
times-mono u v x h (inl s) =
    diff-≤ℤ _ _ (subst₂ ◌≤ℤ◌ (nothing x.den) (sym gap)
    (times-≤ x.den _ _ (*ℤ-nonneg _ _ (≤ℤ-diff _ _ h) (subst₂ ◌≤ℤ◌ (nothing x.den) (one x.num) s))))
  where
    nothing : (n : ℕ) → pos 0 *ℤ pos n ≡ pos 0
    nothing n = simp zed (omega arith)

    one : (z : ℤ) → z *ℤ pos 1 ≡ z
    one = split _ (λ a b. simp zed (omega arith))

    gap : (v.num *ℤ x.num) *ℤ pos (u.den * x.den) -ℤ (u.num *ℤ x.num) *ℤ pos (v.den * x.den)
        ≡ ((v.num *ℤ pos u.den -ℤ u.num *ℤ pos v.den) *ℤ x.num) *ℤ pos x.den
    gap = ap₂ ◌-ℤ◌ (apart v.num x.num u.den x.den) (apart u.num x.num v.den x.den)
        ∙ less (v.num *ℤ pos u.den) (u.num *ℤ pos v.den) x.num x.den
times-mono u v x h (inr s) =
    ≤ℤ-reflexive (apart u.num x.num v.den x.den ∙ ap (λ z. (z *ℤ x.num) *ℤ pos x.den) (≤ℤ-antisym h s)
    ∙ sym (apart v.num x.num u.den x.den))

pub weighs-mono : (n : ℕ) (u v x : ℕ → Frac) → Each n (λ k. u k ≤ᶠ v k) → Each n (λ k. (int (pos 0) ≤ᶠ x k) ⊎ (v k ≤ᶠ u k)) →
    total n (λ k. times (u k) (x k)) ≤ᶠ total n (λ k. times (v k) (x k))
weighs-mono n u v x h s = total_mono n (λ k. times (u k) (x k)) (λ k. times (v k) (x k)) (λ k l. times-mono (u k) (v k) (x k) (h k l) (s k l))
