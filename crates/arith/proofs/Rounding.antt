-- Division rounded down.
--   IsFloor n d q   q ≤ n / d < q + 1, times d
-- floor-same, floor-less: a quotient towards zero, less one where its remainder asks it, is the quotient rounded down.
-- floor-is, floor-unique: floor_div is that number, and no other is.
-- floor-most: what fits is at most the quotient.
-- floor-within, ceil-within: neither is farther from zero than the dividend.
use mathlib.Core.Path.{◌≡◌, refl, ap, ◌∙◌}
use mathlib.Core.Logic.{◌⊎◌, inl, inr}
use Prim.Native.Nat.{ℕ, zero, suc, ◌+◌, ◌*◌, ◌/◌, ◌%◌, ◌≤◌, ◌<◌}
use native.Mathlib.Nat.{div-add-mod', div-le_self, mod-lt, mul-le-mul_left}
use native.Mathlib.Omega.{arith}
use lib.IntN.{ℤ, pos, negsuc, neg_ℤ, ◌+ℤ◌, ◌-ℤ◌, ◌*ℤ◌}
use lib.Signed.{◌≤ℤ◌, ◌<ℤ◌, lt_z_yes}
use Rattle.arith.specs.Within.{up, dn, Within}
use Rattle.arith.proofs.Parts.{zs, sum, diff, above-dn, below_up, lt-le, within-neg}
use Rattle.arith.proofs.Quotients.{mul-sub, mul-one}
use Rattle.arith.specs.Division.{floor_by, floor_div, ceil_div}
use Rattle.arith.proofs.Integers.{split2, split3, zed, ≤ℤ-or-<, ≤ℤ-antisym}

pub record IsFloor (n d q : ℤ) : Type 0 where
  pub positive : pos 0 <ℤ d → ((d *ℤ q) ≤ℤ n) × (n <ℤ (d *ℤ q +ℤ d))
  pub negative : d <ℤ pos 0 → (n ≤ℤ (d *ℤ q)) × ((d *ℤ q +ℤ d) <ℤ n)

pub nonzero : (d : ℤ) → (d ≡ pos 0 → ⊥) → 0 < up d + dn d
nonzero (pos zero) h = absurd (h refl)
nonzero (pos (suc n)) h = omega arith
nonzero (negsuc n) h = omega arith

module _ (n d q r : ℤ) (s : n ≡ d *ℤ q +ℤ r) (small : up r + dn r < up d + dn d) where
  pub floor-same : (pos 0 <ℤ d → pos 0 ≤ℤ r) → (d <ℤ pos 0 → r ≤ℤ pos 0) → IsFloor n d q
  floor-same p m =
      record {
        positive = λ h. let g = p h in omega (arith, zs, above-dn (lt-le h), above-dn g, sum (d *ℤ q) r, sum (d *ℤ q) d);
        negative = λ h. let g = m h in omega (arith, zs, below_up (lt-le h), below_up g, sum (d *ℤ q) r, sum (d *ℤ q) d);
      }

  pub floor-less : (pos 0 <ℤ d → r <ℤ pos 0) → (d <ℤ pos 0 → pos 0 <ℤ r) → IsFloor n d (q -ℤ pos 1)
  floor-less p m =
      let e : d *ℤ (q -ℤ pos 1) ≡ d *ℤ q -ℤ d = mul-sub d q (pos 1) ∙ ap (λ t. d *ℤ q -ℤ t) (mul-one d) in
      record {
        positive = λ h. let g = p h in rw e (omega (arith, zs, above-dn (lt-le h), below_up (lt-le g), sum (d *ℤ q) r, diff (d *ℤ q) d, sum (d *ℤ q -ℤ d) d));
        negative = λ h. let g = m h in rw e (omega (arith, zs, below_up (lt-le h), above-dn (lt-le g), sum (d *ℤ q) r, diff (d *ℤ q) d, sum (d *ℤ q -ℤ d) d));
      }

-- a divisor above 0: stated of variables, for `negsuc q +ℤ pos 1` would compute
below : (a q r m : ℕ) → q * m + r ≡ a → r < m → (z f : ℤ) → z ≡ negsuc a → f ≡ negsuc q → ((pos m *ℤ f) ≤ℤ z) × (z <ℤ (pos m *ℤ f +ℤ pos m))
below a q r m e l = split2 _ (λ x y u w. simp zed (λ h k. omega (arith, ap (λ (n : ℕ). n * m) k)))

by-pos : (z : ℤ) (m : ℕ) → 1 ≤ m → ((pos m *ℤ floor_by z m) ≤ℤ z) × (z <ℤ (pos m *ℤ floor_by z m +ℤ pos m))
unfolding floor_by
by-pos (pos a) m h = (simp zed (omega (arith, div-add-mod' a m)), simp zed (omega (arith, div-add-mod' a m, mod-lt a h)))
by-pos (negsuc a) m h = below a (a / m) (a % m) m (div-add-mod' a m) (mod-lt a h) (negsuc a) (negsuc (a / m)) refl refl

above : (m : ℕ) → pos 0 <ℤ pos (suc m)
above m = simp zed (omega arith)

not-below : (m : ℕ) → pos (suc m) <ℤ pos 0 → ⊥
not-below m = simp zed (omega arith)

pub floor-is : (n d : ℤ) → (d ≡ pos 0 → ⊥) → IsFloor n d (floor_div n d)
unfolding floor_div
floor-is n (pos zero) h = absurd (h refl)
floor-is n (pos (suc m)) h = record { positive = λ p. by-pos n (suc m) (omega arith); negative = λ p. absurd (not-below m p) }
floor-is n (negsuc m) h =
    record { positive = λ p. absurd p.lt; negative = λ p. flip n (floor_by (neg_ℤ n) (suc m)) (negsuc m) refl (by-pos (neg_ℤ n) (suc m) (omega arith)) }
  where
    flip : (n f d : ℤ) → d ≡ negsuc m → ((pos (suc m) *ℤ f) ≤ℤ neg_ℤ n) × (neg_ℤ n <ℤ (pos (suc m) *ℤ f +ℤ pos (suc m))) → (n ≤ℤ (d *ℤ f)) × ((d *ℤ f +ℤ d) <ℤ n)
    flip n f d e k = rw e (mirror n f k)
      where
        mirror : (n f : ℤ) → ((pos (suc m) *ℤ f) ≤ℤ neg_ℤ n) × (neg_ℤ n <ℤ (pos (suc m) *ℤ f +ℤ pos (suc m))) → (n ≤ℤ (negsuc m *ℤ f))
            × ((negsuc m *ℤ f +ℤ negsuc m) <ℤ n)
        mirror = split2 _ (λ a b c e. simp zed (omega arith))

-- two numbers between the same multiples are one
meet : (m : ℕ) (n f g : ℤ) → (pos m *ℤ f) ≤ℤ n → n <ℤ (pos m *ℤ g +ℤ pos m) → f ≤ℤ g
meet m n f g h k = go (≤ℤ-or-< f g)
  where
    clash : (n f g : ℤ) → (pos m *ℤ f) ≤ℤ n → n <ℤ (pos m *ℤ g +ℤ pos m) → g <ℤ f → ⊥
    clash = split3 _ (λ a b c e x y. simp zed (λ h k l. omega (arith, mul-le-mul_left m l)))

    go : (f ≤ℤ g) ⊎ (g <ℤ f) → f ≤ℤ g
    go (inl l) = l
    go (inr l) = absurd (clash n f g h k l)

pub floor-unique : (n d f g : ℤ) → (d ≡ pos 0 → ⊥) → IsFloor n d f → IsFloor n d g → f ≡ g
floor-unique n (pos zero) f g z h k = absurd (z refl)
floor-unique n (pos (suc m)) f g z h k =
    let p = above m in
    ≤ℤ-antisym (meet (suc m) n f g (h.positive p).0 (k.positive p).1) (meet (suc m) n g f (k.positive p).0 (h.positive p).1)
floor-unique n (negsuc m) f g z h k =
    let p : negsuc m <ℤ pos 0 = lt_z_yes tt in
    ≤ℤ-antisym (meet (suc m) (neg_ℤ n) f g (up n f (h.negative p).0) (dn n g (k.negative p).1))
    (meet (suc m) (neg_ℤ n) g f (up n g (k.negative p).0) (dn n f (h.negative p).1))
  where
    up : (n f : ℤ) → n ≤ℤ (negsuc m *ℤ f) → (pos (suc m) *ℤ f) ≤ℤ neg_ℤ n
    up = split2 _ (λ a b c e. simp zed (omega arith))

    dn : (n f : ℤ) → (negsuc m *ℤ f +ℤ negsuc m) <ℤ n → neg_ℤ n <ℤ (pos (suc m) *ℤ f +ℤ pos (suc m))
    dn = split2 _ (λ a b c e. simp zed (omega arith))

-- what fits d times is at most the quotient
pub floor-most : (n d x : ℤ) → pos 0 <ℤ d → (d *ℤ x) ≤ℤ n → x ≤ℤ floor_div n d
floor-most n (pos zero) x p h = absurd p.lt
floor-most n (pos (suc m)) x p h = meet (suc m) n x (floor_div n (pos (suc m))) h ((floor-is n (pos (suc m)) (λ e. apart e)).positive p).1
  where
    apart : pos (suc m) ≡ pos 0 → ⊥
    apart = simp zed (omega arith)
floor-most n (negsuc m) x p h = absurd p.lt

-- the quotient is no farther from zero than the dividend
by-within : {m : ℕ} (n : ℤ) (d : ℕ) → Within m n → Within m (floor_by n d)
unfolding floor_by
by-within (pos n) d h = record { above = omega (arith, div-le_self n d); below = omega arith }
by-within (negsuc n) d h = record { above = omega arith; below = omega (arith, div-le_self n d) }

pub floor-within : {m : ℕ} (n d : ℤ) → Within m n → Within m (floor_div n d)
unfolding floor_div
floor-within n (pos d) h = by-within n d h
floor-within n (negsuc d) h = by-within (neg_ℤ n) (suc d) (within-neg n h)

pub ceil-within : {m : ℕ} (n d : ℤ) → Within m n → Within m (ceil_div n d)
unfolding ceil_div
ceil-within n d h = within-neg (floor_div (neg_ℤ n) d) (floor-within (neg_ℤ n) d (within-neg n h))
