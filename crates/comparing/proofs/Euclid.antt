-- One turn of Euclid's comparison of n / d and m / e, where n is a * d + i and m is b * e + j.
-- below-whole, above-whole: the whole parts decide.  none_left, all_left: or that nothing is left.  turned_left: else what is left does, upside down.
use mathlib.Core.Path.{◌≡◌, refl, sym, ap, ◌∙◌}
use mathlib.Core.Bool.{Bool, true, false}
use Prim.Native.Nat.{ℕ, ◌+◌, ◌*◌, ◌/◌, ◌%◌, ◌≤◌, ◌<◌}
use native.Mathlib.Omega.{arith}
use native.Mathlib.Nat.{div-add-mod, mod-lt, mul-le-mul_right}
use lib.Dec.{ltb}
use borrow.Author.Tests.{lt-ltb, le-ltb, ltb-true, ltb-false}

module _ (n d m e a b i j : ℕ) (n-is : n ≡ a * d + i) (m-is : m ≡ b * e + j) (i-in : i < d) (j-in : j < e) where
  -- both products, taken apart
  left : n * e ≡ a * (d * e) + i * e
  left = omega (arith, ap (λ (t : ℕ). t * e) n-is)

  right : m * d ≡ b * (d * e) + j * d
  right = omega (arith, ap (λ (t : ℕ). t * d) m-is)

  whole_below : a < b → true ≡ ltb (n * e) (m * d)
  whole_below l = sym (lt-ltb (n * e) (m * d) (omega (arith, left, right, mul-le-mul_right (d * e) l, mul-le-mul_right e i-in)))

  whole_above : b < a → false ≡ ltb (n * e) (m * d)
  whole_above l = sym (le-ltb (n * e) (m * d) (omega (arith, left, right, mul-le-mul_right (d * e) l, mul-le-mul_right d j-in)))

  module _ (same : a ≡ b) where
    even : a * (d * e) ≡ b * (d * e)
    even = ap (λ (t : ℕ). t * (d * e)) same

    rest-none : j ≡ 0 → false ≡ ltb (n * e) (m * d)
    rest-none z = sym (le-ltb (n * e) (m * d) (omega (arith, left, right, even, ap (λ (t : ℕ). t * d) z)))

    rest_all : 1 ≤ j → i ≡ 0 → true ≡ ltb (n * e) (m * d)
    rest_all l z = sym (lt-ltb (n * e) (m * d) (omega (arith, left, right, even, ap (λ (t : ℕ). t * e) z, mul-le-mul_right d l, i-in)))

    rest-turned : ltb (e * i) (d * j) ≡ ltb (n * e) (m * d)
    rest-turned = go (ltb (e * i) (d * j)) refl
      where
        go : (t : Bool) → ltb (e * i) (d * j) ≡ t → ltb (e * i) (d * j) ≡ ltb (n * e) (m * d)
        go true h = let k : n * e < m * d = omega (arith, left, right, even, ltb-true (e * i) (d * j) h) in h ∙ sym (lt-ltb (n * e) (m * d) k)
        go false h = let k : m * d ≤ n * e = omega (arith, left, right, even, ltb-false (e * i) (d * j) h) in h ∙ sym (le-ltb (n * e) (m * d) k)

-- ---- by quotients and remainders

parts : (n d : ℕ) → n ≡ (n / d) * d + n % d
parts n d = omega (arith, div-add-mod n d)

module _ (n d m e : ℕ) (d≥1 : 1 ≤ d) (e≥1 : 1 ≤ e) where
  pub below-whole : n / d < m / e → true ≡ ltb (n * e) (m * d)
  below-whole = whole_below n d m e (n / d) (m / e) (n % d) (m % e) (parts n d) (parts m e) (mod-lt n {m = d} d≥1) (mod-lt m {m = e} e≥1)

  pub above-whole : m / e < n / d → false ≡ ltb (n * e) (m * d)
  above-whole = whole_above n d m e (n / d) (m / e) (n % d) (m % e) (parts n d) (parts m e) (mod-lt n {m = d} d≥1) (mod-lt m {m = e} e≥1)

  module _ (same : n / d ≡ m / e) where
    pub none_left : m % e ≡ 0 → false ≡ ltb (n * e) (m * d)
    none_left = rest-none n d m e (n / d) (m / e) (n % d) (m % e) (parts n d) (parts m e) (mod-lt n {m = d} d≥1) (mod-lt m {m = e} e≥1) same

    pub all_left : 1 ≤ m % e → n % d ≡ 0 → true ≡ ltb (n * e) (m * d)
    all_left = rest_all n d m e (n / d) (m / e) (n % d) (m % e) (parts n d) (parts m e) (mod-lt n {m = d} d≥1) (mod-lt m {m = e} e≥1) same

    pub turned_left : ltb (e * (n % d)) (d * (m % e)) ≡ ltb (n * e) (m * d)
    turned_left = rest-turned n d m e (n / d) (m / e) (n % d) (m % e) (parts n d) (parts m e) (mod-lt n {m = d} d≥1) (mod-lt m {m = e} e≥1) same
