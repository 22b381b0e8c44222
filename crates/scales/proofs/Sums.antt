-- Laws of sums. lt-or-ge: two numbers compare.
-- sum_mono, sum-cong, sum-add, sum-times: sums keep orders, equations, sums and multiples; sum_more: a longer sum is no less; sum-none: a sum of
-- nothing; sum-part: a part is no more than the sum; sum-most: a sum of numbers up to b; load-most: one of their
-- multiples.
use mathlib.Core.Path.{◌≡◌, refl}
use mathlib.Core.Logic.{◌⊎◌, inl, inr}
use Prim.Native.Nat.{ℕ, zero, suc, ◌+◌, ◌*◌, ◌≤◌, ◌<◌}
use native.Mathlib.Omega.{arith}
use native.Mathlib.Nat.{mul-le-mul_left}
use native.Mathlib.Decide.{le_ind, dec_lt}
use Rattle.scales.specs.Filling.{sum}

decided : {m n : ℕ} → Dec (m < n) → (m < n) ⊎ (n ≤ m)
decided (yes h) = inl h
decided (no h) = inr (omega arith)

pub lt-or-ge : (m n : ℕ) → (m < n) ⊎ (n ≤ m)
lt-or-ge m n = decided (dec_lt m n)

pub sum_mono : (n : ℕ) (f g : ℕ → ℕ) → ((j : ℕ) → j < n → f j ≤ g j) → sum n f ≤ sum n g
sum_mono zero f g h = omega arith
sum_mono (suc n) f g h = omega (arith, sum_mono n f g (λ j l. h j (omega arith)), h n (omega arith))

pub sum-cong : (n : ℕ) (f g : ℕ → ℕ) → ((j : ℕ) → j < n → f j ≡ g j) → sum n f ≡ sum n g
sum-cong zero f g h = refl
sum-cong (suc n) f g h = omega (arith, sum-cong n f g (λ j l. h j (omega arith)), h n (omega arith))

pub sum-add : (n : ℕ) (f g : ℕ → ℕ) → sum n (λ j. f j + g j) ≡ sum n f + sum n g
sum-add zero f g = refl
sum-add (suc n) f g = omega (arith, sum-add n f g)

pub sum-times : (n g : ℕ) (f : ℕ → ℕ) → sum n (λ j. g * f j) ≡ g * sum n f
sum-times zero g f = omega arith
sum-times (suc n) g f = omega (arith, sum-times n g f)

pub sum_more : (n m : ℕ) (f : ℕ → ℕ) → n ≤ m → sum n f ≤ sum m f
sum_more n m f = le_ind (λ k. sum n f ≤ sum k f) (omega arith) (λ k l h. omega (arith, h)) m

pub sum-none : (n : ℕ) (f : ℕ → ℕ) → ((j : ℕ) → j < n → f j ≡ 0) → sum n f ≡ 0
sum-none zero f h = refl
sum-none (suc n) f h = omega (arith, sum-none n f (λ j l. h j (omega arith)), h n (omega arith))

pub sum-part : (n : ℕ) (f : ℕ → ℕ) (j : ℕ) → j < n → f j ≤ sum n f
sum-part n f j h = omega (arith, sum_more (suc j) n f h)

pub sum-most : (n b : ℕ) (f : ℕ → ℕ) → ((j : ℕ) → j < n → f j ≤ b) → sum n f ≤ n * b
sum-most zero b f h = omega arith
sum-most (suc n) b f h = omega (arith, sum-most n b f (λ j l. h j (omega arith)), h n (omega arith))

pub load-most : (n b : ℕ) (w u : ℕ → ℕ) → ((j : ℕ) → j < n → u j ≤ b) → sum n (λ j. w j * u j) ≤ b * sum n w
load-most n b w u h =
    let one = sum_mono n (λ j. w j * u j) (λ j. b * w j) (λ j l. omega (arith, mul-le-mul_left (w j) (h j l))) in
    omega (arith, sum-times n b w)
