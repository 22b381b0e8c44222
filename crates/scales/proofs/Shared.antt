-- What the weights that go on after a scale share.
-- common-divides, shared-divides: it divides each of them; shared-pos, stride-pos: it is no 0.
-- common-most, shared-most: nor is it, times what they were divided by before, above their sum.
-- scaled-next: the items of the next scale; load-next: their loads.
use mathlib.Core.Path.{◌≡◌, refl, ◌∙◌, ap, fun_ext}
use mathlib.Core.Logic.{⊎_elim}
use Prim.Native.Nat.{ℕ, zero, suc, ◌+◌, ◌*◌, ◌/◌, ◌≤◌, ◌<◌, max}
use native.Mathlib.Omega.{arith}
use native.Mathlib.Nat.{mul_assoc, mul-le-mul_left, div-add-mod, div-one, div-eq_of_eq-mul_left, div-div-eq-div-mul}
use borrow.Author.Tests.{lt-ltb, le-ltb}
use Rattle.arith.specs.Gcd.{Divides, gcd_in, gcd_of}
use Rattle.arith.proofs.Divisors.{divides-self, gcd-is}
use Rattle.scales.specs.Digits.{rest, rest_at, twice, cost_at}
use Rattle.scales.specs.Filling.{Items, sum, load, common, shared, stride, next, scaled}
use Rattle.scales.proofs.Sums.{lt-or-ge, sum_mono, sum-cong, sum-times}

divides-trans : (a b c : ℕ) → Divides a b → Divides b c → Divides a c
divides-trans a b c (k, e) (l, f) = (l * k, omega (arith, f, ap (λ t. l * t) e))

common-on : (I : Items) (k : ℕ) → 0 < rest (I.range k) → common I (suc k) ≡ gcd_of (common I k) (I.weight k)
unfolding common
common-on I k h = rw (lt-ltb 0 (rest (I.range k)) h)

common-off : (I : Items) (k : ℕ) → rest (I.range k) ≤ 0 → common I (suc k) ≡ common I k
unfolding common
common-off I k h = rw (le-ltb 0 (rest (I.range k)) h)

common-step : (I : Items) (k : ℕ) → Divides (common I (suc k)) (common I k)
common-step I k =
    ⊎_elim
    (λ (h : 0 < rest (I.range k)). rw (common-on I k h) (gcd-is (common I k) (I.weight k)).left)
    (λ (h : rest (I.range k) ≤ 0). rw (common-off I k h) (divides-self (common I k)))
    (lt-or-ge 0 (rest (I.range k)))

pub common-divides : (I : Items) (k j : ℕ) → j < k → 0 < rest (I.range j) → Divides (common I k) (I.weight j)
common-divides I zero j l h = absurd (omega arith)
common-divides I (suc k) j l h =
    ⊎_elim
    (λ (g : j < k). divides-trans (common I (suc k)) (common I k) (I.weight j) (common-step I k) (common-divides I k j g h))
    (λ (g : k ≤ j). let e : j ≡ k = omega arith in rw (e, common-on I k (rw e at h)) (gcd-is (common I k) (I.weight k)).right)
    (lt-or-ge j k)

-- where the divisor is 0 it is 1 that divides
whole : (w c : ℕ) → Divides c w → w ≡ max 1 c * (w / max 1 c)
whole w zero d = omega (arith, div-one w)
whole w (suc c) (m, e) =
    let g : max 1 (suc c) ≡ suc c = omega arith in
    let q : w / suc c ≡ m = div-eq_of_eq-mul_left (omega arith) e in
    rw (g, q) (omega arith)

pub shared-pos : (I : Items) → 0 < shared I
unfolding shared
shared-pos I = omega arith

pub stride-pos : (I : Items) → 0 < stride I
stride-pos I = omega (arith, shared-pos I)

pub shared-divides : (I : Items) (j : ℕ) → j < I.count → 0 < rest (I.range j) → I.weight j ≡ shared I * (I.weight j / shared I)
unfolding shared
shared-divides I j l h = whole (I.weight j) (common I I.count) (common-divides I I.count j l h)

gcd-none : (a : ℕ) → gcd_of a 0 ≡ a
unfolding gcd_of gcd_in
gcd-none a = refl

-- a divisor is at most what it divides
gcd-most : (a b : ℕ) → gcd_of a b ≤ a + b
gcd-most a b = go b refl (gcd-is a b).right
  where
    go : (m : ℕ) → m ≡ b → Divides (gcd_of a b) b → gcd_of a b ≤ a + b
    go zero e d = rw (← e, gcd-none a) (omega arith)
    go (suc m) e (zero, f) = omega arith
    go (suc m) e (suc k, f) = omega arith

common-most : (I : Items) (k : ℕ) → common I k ≤ sum k I.weight
unfolding common
common-most I zero = omega arith
common-most I (suc k) =
    ⊎_elim
    (λ (h : 0 < rest (I.range k)). omega (arith, common-on I k h, gcd-most (common I k) (I.weight k), common-most I k))
    (λ (h : rest (I.range k) ≤ 0). omega (arith, common-off I k h, common-most I k))
    (lt-or-ge 0 (rest (I.range k)))

pub shared-most : (cap i D W : ℕ) (I : Items) → D ≤ W + 1 → sum I.count I.weight ≤ W → D * shared (scaled cap i D I) ≤ W + 1
unfolding shared
shared-most cap i D W I h k =
    let J = scaled cap i D I in
    let c = common J I.count in
    let times = sum-times I.count D J.weight in
    let less = sum_mono I.count (λ j. D * (I.weight j / D)) I.weight (λ j l. omega (arith, div-add-mod (I.weight j) D)) in
    let most : D * c ≤ D * sum I.count J.weight = mul-le-mul_left D (common-most J I.count) in
    go c (omega arith)
  where
    go : (c : ℕ) → D * c ≤ W → D * max 1 c ≤ W + 1
    go zero l = omega arith
    go (suc c) l = let e : max 1 (suc c) ≡ suc c = omega arith in rw e (omega arith)

pub scaled-next : (cap i D : ℕ) (I : Items) → next cap (scaled cap i D I) ≡ scaled cap (suc i) (D * shared (scaled cap i D I)) I
unfolding rest_at cost_at
scaled-next cap i D I =
    let g = shared (scaled cap i D I) in
    let weights : ◌≡◌ {A = ℕ → ℕ} (λ j. (I.weight j / D) / g) (λ j. I.weight j / (D * g)) = fun_ext (λ j. div-div-eq-div-mul (I.weight j) D g) in
    ap (λ (w : ℕ → ℕ). record {
      count = I.count;
      weight = w;
      range = λ j. rest (rest_at i (I.range j));
      taken = λ j. twice cap (cost_at cap i (I.taken j));
      left = λ j. twice cap (cost_at cap i (I.left j));
    }) weights

-- where nothing is taken the weight does not matter
one-next : (w g z r : ℕ) → z ≤ r → (0 < r → w ≡ g * (w / g)) → w * z ≡ g * ((w / g) * z)
one-next w g zero r l h = omega arith
one-next w g (suc z) r l h = ap (λ t. t * suc z) (h (omega arith)) ∙ mul_assoc g (w / g) (suc z)

pub load-next : (cap : ℕ) (I : Items) (z : ℕ → ℕ) → ((j : ℕ) → j < I.count → z j ≤ rest (I.range j)) → load I z ≡ shared I * load (next cap I) z
load-next cap I z h =
    let g = shared I in
    let one = sum-cong I.count (λ j. I.weight j * z j) (λ j. g * ((I.weight j / g) * z j))
    (λ j l. one-next (I.weight j) g (z j) (rest (I.range j)) (h j l) (shared-divides I j l)) in
    one ∙ sum-times I.count g (λ j. (I.weight j / g) * z j)
