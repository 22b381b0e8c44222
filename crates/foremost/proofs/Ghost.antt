-- Ghost prices: prices that rank points by value, and points of equal value by which comes first. No code sees them.
--   power M n          M to the n
--   place M n k        the weight of item k's amount, M to the n - 1 - k: that of the first item is the greatest
--   horner M n z       the sum of place M n k · z k
--   ghost M n c k      item k's ghost price: M to the n times its price c k, less place M n k
--   Near M z           -M < z < M
--   most n f           a number that no f k with k < n is above
-- ghost-first: of two points whose amounts are nearer than M, the one that is worth no less at ghost prices is worth no less; and if
--   the two are worth as much, it does not come after the other.
use mathlib.Core.Path.{◌≡◌, refl, sym, ap, ap₂, ◌∙◌, subst₂}
use mathlib.Core.Logic.{◌⊎◌, inl, inr}
use Prim.Native.Nat.{ℕ, zero, suc, ◌+◌, ◌*◌, ◌-◌, ◌≤◌, ◌<◌}
use native.Mathlib.Omega.{arith}
use native.Mathlib.Decide.{ℕ_discrete}
use native.Mathlib.Nat.{mul-le-mul_left, mul-le-mul_right}
use lib.IntN.{ℤ, pos, negsuc, neg_ℤ, nat_abs, ◌+ℤ◌, ◌-ℤ◌, ◌*ℤ◌}
use lib.Signed.{◌≤ℤ◌, ◌<ℤ◌}
use Rattle.arith.proofs.Integers.{split, split2, split4, zed, ≤ℤ-or-<}
use Rattle.arith.proofs.Sums.{sum-cong, sum-lin, sum-scale}
use Rattle.arith.specs.Sum.{sum, Each}
use Rattle.foremost.proofs.Earlier.{Earlierᴰ, Agree, NotAfter, Cmp, below, equal, above, cmp}

unfoldable pub power : ℕ → ℕ → ℕ
power M zero = 1
power M (suc n) = M * power M n

abbrev pub place : ℕ → ℕ → ℕ → ℕ
place M n k = power M (n - suc k)

unfoldable pub horner : ℕ → ℕ → (ℕ → ℤ) → ℤ
horner M zero z = pos 0
horner M (suc n) z = horner M n z *ℤ pos M +ℤ z n

pub power-some : (M n : ℕ) → 1 ≤ M → 1 ≤ power M n
unfolding power
power-some M zero h = omega arith
power-some M (suc n) h = omega (arith, power-some M n h, mul-le-mul_right (power M n) h)

pub power-suc : (M n : ℕ) → power M (suc n) ≡ M * power M n
unfolding power
power-suc M n = refl

place-last : (M n : ℕ) → place M (suc n) n ≡ 1
unfolding power
place-last M n = ap (power M) (none n)
  where
    none : (n : ℕ) → suc n - suc n ≡ 0
    none n = omega arith

place-next : (M n k : ℕ) → k < n → place M (suc n) k ≡ M * place M n k
place-next M n k l = ap (power M) (next n k l) ∙ power-suc M (n - suc k)
  where
    next : (n k : ℕ) → k < n → suc n - suc k ≡ suc (n - suc k)
    next n k l = omega arith

pub horner-sum : (M n : ℕ) (z : ℕ → ℤ) → sum n (λ k. pos (place M n k) *ℤ z k) ≡ horner M n z
unfolding horner
horner-sum M zero z = refl
horner-sum M (suc n) z = ap₂ (λ x y. x +ℤ pos y *ℤ z n)
    (sum-cong n (λ k. pos (place M (suc n) k) *ℤ z k) (λ k. pos M *ℤ (pos (place M n k) *ℤ z k))
    (λ k l. ap (λ y. pos y *ℤ z k) (place-next M n k l) ∙ out M (place M n k) (z k))
    ∙ sum-scale n (pos M) (λ k. pos (place M n k) *ℤ z k) ∙ ap (λ x. pos M *ℤ x) (horner-sum M n z)) (place-last M n) ∙ last (horner M n z) (z n)
  where
    out : (m p : ℕ) (z : ℤ) → pos (m * p) *ℤ z ≡ pos m *ℤ (pos p *ℤ z)
    out m p = split _ (λ a b. simp zed (omega arith))

    last : (x z : ℤ) → pos M *ℤ x +ℤ pos 1 *ℤ z ≡ x *ℤ pos M +ℤ z
    last = split2 _ (λ a b c e. simp zed (omega arith))

pub horner-diff : (M n : ℕ) (x y : ℕ → ℤ) → horner M n (λ k. x k -ℤ y k) ≡ horner M n x -ℤ horner M n y
unfolding horner
horner-diff M zero x y = refl
horner-diff M (suc n) x y = rw (horner-diff M n x y) (step (horner M n x) (horner M n y) (x n) (y n))
  where
    step : (g h x y : ℤ) → (g -ℤ h) *ℤ pos M +ℤ (x -ℤ y) ≡ (g *ℤ pos M +ℤ x) -ℤ (h *ℤ pos M +ℤ y)
    step = split4 _ (λ a b c e f g h i. simp zed (omega arith))

abbrev pub Near : ℕ → ℤ → Type 0
Near M z = (neg_ℤ (pos M) <ℤ z) × (z <ℤ pos M)

pub near-diff : (m : ℕ) (x y : ℤ) → nat_abs x + nat_abs y < m → Near m (x -ℤ y)
near-diff m = split2 _ (λ a b c e. simp zed (λ h. (omega arith, omega arith)))

-- the sum stays below the next power
pub horner-near : (M n : ℕ) (z : ℕ → ℤ) → Each n (λ k. Near M (z k)) → Near (power M n) (horner M n z)
unfolding horner power
horner-near M zero z h = (low, high)
  where
    low : neg_ℤ (pos 1) <ℤ pos 0
    low = simp zed (omega arith)

    high : pos 0 <ℤ pos 1
    high = simp zed (omega arith)
horner-near M (suc n) z h = let i = horner-near M n z (λ k l. h k (omega arith)) in let j = h n (omega arith) in
    (low (power M n) (horner M n z) (z n) i.0 j.0, high (power M n) (horner M n z) (z n) i.1 j.1)
  where
    low : (p : ℕ) (x z : ℤ) → neg_ℤ (pos p) <ℤ x → neg_ℤ (pos M) <ℤ z → neg_ℤ (pos (M * p)) <ℤ (x *ℤ pos M +ℤ z)
    low p = split2 _ (λ a b c e. simp zed (λ h k. omega (arith, mul-le-mul_right M h)))

    high : (p : ℕ) (x z : ℤ) → x <ℤ pos p → z <ℤ pos M → (x *ℤ pos M +ℤ z) <ℤ pos (M * p)
    high p = split2 _ (λ a b c e. simp zed (λ h k. omega (arith, mul-le-mul_right M h)))

nought : ℕ → ℤ
nought k = pos 0

-- the first number that is not 0 has the sum's sign
data Lead (M n : ℕ) (z : ℕ → ℤ) : Type 0 where
  under : Earlierᴰ n z nought → horner M n z <ℤ pos 0 → Lead M n z
  none : Agree n z nought → horner M n z ≡ pos 0 → Lead M n z
  over : Earlierᴰ n nought z → pos 0 <ℤ horner M n z → Lead M n z

lead : (M n : ℕ) (z : ℕ → ℤ) → Each n (λ k. Near M (z k)) → Lead M n z
unfolding horner nought
lead M zero z h = none (λ k l. absurd (omega arith)) refl
lead M (suc n) z h = go (lead M n z (λ k l. h k (omega arith))) (cmp (z n) (pos 0))
  where
    more : {x y : ℕ → ℤ} → Earlierᴰ n x y → Earlierᴰ (suc n) x y
    more e = record { place = e.place; below = omega (arith, e.below); same = e.same; less = e.less }

    stays-under : (x z : ℤ) → x <ℤ pos 0 → z <ℤ pos M → (x *ℤ pos M +ℤ z) <ℤ pos 0
    stays-under = split2 _ (λ a b c e. simp zed (λ h k. omega (arith, mul-le-mul_right M h)))

    stays-over : (x z : ℤ) → pos 0 <ℤ x → neg_ℤ (pos M) <ℤ z → pos 0 <ℤ (x *ℤ pos M +ℤ z)
    stays-over = split2 _ (λ a b c e. simp zed (λ h k. omega (arith, mul-le-mul_right M h)))

    own : (z : ℤ) → pos 0 *ℤ pos M +ℤ z ≡ z
    own = split _ (λ a b. simp zed (omega arith))

    is-own : horner M n z ≡ pos 0 → horner M n z *ℤ pos M +ℤ z n ≡ z n
    is-own e = ap (λ x. x *ℤ pos M +ℤ z n) e ∙ own (z n)

    all : Agree n z nought → z n ≡ pos 0 → (j : ℕ) → j < suc n → Dec (j ≡ n) → z j ≡ nought j
    all a e j l (yes q) = rw q e
    all a e j l (no q) = a j (omega arith)

    go : Lead M n z → Cmp (z n) (pos 0) → Lead M (suc n) z
    go (under e l) c = under (more e) (stays-under (horner M n z) (z n) l (h n (omega arith)).1)
    go (over e l) c = over (more e) (stays-over (horner M n z) (z n) l (h n (omega arith)).0)
    go (none a e) (below l) = under (record { place = n; below = omega arith; same = a; less = l }) (rw (is-own e) l)
    go (none a e) (above l) = over (record { place = n; below = omega arith; same = λ j m. sym (a j m); less = l }) (rw (is-own e) l)
    go (none a e) (equal q) = none (λ j l. all a q j l (ℕ_discrete j n)) (is-own e ∙ q)

-- a point is not after another if its amounts do not sum to more
pub horner-first : (M n : ℕ) (x y : ℕ → ℤ) → Each n (λ k. Near M (x k -ℤ y k)) → horner M n x ≤ℤ horner M n y → NotAfter n x y
unfolding nought
horner-first M n x y h l = go (lead M n (λ k. x k -ℤ y k) h)
  where
    less : (x y : ℤ) → (x -ℤ y) <ℤ pos 0 → x <ℤ y
    less = split2 _ (λ a b c e. simp zed (omega arith))

    same : (x y : ℤ) → x -ℤ y ≡ pos 0 → x ≡ y
    same = split2 _ (λ a b c e. simp zed (omega arith))

    clash : (x y : ℤ) → x ≤ℤ y → pos 0 <ℤ (x -ℤ y) → ⊥
    clash = split2 _ (λ a b c e. simp zed (omega arith))

    go : Lead M n (λ k. x k -ℤ y k) → NotAfter n x y
    go (under e m) = inr
        (record { place = e.place; below = e.below; same = λ j i. same (x j) (y j) (e.same j i); less = less (x e.place) (y e.place) e.less })
    go (none a m) = inl (λ j i. same (x j) (y j) (a j i))
    go (over e m) = absurd (clash (horner M n x) (horner M n y) l (rw (horner-diff M n x y) at m))

-- ---- prices

abbrev pub ghost : ℕ → ℕ → (ℕ → ℤ) → ℕ → ℤ
ghost M n c k = pos (power M n) *ℤ c k -ℤ pos (place M n k)

pub ghost-sum : (M n : ℕ) (c N : ℕ → ℤ) → sum n (λ k. ghost M n c k *ℤ N k) ≡ pos (power M n) *ℤ sum n (λ k. c k *ℤ N k) -ℤ horner M n N
ghost-sum M n c N = sum-cong n (λ k. ghost M n c k *ℤ N k) (λ k. pos (power M n) *ℤ (c k *ℤ N k) +ℤ negsuc 0 *ℤ (pos (place M n k) *ℤ N k))
    (λ k l. apart (power M n) (place M n k) (c k) (N k))
    ∙ sum-lin n (pos (power M n)) (negsuc 0) (λ k. c k *ℤ N k) (λ k. pos (place M n k) *ℤ N k)
    ∙ ap (λ z. pos (power M n) *ℤ sum n (λ k. c k *ℤ N k) +ℤ negsuc 0 *ℤ z) (horner-sum M n N) ∙ join (power M n) (sum n (λ k. c k *ℤ N k)) (horner M n N)
  where
    apart : (p q : ℕ) (c x : ℤ) → (pos p *ℤ c -ℤ pos q) *ℤ x ≡ pos p *ℤ (c *ℤ x) +ℤ negsuc 0 *ℤ (pos q *ℤ x)
    apart p q = split2 _ (λ a b c e. simp zed (omega arith))

    join : (p : ℕ) (x y : ℤ) → pos p *ℤ x +ℤ negsuc 0 *ℤ y ≡ pos p *ℤ x -ℤ y
    join p = split2 _ (λ a b c e. simp zed (omega arith))

pub ghost-first : (M n : ℕ) (c N X : ℕ → ℤ) → Each n (λ k. Near M (X k -ℤ N k)) → sum n (λ k. ghost M n c k *ℤ N k) ≤ℤ sum n (λ k. ghost M n c k *ℤ X k)
    → (sum n (λ k. c k *ℤ N k) ≤ℤ sum n (λ k. c k *ℤ X k)) × (sum n (λ k. c k *ℤ X k) ≤ℤ sum n (λ k. c k *ℤ N k) → NotAfter n X N)
ghost-first M n c N X h l = (worth, λ m. horner-first M n X N h (tie P v w g i m l'))
  where
    P : ℕ
    P = power M n

    v : ℤ
    v = sum n (λ k. c k *ℤ N k)

    w : ℤ
    w = sum n (λ k. c k *ℤ X k)

    g : ℤ
    g = horner M n N

    i : ℤ
    i = horner M n X

    l' : (pos P *ℤ v -ℤ g) ≤ℤ (pos P *ℤ w -ℤ i)
    l' = subst₂ ◌≤ℤ◌ (ghost-sum M n c N) (ghost-sum M n c X) l

    near : Near P (i -ℤ g)
    near = rw (horner-diff M n X N) at (horner-near M n (λ k. X k -ℤ N k) h)

    tie : (p : ℕ) (v w g i : ℤ) → w ≤ℤ v → (pos p *ℤ v -ℤ g) ≤ℤ (pos p *ℤ w -ℤ i) → i ≤ℤ g
    tie p = split4 _ (λ a b c e f g h i. simp zed (λ m l. omega (arith, mul-le-mul_left p m)))

    clash : (p : ℕ) (v w g i : ℤ) → w <ℤ v → (pos p *ℤ v -ℤ g) ≤ℤ (pos p *ℤ w -ℤ i) → neg_ℤ (pos p) <ℤ (i -ℤ g) → ⊥
    clash p = split4 _ (λ a b c e f g h i. simp zed (λ m l n. omega (arith, mul-le-mul_left p m)))

    pick : (v ≤ℤ w) ⊎ (w <ℤ v) → v ≤ℤ w
    pick (inl m) = m
    pick (inr m) = absurd (clash P v w g i m l' near.0)

    worth : v ≤ℤ w
    worth = pick (≤ℤ-or-< v w)

-- ---- a number above all of n

unfoldable pub most : ℕ → (ℕ → ℕ) → ℕ
most zero f = 0
most (suc n) f = most n f + f n

pub most-is : (n : ℕ) (f : ℕ → ℕ) (k : ℕ) → k < n → f k ≤ most n f
unfolding most
most-is zero f k l = absurd (omega arith)
most-is (suc n) f k l = go (ℕ_discrete k n) (λ m. most-is n f k m)
  where
    go : Dec (k ≡ n) → (k < n → f k ≤ most n f) → f k ≤ most n f + f n
    go (yes e) ih = rw e (omega arith)
    go (no e) ih = omega (arith, ih (omega arith))
