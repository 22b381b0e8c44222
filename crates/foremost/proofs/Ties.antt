-- Why the order of filling of Tied gives the first of the relaxed optima: at ghost prices it is an order by falling price per weight.
--   ghost_prices, ghosted M c   the columns c at ghost prices
--   Large M c          M is at least 2, and twice any weight
-- tie-less: what is sorted by tie_of is tied.  falls-by-tie: so is what is sorted by ratio and then by it.
-- ghost-ordered: if c is Tied, ghosted M c is Ordered for every large M.
use mathlib.Core.Path.{◌≡◌, refl, ap, ◌∙◌, subst}
use mathlib.Core.List.{List, [], ◌∷◌}
use mathlib.Core.Logic.{◌≢◌, ◌⊎◌, inl, inr}
use Prim.Native.Nat.{ℕ, zero, suc, ◌+◌, ◌*◌, ◌-◌, ◌≤◌, ◌<◌}
use native.Mathlib.Omega.{arith}
use native.Mathlib.Nat.{mul-le-mul_left, mul-le-mul_right}
use lib.IntN.{ℤ, pos, negsuc, neg_ℤ, nat_abs, ◌-ℤ◌, ◌*ℤ◌}
use lib.Signed.{◌≤ℤ◌, ◌<ℤ◌}
use Rattle.arith.proofs.Integers.{split, split2, split4, zed, ≤ℤ-or-<, ≤ℤ-antisym}
use Rattle.arith.proofs.Words.{lt_yes, le-no}
use Rattle.arith.specs.Signs.{times_sign}
use Rattle.greedy.specs.declared.Columns.{Columns}
use Rattle.greedy.specs.Fill.{at, weight_of, price_of, item_of}
use Rattle.greedy.specs.Ordered.{Idle, weight_at, rate_at, Ordered}
use Rattle.greedy.proofs.Greedy.{abs≥1, sign_of, times-sign-up, times-sign-dn}
use Rattle.foremost.specs.Tied.{Tie, unlike, falling, rising, tie_of, Live, worth, sinks, Resting, flat, poor, rests, Falls, Tied}
use Rattle.foremost.proofs.Ghost.{power, place, ghost, power-some, power-suc}

pub tie-less : (n : ℕ) (a b : ℤ) (i j : ℕ) → i < n → j < n → a ≢ pos 0 → b ≢ pos 0 → tie_of n a i < tie_of n b j → Tie a b i j
unfolding tie_of
tie-less n a b i j li lj na nb h = go (sign_of a na) (sign_of b nb)
  where
    weak : (x : ℤ) → pos 0 <ℤ x → pos 0 ≤ℤ x
    weak = split _ (λ a b. simp zed (omega arith))

    go : (pos 0 <ℤ a) ⊎ (a <ℤ pos 0) → (pos 0 <ℤ b) ⊎ (b <ℤ pos 0) → Tie a b i j
    go (inr x) (inl y) = unlike x y
    go (inr x) (inr y) = falling x y (rw (lt_yes x, lt_yes y) at h)
    go (inl x) (inl y) = let k = rw (le-no (weak a x), le-no (weak b y)) at h in rising x y (omega (arith, k))
    go (inl x) (inr y) = let k = rw (le-no (weak a x), lt_yes y) at h in absurd (omega (arith, k))

-- what a sort by ratio and then by tie_of gives
pub falls-by-tie : (c : Columns) (u v : ℕ) → item_of c u < c.count → item_of c v < c.count → weight_at c u ≢ pos 0 → weight_at c v ≢ pos 0
    → (rate_at c v *ℤ pos (nat_abs (weight_at c u))) ≤ℤ (rate_at c u *ℤ pos (nat_abs (weight_at c v)))
    → (rate_at c v *ℤ pos (nat_abs (weight_at c u)) ≡ rate_at c u *ℤ pos (nat_abs (weight_at c v))
    → tie_of c.count (weight_at c u) (item_of c u) < tie_of c.count (weight_at c v) (item_of c v)) → Falls c u v
falls-by-tie c u v lu lv nu nv h t = go (≤ℤ-or-< (rate_at c u *ℤ pos (nat_abs (weight_at c v))) (rate_at c v *ℤ pos (nat_abs (weight_at c u))))
  where
    go : ((rate_at c u *ℤ pos (nat_abs (weight_at c v))) ≤ℤ (rate_at c v *ℤ pos (nat_abs (weight_at c u))))
        ⊎ ((rate_at c v *ℤ pos (nat_abs (weight_at c u))) <ℤ (rate_at c u *ℤ pos (nat_abs (weight_at c v)))) → Falls c u v
    go (inl k) = let e = ≤ℤ-antisym h k in inr (e, tie-less c.count (weight_at c u) (weight_at c v) (item_of c u) (item_of c v) lu lv nu nv (t e))
    go (inr k) = inl k

-- ---- places of ghost prices

power-mono : (M m d : ℕ) → 1 ≤ M → power M m ≤ power M (d + m)
power-mono M m zero h = ap-le (power M) m (0 + m) (none m)
  where
    none : (m : ℕ) → m ≡ 0 + m
    none m = omega arith

    ap-le : (f : ℕ → ℕ) (x y : ℕ) → x ≡ y → f x ≤ f y
    ap-le f x y e = rw e (omega arith)
power-mono M m (suc d) h = rw (next d m, power-suc M (d + m)) (omega (arith, power-mono M m d h, mul-le-mul_right (power M (d + m)) h))
  where
    next : (d m : ℕ) → suc d + m ≡ suc (d + m)
    next d m = omega arith

power_le : (M m n : ℕ) → 1 ≤ M → m ≤ n → power M m ≤ power M n
power_le M m n h l = subst (λ i. power M m ≤ power M i) (back m n l) (power-mono M m (n - m) h)
  where
    back : (m n : ℕ) → m ≤ n → (n - m) + m ≡ n
    back m n l = omega arith

-- the place of an earlier item is M times as great, or more
pub place-earlier : (M n i j : ℕ) → 1 ≤ M → i < j → j < n → M * place M n j ≤ place M n i
place-earlier M n i j h l m = subst (λ x. x ≤ place M n i) (power-suc M (n - suc j)) (power_le M (suc (n - suc j)) (n - suc i) h (omega arith))

pub place-top : (M n k : ℕ) → 1 ≤ M → k < n → M * place M n k ≤ power M n
place-top M n k h l = subst (λ x. x ≤ power M n) (power-suc M (n - suc k)) (power_le M (suc (n - suc k)) n h (omega arith))

-- ---- rates at ghost prices

times-sign-ghost : (a c : ℤ) (p q : ℕ) → times_sign a (pos p *ℤ c -ℤ pos q) ≡ pos p *ℤ times_sign a c -ℤ times_sign a (pos q)
times-sign-ghost (pos n) c p q = refl
times-sign-ghost (negsuc n) c p q = dn c
  where
    dn : (c : ℤ) → neg_ℤ (pos p *ℤ c -ℤ pos q) ≡ pos p *ℤ neg_ℤ c -ℤ neg_ℤ (pos q)
    dn = split _ (λ a b. simp zed (omega arith))

-- with its sign the place is within itself
times-sign-within : (a : ℤ) (q : ℕ) → (times_sign a (pos q) ≤ℤ pos q) × (neg_ℤ (pos q) ≤ℤ times_sign a (pos q))
times-sign-within (pos n) q = (simp zed (omega arith), simp zed (omega arith))
times-sign-within (negsuc n) q = (simp zed (omega arith), simp zed (omega arith))

-- a ratio that is above another stays so: P is above what the places bring
strict : (P qi qj m n : ℕ) (r s t v : ℤ) → 2 * (qi * n) ≤ P → 2 * (qj * m) ≤ P → t ≤ℤ pos qi → neg_ℤ (pos qj) ≤ℤ v → (s *ℤ pos m) <ℤ (r *ℤ pos n)
    → ((pos P *ℤ s -ℤ v) *ℤ pos m) ≤ℤ ((pos P *ℤ r -ℤ t) *ℤ pos n)
strict P qi qj m n = split4 _ (λ a b c e f g h i. simp zed (λ x y z w l. omega (arith, mul-le-mul_left P l, mul-le-mul_right n z, mul-le-mul_right m w)))

-- and equal ratios go by the places
even : (P m n : ℕ) (r s t v : ℤ) → (t *ℤ pos n) ≤ℤ (v *ℤ pos m) → s *ℤ pos m ≡ r *ℤ pos n → ((pos P *ℤ s -ℤ v) *ℤ pos m) ≤ℤ ((pos P *ℤ r -ℤ t) *ℤ pos n)
even P m n = split4 _ (λ a b c e f g h i. simp zed (λ l x. omega (arith, ap (λ (z : ℕ). P * z) x)))

-- ---- columns

unfoldable pub listed : (ℕ → ℤ) → ℕ → List ℤ
listed f zero = []
listed f (suc n) = f 0 ∷ listed (λ k. f (suc k)) n

pub listed_at : (f : ℕ → ℤ) (n k : ℕ) → k < n → at (listed f n) k ≡ f k
unfolding listed
listed_at f zero k l = absurd (omega arith)
listed_at f (suc n) zero l = refl
listed_at f (suc n) (suc k) l = listed_at (λ j. f (suc j)) n k (omega arith)

abbrev pub ghost_prices : ℕ → Columns → List ℤ
ghost_prices M c = listed (ghost M c.count (price_of c)) c.count

abbrev pub ghosted : ℕ → Columns → Columns
ghosted M c = record {
  weight = c.weight;
  price = ghost_prices M c;
  order = c.order;
  rank = c.rank;
  size = c.size;
  rate = listed (λ u. times_sign (weight_at c u) (at (ghost_prices M c) (item_of c u))) c.live;
  live = c.live;
  count = c.count;
  capacity = c.capacity;
}

pub ghost-price : (M : ℕ) (c : Columns) (k : ℕ) → k < c.count → price_of (ghosted M c) k ≡ ghost M c.count (price_of c) k
ghost-price M c k l = listed_at (ghost M c.count (price_of c)) c.count k l

-- at least 2, and twice any weight
pub record Large (M : ℕ) (c : Columns) : Type 0 where
  pub two : 2 ≤ M
  pub weights : (k : ℕ) → k < c.count → 2 * nat_abs (weight_of c k) ≤ M

module _ (M : ℕ) (c : Columns) (o : Tied c) (h : Large M c) where
  n : ℕ
  n = c.count

  P : ℕ
  P = power M n

  M≥1 : 1 ≤ M
  M≥1 = omega (arith, h.two)

  q : ℕ → ℕ
  q u = place M n (item_of c u)

  -- the rate of rank u at ghost prices
  ghost-rate : (u : ℕ) → u < n → rate_at (ghosted M c) u ≡ pos P *ℤ rate_at c u -ℤ times_sign (weight_at c u) (pos (q u))
  unfolding n P q
  ghost-rate u l = ap (times_sign (weight_at c u)) (ghost-price M c (item_of c u) (o.item_in u l))
      ∙ times-sign-ghost (weight_at c u) (price_of c (item_of c u)) P (q u)

  -- a place times a weight is at most half of P
  half : (u v : ℕ) → u < n → v < n → 2 * (q u * nat_abs (weight_at c v)) ≤ P
  unfolding n P q
  half u v l m = omega (arith, mul-le-mul_left (q u) (h.weights (item_of c v) (o.item_in v m)), place-top M n (item_of c u) M≥1 (o.item_in u l))

  by_tie : (u v : ℕ) → u < n → v < n → weight_at c u ≢ pos 0 → weight_at c v ≢ pos 0 → Tie (weight_at c u) (weight_at c v) (item_of c u) (item_of c v)
      → (times_sign (weight_at c u) (pos (q u)) *ℤ pos (nat_abs (weight_at c v))) ≤ℤ (times_sign (weight_at c v) (pos (q v)) *ℤ pos (nat_abs (weight_at c u)))
  unfolding n P q
  by_tie u v l m nu nv (unlike a b) = rw (times-sign-dn (weight_at c u) (pos (q u)) a, times-sign-up (weight_at c v) (pos (q v)) b)
      (go (q u) (q v) (nat_abs (weight_at c u)) (nat_abs (weight_at c v)))
    where
      go : (p q x y : ℕ) → (neg_ℤ (pos p) *ℤ pos y) ≤ℤ (pos q *ℤ pos x)
      go p q x y = simp zed (omega arith)
  by_tie u v l m nu nv (falling a b i) = rw (times-sign-dn (weight_at c u) (pos (q u)) a, times-sign-dn (weight_at c v) (pos (q v)) b)
      (go (q u) (q v) (nat_abs (weight_at c u)) (nat_abs (weight_at c v)) (abs≥1 (weight_at c v) nv) (h.weights (item_of c u) (o.item_in u l))
      (place-earlier M n (item_of c u) (item_of c v) M≥1 i (o.item_in v m)))
    where
      go : (p q x y : ℕ) → 1 ≤ y → 2 * x ≤ M → M * q ≤ p → (neg_ℤ (pos p) *ℤ pos y) ≤ℤ (neg_ℤ (pos q) *ℤ pos x)
      go p q x y f g k = simp zed (omega (arith, mul-le-mul_left p f, mul-le-mul_left q g))
  by_tie u v l m nu nv (rising a b i) = rw (times-sign-up (weight_at c u) (pos (q u)) a, times-sign-up (weight_at c v) (pos (q v)) b)
      (go (q u) (q v) (nat_abs (weight_at c u)) (nat_abs (weight_at c v)) (abs≥1 (weight_at c u) nu) (h.weights (item_of c v) (o.item_in v m))
      (place-earlier M n (item_of c v) (item_of c u) M≥1 i (o.item_in u l)))
    where
      go : (p q x y : ℕ) → 1 ≤ x → 2 * y ≤ M → M * p ≤ q → (pos p *ℤ pos y) ≤ℤ (pos q *ℤ pos x)
      go p q x y f g k = simp zed (omega (arith, mul-le-mul_left q f, mul-le-mul_left p g))

  ghost-falls : (u v : ℕ) → u < v → v < n → weight_at c u ≢ pos 0 → weight_at c v ≢ pos 0
      → (rate_at (ghosted M c) v *ℤ pos (nat_abs (weight_at c u))) ≤ℤ (rate_at (ghosted M c) u *ℤ pos (nat_abs (weight_at c v)))
  unfolding n P q
  ghost-falls u v l m nu nv = let i : u < n = omega arith in rw (ghost-rate u i, ghost-rate v m) (go i (o.falls u v l m nu nv))
    where
      go : u < n → Falls c u v
          → ((pos P *ℤ rate_at c v -ℤ times_sign (weight_at c v) (pos (q v))) *ℤ pos (nat_abs (weight_at c u))) ≤ℤ
          ((pos P *ℤ rate_at c u -ℤ times_sign (weight_at c u) (pos (q u))) *ℤ pos (nat_abs (weight_at c v)))
      go i (inl f) = strict P (q u) (q v) (nat_abs (weight_at c u)) (nat_abs (weight_at c v)) (rate_at c u) (rate_at c v) (times_sign (weight_at c u) (pos (q u)))
          (times_sign (weight_at c v) (pos (q v))) (half u v i m) (half v u m i) (times-sign-within (weight_at c u) (q u)).0
          (times-sign-within (weight_at c v) (q v)).1 f
      go i (inr (e, t)) = even P (nat_abs (weight_at c u)) (nat_abs (weight_at c v)) (rate_at c u) (rate_at c v) (times_sign (weight_at c u) (pos (q u)))
          (times_sign (weight_at c v) (pos (q v))) (by_tie u v i m nu nv t) e

  q-some : (u : ℕ) → 1 ≤ q u
  unfolding q
  q-some u = power-some M (n - suc (item_of c u)) M≥1

  q-less : (u : ℕ) → u < n → 2 * q u ≤ P
  unfolding n P q
  q-less u l = omega (arith, place-top M n (item_of c u) M≥1 (o.item_in u l), mul-le-mul_right (q u) h.two)

  ghost-live : (u : ℕ) → u < c.live → pos 0 <ℤ rate_at (ghosted M c) u
  unfolding n P q
  ghost-live u l = let i : u < n = omega (arith, o.live_in) in rw (ghost-rate u i) (go i (o.live-rate u l))
    where
      above : (P q : ℕ) (r t : ℤ) → 1 ≤ q → 2 * q ≤ P → t ≤ℤ pos q → pos 0 <ℤ r → pos 0 <ℤ (pos P *ℤ r -ℤ t)
      above P q = split2 _ (λ a b c e. simp zed (λ f g x y. omega (arith, mul-le-mul_left P y)))

      sunk : (P q : ℕ) → 1 ≤ q → pos 0 <ℤ (pos P *ℤ pos 0 -ℤ neg_ℤ (pos q))
      sunk P q f = simp zed (omega arith)

      go : u < n → Live (weight_at c u) (rate_at c u) → pos 0 <ℤ (pos P *ℤ rate_at c u -ℤ times_sign (weight_at c u) (pos (q u)))
      go i (worth f) = above P (q u) (rate_at c u) (times_sign (weight_at c u) (pos (q u))) (q-some u) (q-less u i) (times-sign-within (weight_at c u) (q u)).0 f
      go i (sinks f e) = rw (e, times-sign-dn (weight_at c u) (pos (q u)) f) (sunk P (q u) (q-some u))

  ghost-idle : (u : ℕ) → c.live ≤ u → u < n → Idle (weight_at c u) (price_of (ghosted M c) (item_of c u))
  unfolding n P q
  ghost-idle u l m = go (o.resting u l m)
    where
      under : (P q : ℕ) (r t : ℤ) → 2 * q ≤ P → neg_ℤ (pos q) ≤ℤ t → r <ℤ pos 0 → (pos P *ℤ r -ℤ t) ≤ℤ pos 0
      under P q = split2 _ (λ a b c e. simp zed (λ f x y. omega (arith, mul-le-mul_left P y)))

      rest : (P q : ℕ) (r : ℤ) → r ≤ℤ pos 0 → (pos P *ℤ r -ℤ pos q) ≤ℤ pos 0
      rest P q = split _ (λ a b. simp zed (λ y. omega (arith, mul-le-mul_left P y)))

      go : Resting (weight_at c u) (rate_at c u) → Idle (weight_at c u) (price_of (ghosted M c) (item_of c u))
      go (flat z) = inl z
      go (poor f) = inr (rw (ghost-rate u m)
          (under P (q u) (rate_at c u) (times_sign (weight_at c u) (pos (q u))) (q-less u m) (times-sign-within (weight_at c u) (q u)).1 f))
      go (rests f g) = inr (rw (ghost-rate u m, times-sign-up (weight_at c u) (pos (q u)) f) (rest P (q u) (rate_at c u) g))

  pub ghost-ordered : Ordered (ghosted M c)
  unfolding n P q
  ghost-ordered = record {
    item_in = o.item_in;
    rank-in = o.rank-in;
    item-rank = o.item-rank;
    rank-item = o.rank-item;
    falls = ghost-falls;
    live_in = o.live_in;
    live-weight = o.live-weight;
    live-rate = ghost-live;
    idle = ghost-idle;
    sizes = o.sizes;
    rates = λ u l. listed_at (λ v. times_sign (weight_at c v) (at (ghost_prices M c) (item_of c v))) c.live u l;
  }
