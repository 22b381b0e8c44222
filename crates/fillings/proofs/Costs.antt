-- Costs with keys: a cost is counted in units of base, and a key below base is added.
--   digitOf b u z j      how far the amount z is from its first one: from below, or from above where it falls
--   costs, keyed         what amounts cost, and what they cost with keys, at most cap a unit
-- keyed-≤: never more than the costs times base, and the key; keyed-≡: just that, below the cap: a unit that was cut at the cap is not paid for.
-- split-cost: the cost and the key are quotient and remainder. cost-low, key-low: what a lower bound says of both.
use mathlib.Core.Path.{◌≡◌, ap, ◌∙◌}
use mathlib.Core.Bool.{Bool, true, false, cond}
use Prim.Native.Nat.{ℕ, zero, suc, ◌+◌, ◌*◌, ◌-◌, ◌/◌, ◌%◌, ◌≤◌, ◌<◌, min}
use native.Mathlib.Omega.{arith}
use native.Mathlib.Decide.{dec_lt}
use native.Mathlib.Nat.{mul-le-mul_right, div-add-mod', mod-lt}
use Rattle.scales.specs.Filling.{sum}
use Rattle.fillings.specs.Runs.{keyed_by, taken_key, left_key}

-- ---- quotient and remainder

pub cost-low : (q x b d : ℕ) → d < b → q ≤ x * b + d → q / b ≤ x
cost-low q x b d l h = go (dec_lt x (q / b))
  where
    go : Dec (x < q / b) → q / b ≤ x
    go (yes m) = absurd (omega (arith, mul-le-mul_right b m, div-add-mod' q b))
    go (no m) = omega arith

pub key-low : (q x b d : ℕ) → q ≤ x * b + d → x ≡ q / b → q % b ≤ d
key-low q x b d h e = omega (arith, ap (λ (z : ℕ). z * b) e, div-add-mod' q b)

pub cap-low : (c x b d : ℕ) → d < b → c * b ≤ x * b + d → c ≤ x
cap-low c x b d l h = go (dec_lt x c)
  where
    go : Dec (x < c) → c ≤ x
    go (yes m) = absurd (omega (arith, mul-le-mul_right b m))
    go (no m) = omega arith

pub split-cost : (q x b d : ℕ) → d < b → q ≡ x * b + d → (q / b ≡ x) × (q % b ≡ d)
split-cost q x b d l e = (same, omega (arith, ap (λ (z : ℕ). z * b) same, div-add-mod' q b))
  where
    up : Dec (q / b < x) → x ≤ q / b
    up (yes m) = absurd (omega (arith, mul-le-mul_right b m, div-add-mod' q b, mod-lt q (some d b l)))
      where
        some : (d b : ℕ) → d < b → 0 < b
        some d b l = omega arith
    up (no m) = omega arith

    same : q / b ≡ x
    same = omega (arith, cost-low q x b d l (omega arith), up (dec_lt (q / b) x))

-- ---- one unit

cut_by_lem : (cap left base c k z : ℕ) → keyed_by cap left base c k * z ≤ (c * base + k) * z
cut_by_lem cap left base c k z = mul-le-mul_right z (below (min left c) c (omega arith))
  where
    below : (m c : ℕ) → m ≤ c → min cap (m * base + k) ≤ c * base + k
    below m c h = omega (arith, mul-le-mul_right base h)

uncut-by : (left base c k z : ℕ) → keyed_by (left * base) left base c k * z < left * base → keyed_by (left * base) left base c k * z ≡ (c * base + k) * z
uncut-by left base c k zero h = omega arith
uncut-by left base c k (suc z) h = ap (λ (n : ℕ). n * suc z) (go (dec_lt c left))
  where
    n : ℕ
    n = keyed_by (left * base) left base c k

    small : n < left * base
    small = omega arith

    less : (m : ℕ) → m < left → min left m ≡ m
    less m h = omega arith

    more : (m : ℕ) → left ≤ m → min left m ≡ left
    more m h = omega arith

    plain : (K m : ℕ) → min K (m * base + k) < K → min K (m * base + k) ≡ m * base + k
    plain K m h = omega arith

    none : (K : ℕ) → min K (K + k) < K → ⊥
    none K h = omega arith

    go : Dec (c < left) → n ≡ c * base + k
    go (yes l) = ap (λ (m : ℕ). min (left * base) (m * base + k)) (less c l) ∙ plain (left * base) c (rw (less c l) at small)
    go (no l) = absurd (none (left * base) (rw (more c (omega arith)) at small))

-- ---- all parts

abbrev pub digit_by : Bool → ℕ → ℕ → ℕ
digit_by b u z = cond b (u - z) z

-- the key's part of what units taken and left cost
share : (b : Bool) (a z v base t l : ℕ) → (t * base + taken_key b a) * z + (l * base + left_key b a) * v ≡ (t * z + l * v) * base + a * cond b v z
share true a z v base t l = omega arith
share false a z v base t l = omega arith

module _ (t l u a : ℕ → ℕ) (b : ℕ → Bool) (left base : ℕ) (z : ℕ → ℕ) where
  abbrev pub cap : ℕ
  cap = left * base

  abbrev pub costs : ℕ → ℕ
  costs n = sum n (λ j. t j * z j + l j * (u j - z j))

  abbrev pub keyed : ℕ → ℕ
  keyed n = sum n (λ j. keyed_by cap left base (t j) (taken_key (b j) (a j)) * z j + keyed_by cap left base (l j) (left_key (b j) (a j)) * (u j - z j))

  abbrev pub key_sum : ℕ → ℕ
  key_sum n = sum n (λ j. a j * digit_by (b j) (u j) (z j))

  join : (x y v w n : ℕ) → (x + y) * n + (v + w) ≡ (x * n + v) + (y * n + w)
  join x y v w n = omega arith

  pub keyed-≤ : (n : ℕ) → keyed n ≤ costs n * base + key_sum n
  keyed-≤ zero = omega arith
  keyed-≤ (suc n) = omega (
    arith,
    keyed-≤ n,
    cut_by_lem cap left base (t n) (taken_key (b n) (a n)) (z n),
    cut_by_lem cap left base (l n) (left_key (b n) (a n)) (u n - z n),
    share (b n) (a n) (z n) (u n - z n) base (t n) (l n),
    join (costs n) (t n * z n + l n * (u n - z n)) (key_sum n) (a n * digit_by (b n) (u n) (z n)) base,
  )

  pub keyed-≡ : (n : ℕ) → keyed n < cap → keyed n ≡ costs n * base + key_sum n
  keyed-≡ zero h = omega arith
  keyed-≡ (suc n) h = omega (
    arith,
    keyed-≡ n (omega arith),
    uncut-by left base (t n) (taken_key (b n) (a n)) (z n) (omega arith),
    uncut-by left base (l n) (left_key (b n) (a n)) (u n - z n) (omega arith),
    share (b n) (a n) (z n) (u n - z n) base (t n) (l n),
    join (costs n) (t n * z n + l n * (u n - z n)) (key_sum n) (a n * digit_by (b n) (u n) (z n)) base,
  )
