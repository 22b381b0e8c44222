-- Laws of keys of mixed radix.
--   Digits r d k n     digit j is at most r j, for each of these parts
--   Same d e k n       the digits are the same
--   Sooner d e k n     at the first difference d is below e
--   Order d e k n      which of the three
-- keys-some, keys-first, keys-last: how many there are, with one part more at the front or at the end.
-- key_below: a key is below keys.
-- sooner-key, same_key, key-same, key-≤: keys compare as the digits do, first difference first.
-- digits-first, digits-rest: the digits by division. digits_in_lem, digits-key, key-digits: each number below keys is the key of its digits, and of
-- no others.
-- keys-next, radix-at, digits-next, digits-tail-of, digits-before, digits-after: part by part.
-- radix-small, digits-small: how large they get.
-- radix-in, radix-before, radix-after: the worth of a digit. key-sum: a group's key is the sum of radix · digit over all parts.
use mathlib.Core.Path.{◌≡◌, refl, sym, ap, ap₂, ◌∙◌, subst, subst₂}
use mathlib.Core.Bool.{Bool, true, false, cond}
use mathlib.Core.Logic.{◌⊎◌, inl, inr}
use Prim.Native.Nat.{ℕ, zero, suc, ◌+◌, ◌*◌, ◌-◌, ◌/◌, ◌%◌, ◌≤◌, ◌<◌}
use native.Mathlib.Omega.{arith}
use native.Mathlib.Numerals.{add-one}
use native.Mathlib.Decide.{dec_lt, ℕ_discrete}
use native.Mathlib.Nat.{mul-le-mul_right, div-add-mod', mod-lt, div-lt_iff_lt-mul}
use lib.Dec.{ltb}
use borrow.Author.Tests.{lt-ltb, le-ltb, ltb-true, ltb-false, eq-eqb, ne_eqb}
use Rattle.scales.specs.Filling.{sum}
use Rattle.scales.proofs.Sums.{sum-none}
use Rattle.fillings.specs.Keys.{keys, key, digits, radix}

abbrev pub Digits : (r d : ℕ → ℕ) → ℕ → ℕ → Type 0
Digits r d k n = (j : ℕ) → k ≤ j → j < k + n → d j ≤ r j

abbrev pub Same : (d e : ℕ → ℕ) → ℕ → ℕ → Type 0
Same d e k n = (j : ℕ) → k ≤ j → j < k + n → d j ≡ e j

pub record Sooner (d e : ℕ → ℕ) (k n : ℕ) : Type 0 where
  pub place : ℕ
  pub from : k ≤ place
  pub below : place < k + n
  pub same : (j : ℕ) → k ≤ j → j < place → d j ≡ e j
  pub less : d place < e place

-- ---- all but the first part

digits-tail : (r d : ℕ → ℕ) (k n : ℕ) → Digits r d k (suc n) → Digits r d (suc k) n
digits-tail r d k n h j l m = h j (omega arith) (omega arith)

same-tail : (d e : ℕ → ℕ) (k n : ℕ) → Same d e k (suc n) → Same d e (suc k) n
same-tail d e k n h j l m = h j (omega arith) (omega arith)

same_more : (d e : ℕ → ℕ) (k n : ℕ) → d k ≡ e k → Same d e (suc k) n → Same d e k (suc n)
same_more d e k n f h j l m = go (ℕ_discrete j k)
  where
    go : Dec (j ≡ k) → d j ≡ e j
    go (yes q) = rw q f
    go (no q) = h j (omega arith) (omega arith)

sooner-more : (d e : ℕ → ℕ) (k n : ℕ) → d k ≡ e k → Sooner d e (suc k) n → Sooner d e k (suc n)
sooner-more d e k n f h = record { place = h.place; from = omega (arith, h.from); below = omega (arith, h.below); same = same; less = h.less }
  where
    same : (j : ℕ) → k ≤ j → j < h.place → d j ≡ e j
    same j l m = go (ℕ_discrete j k)
      where
        go : Dec (j ≡ k) → d j ≡ e j
        go (yes q) = rw q f
        go (no q) = h.same j (omega arith) m

sooner-here : (d e : ℕ → ℕ) (k n : ℕ) → d k < e k → Sooner d e k (suc n)
sooner-here d e k n l = record { place = k; from = omega arith; below = omega arith; same = λ j h m. absurd (omega arith); less = l }

-- ---- keys

pub keys-some : (r : ℕ → ℕ) (k n : ℕ) → 1 ≤ keys r k n
unfolding keys
keys-some r k zero = omega arith
keys-some r k (suc n) = omega (arith, keys-some r (suc k) n, mul-le-mul_right (keys r (suc k) n) (one (r k)))
  where
    one : (m : ℕ) → 1 ≤ suc m
    one m = omega arith

pub keys-last : (r : ℕ → ℕ) (k n : ℕ) → keys r k (suc n) ≡ keys r k n * suc (r (k + n))
unfolding keys
keys-last r k zero = rw (here k) (omega arith)
  where
    here : (k : ℕ) → k + 0 ≡ k
    here k = omega arith
keys-last r k (suc n) = ap (λ z. suc (r k) * z) (keys-last r (suc k) n) ∙ times (suc (r k)) (keys r (suc k) n) (suc (r (suc k + n))) ∙
    ap (λ i. (suc (r k) * keys r (suc k) n) * suc (r i)) (there k n)
  where
    there : (k n : ℕ) → suc k + n ≡ k + suc n
    there k n = omega arith

    times : (x y z : ℕ) → x * (y * z) ≡ (x * y) * z
    times x y z = omega arith

pub keys-first : (r : ℕ → ℕ) (k n : ℕ) → keys r k (suc n) ≡ suc (r k) * keys r (suc k) n
unfolding keys
keys-first r k n = refl

pub key_below : (r d : ℕ → ℕ) (k n : ℕ) → Digits r d k n → key r d k n < keys r k n
unfolding keys key
key_below r d k zero h = omega arith
key_below r d k (suc n) h = omega (
  arith,
  key_below r d (suc k) n (digits-tail r d k n h),
  mul-le-mul_right (keys r (suc k) n) (h k (omega arith) (omega arith)),
)

pub same_key : (r d e : ℕ → ℕ) (k n : ℕ) → Same d e k n → key r d k n ≡ key r e k n
unfolding key
same_key r d e k zero h = refl
same_key r d e k (suc n) h = ap₂ (λ x y. x * keys r (suc k) n + y) (h k (omega arith) (omega arith)) (same_key r d e (suc k) n (same-tail d e k n h))

pub sooner-key : (r d e : ℕ → ℕ) (k n : ℕ) → Digits r d k n → Sooner d e k n → key r d k n < key r e k n
unfolding key
sooner-key r d e k zero h s = absurd (omega (arith, s.from, s.below))
sooner-key r d e k (suc n) h s = go (ℕ_discrete s.place k) (λ t. sooner-key r d e (suc k) n (digits-tail r d k n h) t)
  where
    go : Dec (s.place ≡ k) → (Sooner d e (suc k) n → key r d (suc k) n < key r e (suc k) n) →
        d k * keys r (suc k) n + key r d (suc k) n < e k * keys r (suc k) n + key r e (suc k) n
    go (yes q) ih = omega (arith, key_below r d (suc k) n (digits-tail r d k n h), mul-le-mul_right (keys r (suc k) n) (subst (λ j. d j < e j) q s.less))
    go (no q) ih = rw (s.same k (omega arith) (omega (arith, s.from)))
        (omega (
          arith,
          ih (record {
            place = s.place;
            from = omega (arith, s.from);
            below = omega (arith, s.below);
            same = λ j l m. s.same j (omega arith) m;
            less = s.less;
          }),
        ))

pub data Order (d e : ℕ → ℕ) (k n : ℕ) : Type 0 where
  sooner : Sooner d e k n → Order d e k n
  same : Same d e k n → Order d e k n
  later : Sooner e d k n → Order d e k n

-- which comes first
pub order : (d e : ℕ → ℕ) (k n : ℕ) → Order d e k n
order d e k zero = same (λ j l m. absurd (omega arith))
order d e k (suc n) = go (dec_lt (d k) (e k)) (dec_lt (e k) (d k)) (order d e (suc k) n)
  where
    go : Dec (d k < e k) → Dec (e k < d k) → Order d e (suc k) n → Order d e k (suc n)
    go (yes l) y o = sooner (sooner-here d e k n l)
    go (no l) (yes m) o = later (sooner-here e d k n m)
    go (no l) (no m) (sooner s) = sooner (sooner-more d e k n (omega arith) s)
    go (no l) (no m) (same s) = same (same_more d e k n (omega arith) s)
    go (no l) (no m) (later s) = later (sooner-more e d k n (omega arith) s)

module _ (r d e : ℕ → ℕ) (k n : ℕ) (hd : Digits r d k n) (he : Digits r e k n) where
  pub key-sooner : key r d k n < key r e k n → Sooner d e k n
  key-sooner h = go (order d e k n)
    where
      go : Order d e k n → Sooner d e k n
      go (sooner s) = s
      go (same s) = absurd (omega (arith, same_key r d e k n s))
      go (later s) = absurd (omega (arith, sooner-key r e d k n he s))

  pub key-same : key r d k n ≡ key r e k n → Same d e k n
  key-same h = go (order d e k n)
    where
      go : Order d e k n → Same d e k n
      go (sooner s) = absurd (omega (arith, sooner-key r d e k n hd s))
      go (same s) = s
      go (later s) = absurd (omega (arith, sooner-key r e d k n he s))

  pub key-≤ : key r d k n ≤ key r e k n → Same d e k n ⊎ Sooner d e k n
  key-≤ h = go (order d e k n)
    where
      go : Order d e k n → Same d e k n ⊎ Sooner d e k n
      go (sooner s) = inr s
      go (same s) = inl s
      go (later s) = absurd (omega (arith, sooner-key r e d k n he s))

  pub ≤-key : Same d e k n ⊎ Sooner d e k n → key r d k n ≤ key r e k n
  ≤-key (inl s) = omega (arith, same_key r d e k n s)
  ≤-key (inr s) = omega (arith, sooner-key r d e k n hd s)

-- ---- digits of a key

pub digits-first : (r : ℕ → ℕ) (k n x : ℕ) → digits r k (suc n) x k ≡ x / keys r (suc k) n
unfolding digits
digits-first r k n x = rw (eq-eqb k k refl)

pub digits-rest : (r : ℕ → ℕ) (k n x j : ℕ) → (j ≡ k → ⊥) → digits r k (suc n) x j ≡ digits r (suc k) n (x % keys r (suc k) n) j
unfolding digits
digits-rest r k n x j h = rw (ne_eqb j k h)

pub digits_in_lem : (r : ℕ → ℕ) (k n x : ℕ) → x < keys r k n → Digits r (digits r k n x) k n
unfolding keys
digits_in_lem r k zero x h j l m = absurd (omega arith)
digits_in_lem r k (suc n) x h j l m = go (ℕ_discrete j k) (λ i o p. digits_in_lem r (suc k) n (x % keys r (suc k) n) (mod-lt x (keys-some r (suc k) n)) i o p)
  where
    go : Dec (j ≡ k) → Digits r (digits r (suc k) n (x % keys r (suc k) n)) (suc k) n → digits r k (suc n) x j ≤ r j
    go (yes q) ih = rw (q, digits-first r k n x) (omega (arith, (div-lt_iff_lt-mul {x = x} {y = suc (r k)} (keys-some r (suc k) n)).1 h))
    go (no q) ih = rw (digits-rest r k n x j q) (ih j (omega arith) (omega arith))

pub digits-key : (r : ℕ → ℕ) (k n x : ℕ) → x < keys r k n → key r (digits r k n x) k n ≡ x
unfolding keys key
digits-key r k zero x h = omega arith
digits-key r k (suc n) x h = rw (
  digits-first r k n x,
  same_key r (digits r k (suc n) x) (digits r (suc k) n (x % keys r (suc k) n)) (suc k) n
      (λ j l m. digits-rest r k n x j (omega arith)),
  digits-key r (suc k) n (x % keys r (suc k) n) (mod-lt x (keys-some r (suc k) n)),
)
    (div-add-mod' x (keys r (suc k) n))

-- the digits of a key are those that it was made of
pub key-digits : (r d : ℕ → ℕ) (k n : ℕ) → Digits r d k n → Same (digits r k n (key r d k n)) d k n
key-digits r d k n h = key-same r (digits r k n (key r d k n)) d k n (digits_in_lem r k n (key r d k n) l) h (digits-key r k n (key r d k n) l)
  where
    l : key r d k n < keys r k n
    l = key_below r d k n h

-- ---- the key as a sum over all parts

pub radix-in : (r : ℕ → ℕ) (f j m : ℕ) → f ≤ j → radix r f (suc j + m) j ≡ keys r (suc j) m
unfolding radix
radix-in r f j m h = rw (le-ltb j f h, lt-ltb j (suc j + m) (omega arith)) (ap (keys r (suc j)) (left j m))
  where
    left : (j m : ℕ) → (suc j + m) - suc j ≡ m
    left j m = omega arith

pub radix-before : (r : ℕ → ℕ) (f t j : ℕ) → j < f → radix r f t j ≡ 0
unfolding radix
radix-before r f t j h = rw (lt-ltb j f h)

pub radix-after : (r : ℕ → ℕ) (f t j : ℕ) → t ≤ j → radix r f t j ≡ 0
unfolding radix
radix-after r f t j h = go (ltb j f)
  where
    go : (b : Bool) → cond b 0 (cond (ltb j t) (keys r (suc j) (t - suc j)) 0) ≡ 0
    go true = refl
    go false = rw (le-ltb j t h)

sum_to : (n m : ℕ) (g : ℕ → ℕ) → ((j : ℕ) → m ≤ j → g j ≡ 0) → m ≤ n → sum n g ≡ sum m g
sum_to zero m g h l = ap (λ i. sum i g) (none m l)
  where
    none : (m : ℕ) → m ≤ 0 → 0 ≡ m
    none m l = omega arith
sum_to (suc n) m g h l = go (ℕ_discrete (suc n) m) (λ i. sum_to n m g h i)
  where
    go : Dec (suc n ≡ m) → (m ≤ n → sum n g ≡ sum m g) → sum (suc n) g ≡ sum m g
    go (yes q) ih = ap (λ i. sum i g) q
    go (no q) ih = omega (arith, ih (omega arith), h n (omega arith))

-- the places k .. t - 1, if those of g are the terms of a key
sum-key : (r d g : ℕ → ℕ) (t n k : ℕ) → k + n ≡ t → ((j m : ℕ) → k ≤ j → suc j + m ≡ t → g j ≡ keys r (suc j) m * d j) → sum t g ≡ sum k g + key r d k n
unfolding key
sum-key r d g t zero k e h = ap (λ i. sum i g) (none k t e) ∙ plain (sum k g)
  where
    none : (k t : ℕ) → k + 0 ≡ t → t ≡ k
    none k t e = omega arith

    plain : (x : ℕ) → x ≡ x + 0
    plain x = omega arith
sum-key r d g t (suc n) k e h = let a : suc k + n ≡ t = omega arith in
    omega (arith, sum-key r d g t n (suc k) a (λ j m l f. h j m (omega arith) f), h k n (omega arith) a)

pub key-sum : (r d : ℕ → ℕ) (f n p : ℕ) → f + n ≤ p → sum p (λ j. radix r f (f + n) j * d j) ≡ key r d f n
key-sum r d f n p l = sum_to p (f + n) g after l ∙ omega (arith, sum-key r d g (f + n) n f refl inside, sum-none f g before)
  where
    g : ℕ → ℕ
    g j = radix r f (f + n) j * d j

    after : (j : ℕ) → f + n ≤ j → g j ≡ 0
    after j h = rw (radix-after r f (f + n) j h) (omega arith)

    before : (j : ℕ) → j < f → g j ≡ 0
    before j h = rw (radix-before r f (f + n) j h) (omega arith)

    inside : (j m : ℕ) → f ≤ j → suc j + m ≡ f + n → g j ≡ keys r (suc j) m * d j
    inside j m h e = ap (λ z. z * d j) (ap (λ t. radix r f t j) (sym e) ∙ radix-in r f j m h)

-- ---- as loops go through them

more : (k t : ℕ) → k < t → t - k ≡ suc (t - suc k)
more k t h = omega arith

pub keys-next : (r : ℕ → ℕ) (k t : ℕ) → k < t → keys r k (t - k) ≡ suc (r k) * keys r (k + 1) (t - (k + 1))
keys-next r k t h = rw (add-one k) (ap (keys r k) (more k t h) ∙ keys-first r k (t - suc k))

pub radix-at : (r : ℕ → ℕ) (f t j : ℕ) → f ≤ j → j < t → radix r f t j ≡ keys r (j + 1) (t - (j + 1))
unfolding radix
radix-at r f t j h l = rw (add-one j, le-ltb j f h, lt-ltb j t l)

pub digits-next : (r : ℕ → ℕ) (k t x : ℕ) → k < t → digits r k (t - k) x k ≡ x / keys r (k + 1) (t - (k + 1))
digits-next r k t x h = rw (add-one k) (ap (λ n. digits r k n x k) (more k t h) ∙ digits-first r k (t - suc k) x)

pub digits-tail-of : (r : ℕ → ℕ) (k t x j : ℕ) → k < t → k + 1 ≤ j →
    digits r k (t - k) x j ≡ digits r (k + 1) (t - (k + 1)) (x % keys r (k + 1) (t - (k + 1))) j
digits-tail-of r k t x j h l = rw (add-one k) (ap (λ n. digits r k n x j) (more k t h) ∙ digits-rest r k (t - suc k) x j (omega arith))

pub digits-before : (r : ℕ → ℕ) (k n x j : ℕ) → j < k → digits r k n x j ≡ 0
unfolding digits
digits-before r k zero x j h = refl
digits-before r k (suc n) x j h = rw (ne_eqb j k (omega arith)) (digits-before r (suc k) n (x % keys r (suc k) n) j (omega arith))

pub digits-after : (r : ℕ → ℕ) (k n x j : ℕ) → k + n ≤ j → digits r k n x j ≡ 0
unfolding digits
digits-after r k zero x j h = refl
digits-after r k (suc n) x j h = rw (ne_eqb j k (omega arith)) (digits-after r (suc k) n (x % keys r (suc k) n) j (omega arith))

-- ---- sizes

keys-suffix : (r : ℕ → ℕ) (i k n : ℕ) → keys r (k + i) n ≤ keys r k (i + n)
unfolding keys
keys-suffix r zero k n = rw (here k, there n) (omega arith)
  where
    here : (k : ℕ) → k + 0 ≡ k
    here k = omega arith

    there : (n : ℕ) → 0 + n ≡ n
    there n = omega arith
keys-suffix r (suc i) k n = rw (here k i, there i n) (omega (arith, keys-suffix r i (suc k) n))
  where
    here : (k i : ℕ) → k + suc i ≡ suc k + i
    here k i = omega arith

    there : (i n : ℕ) → suc i + n ≡ suc (i + n)
    there i n = omega arith

pub radix-small : (r : ℕ → ℕ) (f t j : ℕ) → radix r f t j ≤ keys r f (t - f)
unfolding radix
radix-small r f t j = go (ltb j f) refl (ltb j t) refl
  where
    inside : (i : ℕ) → f + i ≡ suc j → suc j ≤ t → keys r (suc j) (t - suc j) ≤ keys r f (t - f)
    inside i e h = subst₂ (λ x y. keys r x (t - suc j) ≤ keys r f y) e (omega arith) (keys-suffix r i f (t - suc j))

    go : (a : Bool) → ltb j f ≡ a → (b : Bool) → ltb j t ≡ b → cond a 0 (cond b (keys r (suc j) (t - suc j)) 0) ≤ keys r f (t - f)
    go true h b k = omega arith
    go false h true k = inside (suc j - f) (omega (arith, ltb-false j f h)) (omega (arith, ltb-true j t k))
    go false h false k = omega arith

pub digits-small : (r : ℕ → ℕ) (k n x : ℕ) → x < keys r k n → (j : ℕ) → digits r k n x j ≤ r j
digits-small r k n x h j = go (dec_lt j k) (dec_lt j (k + n))
  where
    go : Dec (j < k) → Dec (j < k + n) → digits r k n x j ≤ r j
    go (yes l) d = omega (arith, digits-before r k n x j l)
    go (no l) (yes m) = digits_in_lem r k n x h j (omega arith) m
    go (no l) (no m) = omega (arith, digits-after r k n x j (omega arith))
