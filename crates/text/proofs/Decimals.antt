-- Numbers in base ten: decimal n is what it should be.
-- digits-zero, digits_step, decimal-digits: the digits of n are those of n / 10 and one more, in as many turns as that takes.
-- decimal-read: read back, the number is n; so no two numbers have the same digits (decimal-one).
-- decimal-plain: nothing but digits. decimal-lead: the first is `0` for 0 alone.
-- decimal-only: digits that no `0` leads are those of what they read. decimal-zero: of 0.
-- decimal-length, integer-length: how many bytes.
-- integer-below, integer-above: a number's text by its sign.
use mathlib.Core.Path.{◌≡◌, refl, sym, ap, ◌∙◌}
use mathlib.Core.List.{List, [], ◌∷◌, ◌++◌, append_assoc, append-nil}
use Prim.Native.Nat.{ℕ, zero, suc, ◌+◌, ◌*◌, ◌-◌, ◌/◌, ◌%◌, ◌^◌, ◌≤◌, ◌<◌}
use native.Mathlib.Omega.{arith}
use lib.IntN.{ℤ, pos, negsuc, nat_abs}
use lib.Signed.{◌≤ℤ◌, ◌<ℤ◌}
use lib.ListN.{length, get_or, length-append}
use Rattle.arith.proofs.Parts.{from-lt}
use Rattle.text.specs.Decimal.{digit, digits_in, digits, decimal, integer, read_after, Plain}

-- ---- turns

turns-enough : (t u n : ℕ) → n ≤ t → n ≤ u → digits_in t n ≡ digits_in u n
unfolding digits_in
turns-enough zero zero n h g = refl
turns-enough zero (suc u) zero h g = refl
turns-enough zero (suc u) (suc n) h g = absurd (omega arith)
turns-enough (suc t) zero zero h g = refl
turns-enough (suc t) zero (suc n) h g = absurd (omega arith)
turns-enough (suc t) (suc u) zero h g = refl
turns-enough (suc t) (suc u) (suc n) h g = ap (λ ds. ds ++ (digit (suc n % 10) ∷ [])) (turns-enough t u (suc n / 10) (omega arith) (omega arith))

none_in : (t : ℕ) → digits_in t 0 ≡ []
unfolding digits_in
none_in zero = refl
none_in (suc t) = refl

pub digits-zero : digits 0 ≡ []
unfolding digits digits_in
digits-zero = refl

pub digits_step : (n : ℕ) → 0 < n → digits n ≡ digits (n / 10) ++ (digit (n % 10) ∷ [])
unfolding digits digits_in
digits_step zero h = absurd (omega arith)
digits_step (suc n) h = ap (λ ds. ds ++ (digit (suc n % 10) ∷ [])) (turns-enough n (suc n / 10) (suc n / 10) (omega arith) (omega arith))

pub decimal-digits : (n : ℕ) → 0 < n → decimal n ≡ digits n
unfolding decimal
decimal-digits n h = sym (digits_step n h)

-- ---- what they read

pub read-append : (v : ℕ) (ds es : List ℕ) → read_after v (ds ++ es) ≡ read_after (read_after v ds) es
unfolding read_after
read-append v [] es = refl
read-append v (b ∷ ds) es = read-append (10 * v + (b - 48)) ds es

read-in : (t n : ℕ) → n ≤ t → read_after 0 (digits_in t n) ≡ n
unfolding digits_in read_after
read-in zero n h = omega arith
read-in (suc t) zero h = refl
read-in (suc t) (suc n) h = read-append 0 (digits_in t (suc n / 10)) (digit (suc n % 10) ∷ []) ∙ rw (read-in t (suc n / 10) (omega arith)) (omega arith)

pub decimal-read : (n : ℕ) → read_after 0 (decimal n) ≡ n
unfolding decimal digits read_after
decimal-read n = read-append 0 (digits (n / 10)) (digit (n % 10) ∷ []) ∙ rw (read-in (n / 10) (n / 10) (omega arith)) (omega arith)

-- End theorem: no two numbers have the same digits.
pub decimal-one : (m n : ℕ) → decimal m ≡ decimal n → m ≡ n
decimal-one m n e = sym (decimal-read m) ∙ ap (read_after 0) e ∙ decimal-read n

-- ---- their form

plain-append : (ds es : List ℕ) → Plain ds → Plain es → Plain (ds ++ es)
unfolding Plain
plain-append [] es h g = g
plain-append (b ∷ ds) es h g = (h.0, plain-append ds es h.1 g)

plain-digit : (n : ℕ) → Plain (digit (n % 10) ∷ [])
unfolding Plain
plain-digit n = omega arith

plain_in : (t n : ℕ) → Plain (digits_in t n)
unfolding digits_in Plain
plain_in zero n = tt
plain_in (suc t) zero = tt
plain_in (suc t) (suc n) = plain-append (digits_in t (suc n / 10)) (digit (suc n % 10) ∷ []) (plain_in t (suc n / 10)) (plain-digit (suc n))

pub decimal-plain : (n : ℕ) → Plain (decimal n)
unfolding decimal digits
decimal-plain n = plain-append (digits (n / 10)) (digit (n % 10) ∷ []) (plain_in (n / 10) (n / 10)) (plain-digit n)

-- ---- no leading zero

lead-append : (ds es : List ℕ) → 48 < get_or ds 0 0 → 48 < get_or (ds ++ es) 0 0
lead-append [] es h = absurd (omega arith)
lead-append (b ∷ ds) es h = h

lead-in : (t n : ℕ) → n ≤ t → 0 < n → 48 < get_or (digits_in t n) 0 0
unfolding digits_in
lead-in zero n h z = absurd (omega arith)
lead-in (suc t) zero h z = absurd (omega arith)
lead-in (suc t) (suc n) h z = go (suc n / 10) refl (lead-in t (suc n / 10) (omega arith))
  where
    go : (m : ℕ) → suc n / 10 ≡ m → (0 < suc n / 10 → 48 < get_or (digits_in t (suc n / 10)) 0 0) →
        48 < get_or (digits_in t (suc n / 10) ++ (digit (suc n % 10) ∷ [])) 0 0
    go zero e ih = rw (e, none_in t) (omega arith)
    go (suc m) e ih = lead-append (digits_in t (suc n / 10)) _ (ih (omega arith))

pub decimal-lead : (n : ℕ) → 0 < n → 48 < get_or (decimal n) 0 0
unfolding digits
decimal-lead n h = rw (decimal-digits n h) (lead-in n n (omega arith) h)

-- ---- and no other text is so

read-grows : (v : ℕ) (ds : List ℕ) → v ≤ read_after v ds
unfolding read_after
read-grows v [] = omega arith
read-grows v (b ∷ ds) = omega (arith, read-grows (10 * v + (b - 48)) ds)

-- one digit more
digits_more : (v d : ℕ) → 1 ≤ v → d < 10 → digits (10 * v + d) ≡ digits v ++ (digit d ∷ [])
digits_more v d h k =
    let q : (10 * v + d) / 10 ≡ v = omega arith in
    let r : (10 * v + d) % 10 ≡ d = omega arith in
    digits_step (10 * v + d) (omega arith) ∙ rw (q, r)

digits-run : (v : ℕ) (ds : List ℕ) → 1 ≤ v → Plain ds → digits (read_after v ds) ≡ digits v ++ ds
unfolding read_after Plain
digits-run v [] h p = sym (append-nil (digits v))
digits-run v (b ∷ ds) h p =
    let e : digit (b - 48) ≡ b = omega arith in
    digits-run (10 * v + (b - 48)) ds (omega arith) p.1 ∙ rw (digits_more v (b - 48) h (omega arith), e) (append_assoc (digits v) (b ∷ []) ds)

pub decimal-only : (b : ℕ) (ds : List ℕ) → 48 < b → Plain (b ∷ ds) → (1 ≤ read_after 0 (b ∷ ds)) × (decimal (read_after 0 (b ∷ ds)) ≡ b ∷ ds)
unfolding read_after Plain
decimal-only b ds h p =
    let v = 10 * 0 + (b - 48) in
    let g : 1 ≤ read_after v ds = omega (arith, read-grows v ds) in
    let q : v / 10 ≡ 0 = omega arith in
    let r : digit (v % 10) ≡ b = omega arith in
    (g, decimal-digits (read_after v ds) g ∙ digits-run v ds (omega arith) p.1 ∙ rw (digits_step v (omega arith), q, r, digits-zero))

pub decimal-zero : decimal 0 ≡ 48 ∷ []
unfolding decimal digits digits_in
decimal-zero = refl

-- ---- how many

length-in : (t k n : ℕ) → n < 10 ^ k → length (digits_in t n) ≤ k
unfolding digits_in
length-in zero k n h = omega arith
length-in (suc t) k zero h = omega arith
length-in (suc t) zero (suc n) h = absurd (omega arith)
length-in (suc t) (suc k) (suc n) h = simp length-append (omega (arith, length-in t k (suc n / 10) (omega arith)))

pub decimal-length : (k n : ℕ) → n < 10 ^ suc k → length (decimal n) ≤ suc k
unfolding decimal digits
decimal-length k n h = simp length-append (omega (arith, length-in (n / 10) k (n / 10) (omega arith)))

pub integer-length : (k : ℕ) (z : ℤ) → nat_abs z < 10 ^ suc k → length (integer z) ≤ suc (suc k)
integer-length k (pos n) h = omega (arith, decimal-length k n h)
integer-length k (negsuc n) h = omega (arith, decimal-length k (suc n) h)

-- ---- by the sign

pub integer-below : (z : ℤ) → z <ℤ pos 0 → integer z ≡ 45 ∷ decimal (nat_abs z)
integer-below (pos n) h = absurd (omega (arith, from-lt h))
integer-below (negsuc n) h = refl

pub integer-above : (z : ℤ) → pos 0 ≤ℤ z → integer z ≡ decimal (nat_abs z)
integer-above (pos n) h = refl
integer-above (negsuc n) h = absurd h.le
