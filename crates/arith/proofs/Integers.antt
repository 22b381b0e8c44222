-- Integers as differences of two naturals.
--   a ⊖ b          a minus b
--   minℤ, maxℤ     the lesser and the greater of two numbers
-- split, split2, split3, split4: to prove a law of integers, prove it of differences.
-- zed: the ruleset that turns sums, products, signs, orders and equations of differences into those of naturals, so that
--   `split3 _ (λ a b c e f g. simp zed (omega arith))` proves any linear law and any ring identity.
-- ≤ℤ-trans, +ℤ-mono, ≤ℤ-diff, diff-≤ℤ, times-≤ …: the order's laws; natAbs-…: the absolute value.
use mathlib.Core.Path.{◌≡◌, refl, sym, ap, subst}
use mathlib.Core.Bool.{Bool, true, false, cond, not}
use mathlib.Core.Logic.{◌↔◌, ◌⊎◌, inl, inr}
use native.Mathlib.Nat.{mul-le-mul_right, le_of_mul-le-mul_right}
use Prim.Native.Nat.{ℕ, zero, suc, ◌+◌, ◌*◌, ◌-◌, ◌≤◌, ◌<◌, min, max}
use native.Mathlib.Omega.{arith}
use native.Mathlib.Decide.{dec_lt}
use lib.IntN.{ℤ, pos, negsuc, neg_ℤ, nat_abs, sub_ℕ, ◌+ℤ◌, ◌-ℤ◌, ◌*ℤ◌}
use lib.Signed.{◌≤ℤ◌, ◌<ℤ◌, lt_z, le_z_yes, lt_z_yes, lt_z_no}
use lib.Dec.{T, ltb→lt, leb→le, le→leb, lt→ltb}
use borrow.Author.Tests.{lt-ltb, le-ltb}

-- z is a minus b
abbrev pub Is : ℤ → ℕ → ℕ → Type 0
Is (pos n) a b = a ≡ b + n
Is (negsuc n) a b = b ≡ a + suc n

pub is-sub : (a b : ℕ) → Is (sub_ℕ a b) a b
is-sub a b = go (dec_lt a b)
  where
    go : Dec (a < b) → Is (sub_ℕ a b) a b
    go (yes h) = rw (lt-ltb a b h) (omega arith)
    go (no h) = rw (le-ltb a b (omega arith)) (omega arith)

pub is-unique : (x y : ℤ) (a b : ℕ) → Is x a b → Is y a b → x ≡ y
is-unique (pos m) (pos n) a b p q = ap pos (omega arith)
is-unique (pos m) (negsuc n) a b p q = absurd (omega arith)
is-unique (negsuc m) (pos n) a b p q = absurd (omega arith)
is-unique (negsuc m) (negsuc n) a b p q = ap negsuc (omega arith)

pub is-add : (x y : ℤ) (a b c e : ℕ) → Is x a b → Is y c e → Is (x +ℤ y) (a + c) (b + e)
is-add (pos m) (pos n) a b c e p q = omega arith
is-add (pos m) (negsuc n) a b c e p q = shift (sub_ℕ m (suc n)) (is-sub m (suc n))
  where
    shift : (z : ℤ) → Is z m (suc n) → Is z (a + c) (b + e)
    shift (pos k) h = omega arith
    shift (negsuc k) h = omega arith
is-add (negsuc m) (pos n) a b c e p q = shift (sub_ℕ n (suc m)) (is-sub n (suc m))
  where
    shift : (z : ℤ) → Is z n (suc m) → Is z (a + c) (b + e)
    shift (pos k) h = omega arith
    shift (negsuc k) h = omega arith
is-add (negsuc m) (negsuc n) a b c e p q = omega arith

pub is-neg : (x : ℤ) (a b : ℕ) → Is x a b → Is (neg_ℤ x) b a
is-neg (pos zero) a b p = omega arith
is-neg (pos (suc n)) a b p = p
is-neg (negsuc n) a b p = p

pub is_mul : (x y : ℤ) (a b c e : ℕ) → Is x a b → Is y c e → Is (x *ℤ y) (a * c + b * e) (a * e + b * c)
is_mul (pos m) (pos n) a b c e p q = rw (p, q) (omega arith)
is_mul (pos m) (negsuc n) a b c e p q = is-neg (pos (m * suc n)) (a * e + b * c) (a * c + b * e) (rw (p, q) (omega arith))
is_mul (negsuc m) (pos n) a b c e p q = is-neg (pos (suc m * n)) (a * e + b * c) (a * c + b * e) (rw (p, q) (omega arith))
is_mul (negsuc m) (negsuc n) a b c e p q = rw (p, q) (omega arith)

infixl 60 ◌⊖◌
pub ◌⊖◌ : ℕ → ℕ → ℤ
◌⊖◌ a b = sub_ℕ a b

pub is-⊖ : (a b : ℕ) → Is (a ⊖ b) a b
unfolding ◌⊖◌
is-⊖ a b = is-sub a b

pub of_is : (x : ℤ) (a b : ℕ) → Is x a b → x ≡ a ⊖ b
of_is x a b h = is-unique x (a ⊖ b) a b h (is-⊖ a b)

pub ⊖-add : (a b c e : ℕ) → (a ⊖ b) +ℤ (c ⊖ e) ≡ (a + c) ⊖ (b + e)
⊖-add a b c e = of_is _ (a + c) (b + e) (is-add (a ⊖ b) (c ⊖ e) a b c e (is-⊖ a b) (is-⊖ c e))

pub ⊖-mul : (a b c e : ℕ) → (a ⊖ b) *ℤ (c ⊖ e) ≡ (a * c + b * e) ⊖ (a * e + b * c)
⊖-mul a b c e = of_is _ (a * c + b * e) (a * e + b * c) (is_mul (a ⊖ b) (c ⊖ e) a b c e (is-⊖ a b) (is-⊖ c e))

pub ⊖-neg : (a b : ℕ) → neg_ℤ (a ⊖ b) ≡ b ⊖ a
⊖-neg a b = of_is _ b a (is-neg (a ⊖ b) a b (is-⊖ a b))

move : (z : ℤ) (a b c e : ℕ) → a + e ≡ c + b → Is z c e → Is z a b
move (pos n) a b c e h k = omega arith
move (negsuc n) a b c e h k = omega arith

pub ⊖-eq : (a b c e : ℕ) → a + e ≡ c + b → a ⊖ b ≡ c ⊖ e
⊖-eq a b c e h = sym (of_is (c ⊖ e) a b (move (c ⊖ e) a b c e h (is-⊖ c e)))

pub is_le : (x y : ℤ) (a b c e : ℕ) → Is x a b → Is y c e → a + e ≤ c + b → x ≤ℤ y
is_le (pos m) (pos n) a b c e p q h = le_z_yes (le→leb m n (omega arith))
is_le (pos m) (negsuc n) a b c e p q h = absurd (omega arith)
is_le (negsuc m) (pos n) a b c e p q h = le_z_yes tt
is_le (negsuc m) (negsuc n) a b c e p q h = le_z_yes (le→leb n m (omega arith))

pub le_is : (x y : ℤ) (a b c e : ℕ) → Is x a b → Is y c e → x ≤ℤ y → a + e ≤ c + b
le_is (pos m) (pos n) a b c e p q h = omega (arith, leb→le m n h.le)
le_is (pos m) (negsuc n) a b c e p q h = absurd h.le
le_is (negsuc m) (pos n) a b c e p q h = omega arith
le_is (negsuc m) (negsuc n) a b c e p q h = omega (arith, leb→le n m h.le)

pub ⊖-le : (a b c e : ℕ) → a + e ≤ c + b → (a ⊖ b) ≤ℤ (c ⊖ e)
⊖-le a b c e h = is_le (a ⊖ b) (c ⊖ e) a b c e (is-⊖ a b) (is-⊖ c e) h

pub le-⊖ : (a b c e : ℕ) → (a ⊖ b) ≤ℤ (c ⊖ e) → a + e ≤ c + b
le-⊖ a b c e h = le_is (a ⊖ b) (c ⊖ e) a b c e (is-⊖ a b) (is-⊖ c e) h

pub pos-⊖ : (n : ℕ) → pos n ≡ n ⊖ 0
pos-⊖ n = of_is (pos n) n 0 (omega arith)

pub negsuc-⊖ : (n : ℕ) → negsuc n ≡ 0 ⊖ suc n
negsuc-⊖ n = of_is (negsuc n) 0 (suc n) (omega arith)

pub split {ℓ} : (Q : ℤ → Type ℓ) → ((a b : ℕ) → Q (a ⊖ b)) → (z : ℤ) → Q z
split Q f (pos n) = subst Q (sym (pos-⊖ n)) (f n 0)
split Q f (negsuc n) = subst Q (sym (negsuc-⊖ n)) (f 0 (suc n))

-- ---- the strict order, and equality

is_lt : (x y : ℤ) (a b c e : ℕ) → Is x a b → Is y c e → a + e < c + b → x <ℤ y
is_lt (pos m) (pos n) a b c e p q h = lt_z_yes (lt→ltb m n (omega arith))
is_lt (pos m) (negsuc n) a b c e p q h = absurd (omega arith)
is_lt (negsuc m) (pos n) a b c e p q h = lt_z_yes tt
is_lt (negsuc m) (negsuc n) a b c e p q h = lt_z_yes (lt→ltb n m (omega arith))

lt-is : (x y : ℤ) (a b c e : ℕ) → Is x a b → Is y c e → x <ℤ y → a + e < c + b
lt-is (pos m) (pos n) a b c e p q h = omega (arith, ltb→lt m n h.lt)
lt-is (pos m) (negsuc n) a b c e p q h = absurd h.lt
lt-is (negsuc m) (pos n) a b c e p q h = omega arith
lt-is (negsuc m) (negsuc n) a b c e p q h = omega (arith, ltb→lt n m h.lt)

eq_is : (z : ℤ) (a b c e : ℕ) → Is z a b → Is z c e → a + e ≡ c + b
eq_is (pos n) a b c e p q = omega arith
eq_is (negsuc n) a b c e p q = omega arith

-- ---- the three relations at differences, as statements of ℕ: what `simp zed` rewrites by

pub ⊖≤⊖ : (a b c e : ℕ) → ((a ⊖ b) ≤ℤ (c ⊖ e)) ↔ (a + e ≤ c + b)
⊖≤⊖ a b c e = (le-⊖ a b c e, ⊖-le a b c e)

pub ⊖<⊖ : (a b c e : ℕ) → ((a ⊖ b) <ℤ (c ⊖ e)) ↔ (a + e < c + b)
⊖<⊖ a b c e = (lt-is (a ⊖ b) (c ⊖ e) a b c e (is-⊖ a b) (is-⊖ c e), is_lt (a ⊖ b) (c ⊖ e) a b c e (is-⊖ a b) (is-⊖ c e))

pub ⊖≡⊖ : (a b c e : ℕ) → (a ⊖ b ≡ c ⊖ e) ↔ (a + e ≡ c + b)
⊖≡⊖ a b c e = (λ h. eq_is (c ⊖ e) a b c e (subst (λ z. Is z a b) h (is-⊖ a b)) (is-⊖ c e), ⊖-eq a b c e)

-- `neg_ℤ (pos n)` is stuck on n, so that no rule for `pos n` fits inside it
pub neg-pos-⊖ : (n : ℕ) → neg_ℤ (pos n) ≡ 0 ⊖ n
neg-pos-⊖ n = of_is (neg_ℤ (pos n)) 0 n (is-neg (pos n) n 0 (omega arith))

pub nat_abs-⊖ : (a b : ℕ) → nat_abs (a ⊖ b) ≡ (a - b) + (b - a)
nat_abs-⊖ a b = go (a ⊖ b) (is-⊖ a b)
  where
    go : (z : ℤ) → Is z a b → nat_abs z ≡ (a - b) + (b - a)
    go (pos n) h = omega arith
    go (negsuc n) h = omega arith

-- the lesser and the greater of two numbers
unfoldable pub minℤ : ℤ → ℤ → ℤ
minℤ x y = cond (lt_z y x) y x

unfoldable pub maxℤ : ℤ → ℤ → ℤ
maxℤ x y = cond (lt_z y x) x y

cond_ind : (b : Bool) (Q : ℤ → Type 0) (x y : ℤ) → (T b → Q x) → (T (not b) → Q y) → Q (cond b x y)
cond_ind true Q x y f g = f tt
cond_ind false Q x y f g = g tt

pub ⊖-min : (a b c e : ℕ) → minℤ (a ⊖ b) (c ⊖ e) ≡ min (a + e) (c + b) ⊖ (b + e)
unfolding minℤ
⊖-min a b c e = cond_ind (lt_z (c ⊖ e) (a ⊖ b)) (λ z. z ≡ min (a + e) (c + b) ⊖ (b + e)) _ _
    (λ t. ⊖-eq c e _ _ (omega (arith, (⊖<⊖ c e a b).0 (lt_z_yes t)))) (λ t. ⊖-eq a b _ _ (omega (arith, le-⊖ a b c e (lt_z_no t))))

pub ⊖-max : (a b c e : ℕ) → maxℤ (a ⊖ b) (c ⊖ e) ≡ max (a + e) (c + b) ⊖ (b + e)
unfolding maxℤ
⊖-max a b c e = cond_ind (lt_z (c ⊖ e) (a ⊖ b)) (λ z. z ≡ max (a + e) (c + b) ⊖ (b + e)) _ _
    (λ t. ⊖-eq a b _ _ (omega (arith, (⊖<⊖ c e a b).0 (lt_z_yes t)))) (λ t. ⊖-eq c e _ _ (omega (arith, le-⊖ a b c e (lt_z_no t))))

pub ruleset zed = (⊖-add, ⊖-mul, ⊖-neg, pos-⊖, negsuc-⊖, neg-pos-⊖, nat_abs-⊖, ⊖-min, ⊖-max, ⊖≤⊖, ⊖<⊖, ⊖≡⊖)

-- ---- `split` for several variables: `splitK _ (λ a b .. . simp zed (omega arith))`

pub split2 {ℓ} : (Q : ℤ → ℤ → Type ℓ) → ((a b c e : ℕ) → Q (a ⊖ b) (c ⊖ e)) → (x y : ℤ) → Q x y
split2 Q f = split (λ x. (y : ℤ) → Q x y) (λ a b. split (Q (a ⊖ b)) (f a b))

pub split3 {ℓ} : (Q : ℤ → ℤ → ℤ → Type ℓ) → ((a b c e f g : ℕ) → Q (a ⊖ b) (c ⊖ e) (f ⊖ g)) → (x y z : ℤ) → Q x y z
split3 Q f = split (λ x. (y z : ℤ) → Q x y z) (λ a b. split2 (Q (a ⊖ b)) (f a b))

pub split4 {ℓ} : (Q : ℤ → ℤ → ℤ → ℤ → Type ℓ) → ((a b c e f g h i : ℕ) → Q (a ⊖ b) (c ⊖ e) (f ⊖ g) (h ⊖ i)) → (x y z w : ℤ) → Q x y z w
split4 Q f = split2 (λ x y. (z w : ℤ) → Q x y z w) (λ a b c e. split2 (Q (a ⊖ b) (c ⊖ e)) (f a b c e))

-- ---- the order's laws, and products with a natural number

pub ≤ℤ-trans : {x y z : ℤ} → x ≤ℤ y → y ≤ℤ z → x ≤ℤ z
≤ℤ-trans {x} {y} {z} = go x y z
  where
    go : (x y z : ℤ) → x ≤ℤ y → y ≤ℤ z → x ≤ℤ z
    go = split3 _ (λ a b c e f g. simp zed (omega arith))

pub ≤ℤ-reflexive : {x y : ℤ} → x ≡ y → x ≤ℤ y
≤ℤ-reflexive {x} {y} = go x y
  where
    go : (x y : ℤ) → x ≡ y → x ≤ℤ y
    go = split2 _ (λ a b c e. simp zed (omega arith))

pub +ℤ-mono : {x y z w : ℤ} → x ≤ℤ y → z ≤ℤ w → (x +ℤ z) ≤ℤ (y +ℤ w)
+ℤ-mono {x} {y} {z} {w} = go x y z w
  where
    go : (x y z w : ℤ) → x ≤ℤ y → z ≤ℤ w → (x +ℤ z) ≤ℤ (y +ℤ w)
    go = split4 _ (λ a b c e f g h i. simp zed (omega arith))

-- an order is the sign of a difference
pub ≤ℤ-diff : (x y : ℤ) → y ≤ℤ x → pos 0 ≤ℤ (x -ℤ y)
≤ℤ-diff = split2 _ (λ a b c e. simp zed (omega arith))

pub diff-≤ℤ : (x y : ℤ) → pos 0 ≤ℤ (x -ℤ y) → y ≤ℤ x
diff-≤ℤ = split2 _ (λ a b c e. simp zed (omega arith))

-- one of the two holds
pub ≤ℤ-or-< : (x y : ℤ) → (x ≤ℤ y) ⊎ (y <ℤ x)
≤ℤ-or-< = split2 _ (λ a b c e. go a b c e (dec_lt (c + b) (a + e)))
  where
    go : (a b c e : ℕ) → Dec (c + b < a + e) → ((a ⊖ b) ≤ℤ (c ⊖ e)) ⊎ ((c ⊖ e) <ℤ (a ⊖ b))
    go a b c e (yes h) = inr (simp zed (omega arith))
    go a b c e (no h) = inl (simp zed (omega arith))

-- times a natural number: an order stays, and with one that is not 0 it comes back
pub times-≤ : (n : ℕ) (x y : ℤ) → x ≤ℤ y → (x *ℤ pos n) ≤ℤ (y *ℤ pos n)
times-≤ n = split2 _ (λ a b c e. simp zed (λ h. omega (arith, mul-le-mul_right n h)))

pub times-≤-back : (n : ℕ) (x y : ℤ) → 1 ≤ n → (x *ℤ pos n) ≤ℤ (y *ℤ pos n) → x ≤ℤ y
times-≤-back n = split2 _ (λ a b c e. simp zed (λ p h. le_of_mul-le-mul_right {k = n} (omega arith) p))

pub ≤ℤ-antisym : {x y : ℤ} → x ≤ℤ y → y ≤ℤ x → x ≡ y
≤ℤ-antisym {x} {y} = go x y
  where
    go : (x y : ℤ) → x ≤ℤ y → y ≤ℤ x → x ≡ y
    go = split2 _ (λ a b c e. simp zed (omega arith))

pub times-≡-back : (n : ℕ) (x y : ℤ) → 1 ≤ n → x *ℤ pos n ≡ y *ℤ pos n → x ≡ y
times-≡-back n x y p h = ≤ℤ-antisym (times-≤-back n x y p (≤ℤ-reflexive h)) (times-≤-back n y x p (≤ℤ-reflexive (sym h)))

-- the product of two numbers that are not negative is not negative
pub *ℤ-nonneg : (x y : ℤ) → pos 0 ≤ℤ x → pos 0 ≤ℤ y → pos 0 ≤ℤ (x *ℤ y)
*ℤ-nonneg (pos m) (pos n) h k = le_z_yes (le→leb 0 (m * n) (omega arith))
*ℤ-nonneg (pos m) (negsuc n) h k = absurd k.le
*ℤ-nonneg (negsuc m) y h k = absurd h.le

-- ---- the absolute value

pub nat_abs-neg : (z : ℤ) → nat_abs (neg_ℤ z) ≡ nat_abs z
nat_abs-neg (pos zero) = refl
nat_abs-neg (pos (suc n)) = refl
nat_abs-neg (negsuc n) = refl

pub nat_abs-times : (z : ℤ) (n : ℕ) → nat_abs (z *ℤ pos n) ≡ nat_abs z * n
nat_abs-times (pos m) n = refl
nat_abs-times (negsuc m) n = nat_abs-neg (pos (suc m * n))

pub nat_abs_mul : (x y : ℤ) → nat_abs (x *ℤ y) ≡ nat_abs x * nat_abs y
nat_abs_mul x (pos n) = nat_abs-times x n
nat_abs_mul (pos m) (negsuc n) = nat_abs-neg (pos (m * suc n))
nat_abs_mul (negsuc m) (negsuc n) = refl
