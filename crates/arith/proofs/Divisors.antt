-- Common divisors and lowest terms.
--   IsGcd a b g     g divides both, and each common divisor divides g
-- gcd-is, gcd-unique: gcd_of is that number, and no other is.
-- lowest-…: lowest p q has the value p / q, a divisor from 1 on and no common divisor above 1.
use mathlib.Core.Path.{◌≡◌, refl, ap, ◌∙◌}
use lib.IntN.{ℤ, pos, negsuc, neg_ℤ, nat_abs, ◌*ℤ◌}
use Rattle.arith.specs.Gcd.{Divides, gcd_in, gcd_of, signed, lowest}
use Rattle.arith.proofs.Integers.{split, zed, nat_abs-neg}
use Prim.Native.Nat.{ℕ, zero, suc, ◌+◌, ◌*◌, ◌-◌, ◌/◌, ◌%◌, ◌≤◌, ◌<◌}
use native.Mathlib.Omega.{arith}
use native.Mathlib.Nat.{div-add-mod, mod-lt, mul-sub, mul_comm, eq_of_mul-eq-mul_right, mul-div_cancel}

-- g is the greatest common divisor of a and b: it divides both, and each common divisor divides it
pub record IsGcd (a b g : ℕ) : Type 0 where
  pub left : Divides g a
  pub right : Divides g b
  pub most : (e : ℕ) → Divides e a → Divides e b → Divides e g

pub divides-zero : (d : ℕ) → Divides d 0
divides-zero d = (0, omega arith)

pub divides-self : (d : ℕ) → Divides d d
divides-self d = (1, omega arith)

-- a divisor of y and of the remainder of x by y divides x
of-rem : (x y g : ℕ) → Divides g y → Divides g (x % y) → Divides g x
of-rem x y g (k, e) (l, f) = ((x / y) * k + l, omega (arith, div-add-mod x y, ap (λ t. t * (x / y)) e))

-- a divisor of x and of y divides the remainder
to-rem : (x y g : ℕ) → Divides g x → Divides g y → Divides g (x % y)
to-rem x y g (k, e) (l, f) = (k - (x / y) * l, omega (arith, div-add-mod x y, ap (λ t. t * (x / y)) f, mul-sub g k ((x / y) * l), mul_comm g (k - (x / y) * l)))

pub gcd-step : (x y g : ℕ) → IsGcd y (x % y) g → IsGcd x y g
gcd-step x y g h =
    record {
      left = of-rem x y g h.left h.right;
      right = h.left;
      most = λ e p q. h.most e q (to-rem x y e p q);
    }

pub gcd-end : (x : ℕ) → IsGcd x 0 x
gcd-end x = record { left = divides-self x; right = divides-zero x; most = λ e p q. p }

-- both divided by their greatest common divisor have none above 1
pub coprime : (a b g : ℕ) → 0 < g → IsGcd (a * g) (b * g) g → IsGcd a b 1
coprime a b g z h =
    record {
      left = (a, omega arith);
      right = (b, omega arith);
      most = λ e (k, p) (l, q). one e (h.most (e * g) (k, omega (arith, ap (λ t. t * g) p)) (l, omega (arith, ap (λ t. t * g) q)));
    }
  where
    one : (e : ℕ) → Divides (e * g) g → Divides e 1
    one e (m, r) = (m, eq_of_mul-eq-mul_right g z 1 (m * e) (omega arith))

pub divisor-pos : (g q : ℕ) → Divides g q → 0 < q → 0 < g
divisor-pos zero q (k, e) z = omega arith
divisor-pos (suc g) q d z = omega arith

pub reduced : (p q g : ℕ) → 0 < q → IsGcd p q g → ((p / g) * q ≡ p * (q / g)) × ((0 < q / g) × IsGcd (p / g) (q / g) 1)
reduced p q g z h = go h.left h.right
  where
    zg : 0 < g
    zg = divisor-pos g q h.right z

    go : Divides g p → Divides g q → ((p / g) * q ≡ p * (q / g)) × ((0 < q / g) × IsGcd (p / g) (q / g) 1)
    go (k, e) (l, f) =
        let a : p / g ≡ k = ap (λ t. t / g) e ∙ mul-div_cancel k zg in
        let b : q / g ≡ l = ap (λ t. t / g) f ∙ mul-div_cancel l zg in
        rw (a, b) (
          omega (arith, ap (λ t. k * t) f, ap (λ t. t * l) e),
          (
            divisor-pos l q (g, f ∙ mul_comm l g) z,
            coprime k l g zg (rw (← e, ← f) h),
          ),
        )

gcd-in : (rounds a b : ℕ) → b ≤ rounds → IsGcd a b (gcd_in rounds a b)
unfolding gcd_in
gcd-in zero a b h = let e : b ≡ 0 = omega arith in rw e (gcd-end a)
gcd-in (suc rounds) a zero h = gcd-end a
gcd-in (suc rounds) a (suc b) h = gcd-step a (suc b) _ (gcd-in rounds (suc b) (a % suc b) (omega (arith, mod-lt a {m = suc b} (omega arith))))

pub gcd-is : (a b : ℕ) → IsGcd a b (gcd_of a b)
unfolding gcd_of
gcd-is a b = gcd-in b a b (omega arith)

-- two numbers that divide each other are equal
both_ways : (g h : ℕ) → Divides g h → Divides h g → g ≡ h
both_ways zero h (k, e) (l, f) = omega arith
both_ways (suc g) h (zero, e) (l, f) = omega (arith, ap (λ t. l * t) e)
both_ways (suc g) h (suc k, e) (zero, f) = omega arith
both_ways (suc g) h (suc k, e) (suc l, f) = go k l
  where
    go : ℕ → ℕ → suc g ≡ h
    go k l = omega (arith, e, f)

pub gcd-unique : (a b g h : ℕ) → IsGcd a b g → IsGcd a b h → g ≡ h
gcd-unique a b g h x y = both_ways g h (y.most g x.left x.right) (x.most h y.left y.right)

-- ---- lowest terms

signed-abs : (z : ℤ) (n : ℕ) → nat_abs (signed z n) ≡ n
unfolding signed
signed-abs (pos k) n = refl
signed-abs (negsuc k) n = nat_abs-neg (pos n)

signed-times : (z : ℤ) (n m k : ℕ) → n * m ≡ nat_abs z * k → signed z n *ℤ pos m ≡ z *ℤ pos k
unfolding signed
signed-times (pos l) n m k h = ap pos h
signed-times (negsuc l) n m k h = go (negsuc l) refl
  where
    go : (z : ℤ) → z ≡ negsuc l → neg_ℤ (pos n) *ℤ pos m ≡ z *ℤ pos k
    go = split _ (λ a b. simp zed (λ e. omega (arith, ap (λ (t : ℕ). t * k) e)))

module _ (p : ℤ) (q : ℕ) (q≥1 : 0 < q) where
  pub lowest-den : 0 < (lowest p q).q
  unfolding lowest
  lowest-den = (reduced (nat_abs p) q _ q≥1 (gcd-is (nat_abs p) q)).1.0

  pub lowest-value : (lowest p q).p *ℤ pos q ≡ p *ℤ pos (lowest p q).q
  unfolding lowest
  lowest-value = signed-times p _ q _ (reduced (nat_abs p) q _ q≥1 (gcd-is (nat_abs p) q)).0

  pub lowest-coprime : gcd_of (nat_abs (lowest p q).p) (lowest p q).q ≡ 1
  unfolding lowest
  lowest-coprime = rw (signed-abs p (nat_abs p / gcd_of (nat_abs p) q)) (gcd-unique _ _ _ 1 (gcd-is _ _) (reduced (nat_abs p) q _ q≥1 (gcd-is (nat_abs p) q)).1.1)
