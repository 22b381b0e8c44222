-- A fraction in lowest terms is the only one of its value.
-- gcd-scaled: a common factor comes out of a greatest common divisor; gauss: what divides a product and is prime to one factor divides the other.
use mathlib.Core.Path.{◌≡◌, sym, ap, ap₂, ◌∙◌}
use Prim.Native.Nat.{ℕ, zero, suc, ◌+◌, ◌*◌, ◌/◌, ◌%◌, ◌≤◌, ◌<◌, max}
use native.Mathlib.Omega.{arith}
use native.Mathlib.Nat.{div-add-mod, mod-lt, mod-eq_of_lt, mul_comm, mul-le-mul_right, add-mul-mod_self_left}
use lib.IntN.{ℤ, pos, nat_abs, ◌*ℤ◌}
use Rattle.arith.proofs.Divisors.{IsGcd, divides-self, gcd-step, gcd-end, gcd-unique}
use Rattle.arith.proofs.Integers.{nat_abs-times, times-≡-back}
use Rattle.arith.specs.Fractions.{frac, ◌≈ᶠ◌}
use Rattle.arith.specs.Gcd.{Divides, gcd_in, gcd_of}
use Rattle.arith.specs.declared.Fraction.{Fraction}

mod-scaled : (a b c : ℕ) → 0 < b → 0 < c → (a * c) % (b * c) ≡ (a % b) * c
mod-scaled a b c zb zc =
    let parts : a * c ≡ (a % b) * c + (b * c) * (a / b) = omega (arith, ap (λ (t : ℕ). t * c) (div-add-mod a b)) in
    let low : (a % b) * c < b * c = omega (arith, mul-le-mul_right c (mod-lt a {m = b} zb)) in
    ap (λ (t : ℕ). t % (b * c)) parts ∙ add-mul-mod_self_left ((a % b) * c) (b * c) (a / b) ∙ mod-eq_of_lt low

step : (a b c g : ℕ) → 0 < b → 0 < c → IsGcd (b * c) ((a % b) * c) g → IsGcd (a * c) (b * c) g
step a b c g zb zc h = gcd-step (a * c) (b * c) g (rw (mod-scaled a b c zb zc) h)

end : (a b c : ℕ) → b ≡ 0 → IsGcd (a * c) (b * c) (a * c)
end a b c e = let z : b * c ≡ 0 = rw e (omega arith) in rw z (gcd-end (a * c))

scaled-in : (turns a b c : ℕ) → 0 < c → b ≤ turns → IsGcd (a * c) (b * c) (gcd_in turns a b * c)
unfolding gcd_in
scaled-in zero a b c z h = end a b c (omega arith)
scaled-in (suc turns) a zero c z h = end a 0 c (omega arith)
scaled-in (suc turns) a (suc b) c z h =
    step a (suc b) c _ (omega arith) z (scaled-in turns (suc b) (a % suc b) c z (omega (arith, mod-lt a {m = suc b} (omega arith))))

pub gcd-scaled : (a b c : ℕ) → 0 < c → IsGcd (a * c) (b * c) (gcd_of a b * c)
unfolding gcd_of
gcd-scaled a b c z = scaled-in b a b c z (omega arith)

pub gauss : (a b c : ℕ) → 0 < c → gcd_of a b ≡ 1 → Divides b (a * c) → Divides b c
gauss a b c z e d = one ((gcd-scaled a b c z).most b d (c, mul_comm b c))
  where
    one : Divides b (gcd_of a b * c) → Divides b c
    one (k, f) = (k, omega (arith, f, ap (λ (t : ℕ). t * c) e))

pub same-lowest : (p r : ℤ) (q s : ℕ) → 1 ≤ q → 1 ≤ s → gcd_of (nat_abs p) q ≡ 1 → gcd_of (nat_abs r) s ≡ 1 → p *ℤ pos s ≡ r *ℤ pos q → (p ≡ r) × (q ≡ s)
same-lowest p r q s q≥1 s≥1 c e h = (times-≡-back q p r q≥1 (ap (λ (t : ℕ). p *ℤ pos t) q≡s ∙ h), q≡s)
  where
    sizes : nat_abs p * s ≡ nat_abs r * q
    sizes = sym (nat_abs-times p s) ∙ ap nat_abs h ∙ nat_abs-times r q

    q∣s : Divides q s
    q∣s = gauss (nat_abs p) q s s≥1 c (nat_abs r, sizes)

    s∣q : Divides s q
    s∣q = gauss (nat_abs r) s q q≥1 e (nat_abs p, sym sizes)

    q≡s : q ≡ s
    q≡s =
        gcd-unique q s q s (record { left = divides-self q; right = q∣s; most = λ e g h. g }) (record { left = s∣q; right = divides-self s; most = λ e g h. h })

pub same-fraction : (x y : Fraction) → 1 ≤ x.q → 1 ≤ y.q → gcd_of (nat_abs x.p) x.q ≡ 1 → gcd_of (nat_abs y.p) y.q ≡ 1
    → frac x.p x.q ≈ᶠ frac y.p y.q → x ≡ y
unfolding ◌≈ᶠ◌
same-fraction x y h k c e f = ap₂ {C = Fraction} (λ p q. record { p = p; q = q }) parts.0 parts.1
  where
    own : (q : ℕ) → 1 ≤ q → max 1 q ≡ q
    own q h = omega arith

    parts : (x.p ≡ y.p) × (x.q ≡ y.q)
    parts =
        same-lowest x.p y.p x.q y.q h k c e (ap (λ (t : ℕ). x.p *ℤ pos t) (sym (own y.q k)) ∙ f ∙ ap (λ (t : ℕ). y.p *ℤ pos t) (own x.q h))
