-- What an answer shows of its amounts.
-- default: at a place of a list of amounts every default gives the same.
-- own-some: an item's own divisor is not 0.  shown-few: nor is it above 1,000, if its figures are in range.
-- over-lowest: a value in lowest terms is what it was.
-- same_over: amounts over one divisor are the same fraction only if they are the same.
-- whole-iff: an amount is whole exactly if its divisor leaves no rest.
--   parts_of d x     the amount x in d-th parts, rounded down;  Parted d x: it is just that many, and as near
-- parted: a whole amount is so over every divisor, any other over its own.
use mathlib.Core.Path.{◌≡◌, refl, sym, ap, ap₂, ◌∙◌}
use mathlib.Core.List.{List, [], ◌∷◌}
use mathlib.Core.Logic.{◌↔◌, ◌⊎◌, inl, inr}
use Prim.Native.Nat.{ℕ, zero, suc, ◌*◌, ◌/◌, ◌%◌, ◌≤◌, ◌<◌, max}
use native.Mathlib.Nat.{div-add-mod, add-mul-mod_self_left, mod-eq_of_lt, mul-le-mul_right, le_of_mul-le-mul_right}
use native.Mathlib.Omega.{arith}
use lib.IntN.{ℤ, pos, negsuc, neg_ℤ, nat_abs, ◌+ℤ◌, ◌*ℤ◌}
use lib.Signed.{◌≤ℤ◌, ◌<ℤ◌}
use lib.ListN.{length, get_or}
use Rattle.arith.specs.Division.{floor_div}
use Rattle.arith.specs.Fractions.{frac, ◌≈ᶠ◌}
use Rattle.arith.specs.Gcd.{lowest}
use Rattle.arith.specs.declared.Fraction.{Fraction}
use Rattle.arith.proofs.Divisors.{lowest-den, lowest-value}
use Rattle.arith.proofs.Fractions.{Over}
use Rattle.arith.proofs.Rounding.{floor-is, floor-unique}
use Rattle.arith.proofs.Integers.{split, zed, nat_abs-times, times-≡-back}
use Rattle.knapsack.specs.Meaning.{instance_of, divisor_by, own_divisor, WholeAmount, Shown}
use Rattle.knapsack.specs.Ranges.{item_at}
use Rattle.knapsack.specs.declared.Item.{Item}
use Rattle.knapsack.specs.declared.Mark.{Mark}
use Rattle.knapsack.specs.declared.Mark.TheVariants.{Integer, Continuous}
use Rattle.knapsack.specs.declared.Problem.{Problem}
use Rattle.model.specs.Records.{FiguresInRange}

pub default : (l : List Fraction) (k : ℕ) (d e : Fraction) → k < length l → get_or l k d ≡ get_or l k e
default [] k d e h = absurd (omega arith)
default (x ∷ l) zero d e h = refl
default (x ∷ l) (suc k) d e h = default l k d e (omega arith)

-- ---- own divisors

by-some : (m : Mark) (a : ℤ) → 1 ≤ divisor_by m a
by-some Integer a = omega arith
by-some Continuous a = omega arith

pub own-some : (i : Item) → 1 ≤ own_divisor i
own-some i = by-some i.mark i.weight

by-few : (m : Mark) (a : ℤ) → nat_abs a ≤ 1000 → divisor_by m a ≤ 1000
by-few Integer a h = omega arith
by-few Continuous a h = omega (arith, h)

pub own-few : (i : Item) → nat_abs i.weight ≤ 1000 → own_divisor i ≤ 1000
own-few i h = by-few i.mark i.weight h

pub shown-few : (p : Problem) (x : ℕ → Fraction) → FiguresInRange p → Shown (instance_of p) x → (k : ℕ) → k < p.count → (x k).q ≤ 1000
shown-few p x range shown k l = rw (shown.divisor k l) (own-few (item_at p k) (range.items-in k l).weight-in)

-- ---- values

pub over-lowest : (v : ℤ) (d : ℕ) → 1 ≤ d → Over d (frac (lowest v d).p (lowest v d).q) v
over-lowest v d l =
    let b : max 1 (lowest v d).q ≡ (lowest v d).q = omega (arith, lowest-den v d l) in
    record { eq = rw b (lowest-value v d l) }

-- ---- one divisor

pub same_over : (x y : Fraction) (q : ℕ) → 1 ≤ q → x.q ≡ q → y.q ≡ q → frac x.p x.q ≈ᶠ frac y.p y.q → x ≡ y
unfolding ◌≈ᶠ◌
same_over x y q some a b h = made x.p y.p x.q y.q (times-≡-back q x.p y.p some
    (ap (λ (d : ℕ). x.p *ℤ pos d) (omega (arith, a, b)) ∙ h ∙ ap (λ (d : ℕ). y.p *ℤ pos d) (omega (arith, a, b)))) (a ∙ sym b)
  where
    made : (p p' : ℤ) (d d' : ℕ) → p ≡ p' → d ≡ d' → ◌≡◌ {A = Fraction} (record { p = p; q = d }) (record { p = p'; q = d' })
    made p p' d d' i j = cc

-- ---- whole amounts

no-rest : (n q : ℕ) → n % q ≡ 0 → n ≡ (n / q) * q
no-rest n q h = omega (arith, div-add-mod n q, h)

without-rest : (p : ℤ) (q : ℕ) → nat_abs p % q ≡ 0 → (n : ℤ) × (p ≡ n *ℤ pos q)
without-rest (pos n) q h = (pos (n / q), ap pos (no-rest n q h))
without-rest (negsuc n) q h = (neg_ℤ (pos (suc n / q)), below n (suc n / q) (no-rest (suc n) q h))
  where
    below : (n m : ℕ) → suc n ≡ m * q → negsuc n ≡ neg_ℤ (pos m) *ℤ pos q
    below n m = simp zed (λ h. omega (arith, h))

leaves_none : (n q : ℕ) → 1 ≤ q → (n * q) % q ≡ 0
leaves_none n q h = ap (λ (t : ℕ). t % q) (omega arith) ∙ add-mul-mod_self_left 0 q n ∙ mod-eq_of_lt h

pub whole-iff : (x : Fraction) → 1 ≤ x.q → (nat_abs x.p % x.q ≡ 0) ↔ WholeAmount x
whole-iff x h = (without-rest x.p x.q, λ w. ap (λ (t : ℕ). t % x.q) (ap nat_abs w.1 ∙ nat_abs-times w.0 x.q) ∙ leaves_none (nat_abs w.0) x.q h)

-- ---- amounts over another divisor

exact : (n : ℤ) (q : ℕ) → 1 ≤ q → floor_div (n *ℤ pos q) (pos q) ≡ n
exact n zero h = absurd (omega arith)
exact n (suc q) h = floor-unique (n *ℤ pos (suc q)) (pos (suc q)) _ n apart (floor-is (n *ℤ pos (suc q)) (pos (suc q)) apart)
    (record { positive = λ p. go n q; negative = λ p. absurd (below q p) })
  where
    below : (q : ℕ) → pos (suc q) <ℤ pos 0 → ⊥
    below q = simp zed (omega arith)

    apart : pos (suc q) ≡ pos 0 → ⊥
    apart = simp zed (omega arith)

    go : (n : ℤ) (q : ℕ) → ((pos (suc q) *ℤ n) ≤ℤ (n *ℤ pos (suc q))) × ((n *ℤ pos (suc q)) <ℤ (pos (suc q) *ℤ n +ℤ pos (suc q)))
    go = split _ (λ a b q. simp zed (omega arith, omega arith))

abbrev pub parts_of : ℕ → Fraction → ℤ
parts_of d x = floor_div (x.p *ℤ pos d) (pos x.q)

pub record Parted (d : ℕ) (x : Fraction) : Type 0 where
  pub over : Over d (frac x.p x.q) (parts_of d x)
  pub near : (c : ℕ) → nat_abs x.p ≤ c * x.q → nat_abs (parts_of d x) ≤ c * d

-- n / d is the amount
parted-as : (d : ℕ) (x : Fraction) → 1 ≤ x.q → (n : ℤ) → x.p *ℤ pos d ≡ n *ℤ pos x.q → Parted d x
parted-as d x h n e = record {
  over = record { eq = e ∙ ap₂ (λ (z : ℤ) (t : ℕ). z *ℤ pos t) (sym is-n) own };
  near = λ c l. rw is-n (le_of_mul-le-mul_right {k = x.q} (omega (arith, sizes, mul-le-mul_right d l)) h);
}
  where
    own : x.q ≡ max 1 x.q
    own = omega arith

    is-n : parts_of d x ≡ n
    is-n = ap (λ z. floor_div z (pos x.q)) e ∙ exact n x.q h

    sizes : nat_abs x.p * d ≡ nat_abs n * x.q
    sizes = sym (nat_abs-times x.p d) ∙ ap nat_abs e ∙ nat_abs-times n x.q

pub parted : (d : ℕ) (x : Fraction) → 1 ≤ x.q → WholeAmount x ⊎ (x.q ≡ d) → Parted d x
parted d x h (inl (n, e)) = parted-as d x h (n *ℤ pos d) (ap (λ z. z *ℤ pos d) e ∙ turn n x.q)
  where
    turn : (n : ℤ) (q : ℕ) → (n *ℤ pos q) *ℤ pos d ≡ (n *ℤ pos d) *ℤ pos q
    turn = split _ (λ a b q. simp zed (omega arith))
parted d x h (inr e) = parted-as d x h x.p (ap (λ (t : ℕ). x.p *ℤ pos t) (sym e))
