-- How large the numbers get once nothing is refused: every product and sum of the check fits 64 bits.
-- product_small: an amount times a divisor; numerator-within: over the common divisor; term-within, total-within: what is summed, and the sums.
use mathlib.Core.Path.{◌≡◌}
use Prim.Native.Nat.{ℕ, zero, suc, ◌*◌, ◌≤◌}
use native.Mathlib.Nat.{mul-le-mul, mul-le-mul_right}
use native.Mathlib.Omega.{arith}
use lib.IntN.{ℤ, pos, neg_ℤ, nat_abs, ◌*ℤ◌}
use lib.Signed.{◌≤ℤ◌, ◌<ℤ◌}
use Rattle.arith.specs.Within.{Within}
use Rattle.arith.specs.declared.Fraction.{Fraction}
use Rattle.arith.specs.Division.{floor_div}
use Rattle.arith.proofs.Integers.{split, zed, ≤ℤ-trans, times-≤-back}
use Rattle.arith.proofs.Rounding.{floor-is, floor-most}
use Rattle.arith.proofs.Parts.{abs-within, within-add, within-mul, within_more}
use Rattle.knapsack.specs.declared.Item.{Item}
use Rattle.knapsack.specs.declared.Problem.{Problem}
use Rattle.knapsack.specs.Ranges.{item_at}
use Rattle.model.specs.Records.{ItemFigures}
use Rattle.feasibility.specs.declared.Candidate.{Candidate}
use Rattle.feasibility.specs.declared.Figure.{Figure}
use Rattle.feasibility.specs.declared.Figure.TheVariants.{Weight, Price}
use Rattle.feasibility.specs.Amounts.{proposed_at, GoodAmount, numerator}
use Rattle.feasibility.specs.Check.{figure_of, term, total_of, Checkable}

pub product_small : (d : ℕ) (x : Fraction) → d ≤ 1000 → GoodAmount x → nat_abs x.p * d ≤ 1000000000000000
product_small d x l g = omega (arith, g.few, mul-le-mul g.near l)

-- rounded down it is as near
between : (p : ℤ) (q d : ℕ) → 1 ≤ q → nat_abs p ≤ 1000000000 * q → Within (1000000000 * d) (floor_div (p *ℤ pos d) (pos q))
between p zero d h l = absurd (omega arith)
between p (suc q) d h l =
    let n = floor_div (p *ℤ pos d) (pos (suc q)) in
    let f = (floor-is (p *ℤ pos d) (pos (suc q)) apart).positive above in
    abs-within n (inside n (times-≤-back (suc q) n (pos (1000000000 * d)) (omega arith) (≤ℤ-trans (turn n) (≤ℤ-trans f.0 (upper p (signed p _ l).0))))
    (floor-most (p *ℤ pos d) (pos (suc q)) (neg_ℤ (pos (1000000000 * d))) above (lower p (signed p _ l).1)))
  where
    apart : pos (suc q) ≡ pos 0 → ⊥
    apart = simp zed (omega arith)

    above : pos 0 <ℤ pos (suc q)
    above = simp zed (omega arith)

    turn : (n : ℤ) → (n *ℤ pos (suc q)) ≤ℤ (pos (suc q) *ℤ n)
    turn = split _ (λ a b. simp zed (omega arith))

    -- both ways
    signed : (p : ℤ) (n : ℕ) → nat_abs p ≤ n → (p ≤ℤ pos n) × (neg_ℤ (pos n) ≤ℤ p)
    signed = split _ (λ a b n. simp zed (λ h. (omega arith, omega arith)))

    upper : (p : ℤ) → p ≤ℤ pos (1000000000 * suc q) → (p *ℤ pos d) ≤ℤ (pos (1000000000 * d) *ℤ pos (suc q))
    upper = split _ (λ a b. simp zed (λ h. omega (arith, mul-le-mul_right d h)))

    lower : (p : ℤ) → neg_ℤ (pos (1000000000 * suc q)) ≤ℤ p → (pos (suc q) *ℤ neg_ℤ (pos (1000000000 * d))) ≤ℤ (p *ℤ pos d)
    lower = split _ (λ a b. simp zed (λ h. omega (arith, mul-le-mul_right d h)))

    inside : (n : ℤ) → n ≤ℤ pos (1000000000 * d) → neg_ℤ (pos (1000000000 * d)) ≤ℤ n → nat_abs n ≤ 1000000000 * d
    inside = split _ (λ a b. simp zed (omega arith))

numerator-within : (d : ℕ) (x : Fraction) → d ≤ 1000 → GoodAmount x → Within 1000000000000 (numerator d x)
numerator-within d x l g = within_more (omega arith) (between x.p x.q d g.some g.near)

figure-within : (f : Figure) (i : Item) → ItemFigures i → Within 10000 (figure_of f i)
figure-within Weight i r = abs-within i.weight (omega (arith, r.weight-in))
figure-within Price i r = abs-within i.price r.price-in

pub term-within : (f : Figure) (d : ℕ) (i : Item) (x : Fraction) → d ≤ 1000 → ItemFigures i → GoodAmount x → Within 10000000000000000 (term f d i x)
term-within f d i x l r g = within-mul (figure-within f i r) (numerator-within d x l g)

pub total-within : (f : Figure) (d n : ℕ) (p : Problem) (c : Candidate) → d ≤ 1000 → Checkable p c → n ≤ p.count →
    Within (10000000000000000 * n) (total_of f d n p c)
total-within f d zero p c l r m = record { above = omega arith; below = omega arith }
total-within f d (suc n) p c l r m =
    within_more (omega arith) (within-add (total-within f d n p c l r (omega arith))
    (term-within f d (item_at p n) (proposed_at c n) l (r.problem.items-in n (omega arith)) (r.amounts n (omega arith))))
