use Prim.Native.Nat.{ℕ}
use mathlib.Core.Path.{◌≡◌}
use native.Mathlib.Nat.{mod-lt}
use native.Mathlib.Omega.{arith}
use Rattle.arith.proofs.Divisors.{IsGcd, gcd-step, gcd-end, gcd-is, gcd-unique}
use Rattle.arith.proofs.gcd.Statement.{statement}
use Rattle.arith.proofs.gcd.Tie as tie

abbrev invariant-loop : tie.invariant-loop-y
invariant-loop a b x₀ y₀ x y = (g : ℕ) → IsGcd x y g → IsGcd a b g

abbrev decreases-loop : tie.decreases-loop-y
decreases-loop a b x₀ y₀ x y = y

loop-holds : tie.Need-loop-y-init invariant-loop decreases-loop
loop-holds c = λ g h. h

rem-r : tie.Need-nonzero_rem-r invariant-loop decreases-loop
rem-r c = omega arith

loop-less : tie.Need-loop-y-smaller invariant-loop decreases-loop
loop-less c = mod-lt c.loop-y.x c.loop-y-test.true

loop-again : tie.Need-loop-y-preserved invariant-loop decreases-loop
loop-again c = λ g h. c.loop-y.invariant g (gcd-step _ _ g h)

returns : tie.Need-returns invariant-loop decreases-loop
returns c =
    let e : c.loop-y.y ≡ 0 = omega arith in
    gcd-unique _ _ _ _ (c.loop-y.invariant _ (rw e (gcd-end _))) (gcd-is _ _)

pub gcd_spec : {M : Type 1} → statement M
gcd_spec = tie.close (tie.spec invariant-loop decreases-loop loop-holds rem-r loop-less loop-again returns)
