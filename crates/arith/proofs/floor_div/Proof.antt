use mathlib.Core.Path.{◌≡◌, ap₂}
use Prim.Native.Nat.{◌<◌, ◌+◌}
use native.Mathlib.Omega.{arith}
use lib.Dec.{lit<}
use lib.IntN.{ℤ, pos, ◌-ℤ◌}
use lib.Signed.{◌≤ℤ◌, ◌<ℤ◌, ≤ℤ_refl, quot_z, rem_z}
use mir.Syntax.{w64}
use mir.Val.{SFits, to_z, of_z}
use mir.Facts.{to_z-of_z}
use Rattle.arith.specs.Within.{up, dn}
use Rattle.arith.specs.Division.{floor_div}
use Rattle.arith.proofs.Parts.{zs, diff, within-sfits, above-dn, lt-le}
use Rattle.arith.proofs.Quotients.{quot-rem, rem-small, quot-within, rem-within, bits-zero, bits_pos}
use Rattle.arith.proofs.Rounding.{IsFloor, nonzero, floor-same, floor-less, floor-is, floor-unique}
use Rattle.arith.proofs.floor_div.Statement.{statement}
use Rattle.arith.proofs.floor_div.Tie as tie

-- what is known at entry, and of the quotient and the remainder
abbrev N : tie.Start → ℤ
N s = s.args.n

abbrev D : tie.Start → ℤ
D s = s.args.d

quot-in : (s : tie.Start) → SFits w64 (quot_z (N s) (D s))
quot-in s = within-sfits (lit< tt) (quot-within (N s) (D s) s.requires.0)

rem-in : (s : tie.Start) → SFits w64 (rem_z (N s) (D s))
rem-in s = within-sfits (lit< tt) (rem-within (N s) (D s) s.requires.0)

-- the quotient and the remainder as the locals hold them
quot-back : (s : tie.Start) → to_z w64 (of_z w64 (quot_z (to_z w64 (of_z w64 (N s))) (to_z w64 (of_z w64 (D s))))) ≡ quot_z (N s) (D s)
quot-back s = rw (to_z-of_z s.ranges.n, to_z-of_z s.ranges.d) (to_z-of_z (quot-in s))

rem-same : (s : tie.Start) → rem_z (to_z w64 (of_z w64 (N s))) (to_z w64 (of_z w64 (D s))) ≡ rem_z (N s) (D s)
rem-same s = ap₂ rem_z (to_z-of_z s.ranges.n) (to_z-of_z s.ranges.d)

div-q : tie.Need-nonzero_div-q
div-q c = (bits_pos _ c.ranges.d c.requires.1, rw (to_z-of_z c.ranges.n, to_z-of_z c.ranges.d) (quot-in c))

rem-r : tie.Need-nonzero_rem-r
rem-r c = div-q c

small : (s : tie.Start) → up (rem_z (N s) (D s)) + dn (rem_z (N s) (D s)) < up (D s) + dn (D s)
small s = rem-small (N s) (D s) (nonzero (D s) s.requires.1)

rem-back : (s : tie.Start) → to_z w64 (of_z w64 (rem_z (to_z w64 (of_z w64 (N s))) (to_z w64 (of_z w64 (D s))))) ≡ rem_z (N s) (D s)
rem-back s = rw (to_z-of_z s.ranges.n, to_z-of_z s.ranges.d) (to_z-of_z (rem-in s))

rem-zero : (s : tie.Start) → of_z w64 (rem_z (to_z w64 (of_z w64 (N s))) (to_z w64 (of_z w64 (D s)))) ≡ 0 → rem_z (N s) (D s) ≡ pos 0
rem-zero s e = bits-zero _ (rem-in s) (rw (to_z-of_z s.ranges.n, to_z-of_z s.ranges.d) at e)

-- a remainder that is not zero and not below it
rem-above : (s : tie.Start) → (of_z w64 (rem_z (to_z w64 (of_z w64 (N s))) (to_z w64 (of_z w64 (D s)))) ≡ 0 → ⊥) → pos 0 ≤ℤ rem_z (N s) (D s)
    → pos 0 <ℤ rem_z (N s) (D s)
rem-above s ne g = omega (arith, zs, above-dn g, nonzero (rem_z (N s) (D s)) (λ e. ne (rw (to_z-of_z s.ranges.n, to_z-of_z s.ranges.d, e))))

moved : (s : tie.Start) → SFits w64 (quot_z (N s) (D s) -ℤ pos 1)
moved s = let h = quot-within (N s) (D s) s.requires.0 in omega (arith, zs, diff (quot_z (N s) (D s)) (pos 1))

moved_back : (s : tie.Start) → to_z w64 (of_z w64 (to_z w64 (of_z w64 (quot_z (to_z w64 (of_z w64 (N s))) (to_z w64 (of_z w64 (D s))))) -ℤ pos 1)) ≡ quot_z (N s) (D s)
    -ℤ pos 1
moved_back s = rw (quot-back s) (to_z-of_z (moved s))

exact : (s : tie.Start) (q : ℤ) → IsFloor (N s) (D s) q → q ≡ floor_div (N s) (D s)
exact s q h = floor-unique (N s) (D s) q _ s.requires.1 h (floor-is (N s) (D s) s.requires.1)

returns : tie.Need-returns-then-r-eq0
returns c =
    let s = c.before in
    let e = rem-zero s c.if-r-eq0.true in
    rw (quot-back s) (exact s _ (floor-same (N s) (D s) _ _ (quot-rem (N s) (D s)) (small s) (λ h. rw e (≤ℤ_refl (pos 0))) (λ h. rw e (≤ℤ_refl (pos 0)))))

sub-result : tie.Need-overflow_sub-result
sub-result c = rw (quot-back c.before.before.before) (moved c.before.before.before)

sub-result-2 : tie.Need-overflow_sub-result-else-d-gt0-2
sub-result-2 c = rw (quot-back c.before.before.before) (moved c.before.before.before)

returns-2 : tie.Need-returns-then-d-gt0
returns-2 c =
    let s = c.before.before.before in
    let r = rw (rem-back s) at c.if-r-lt0.true in
    let d = rw (to_z-of_z s.ranges.d) at c.if-d-gt0.true in
    let g : rem_z (N s) (D s) <ℤ pos 0 = omega (arith, zs) in
    rw (moved_back s) (exact s _ (floor-less (N s) (D s) _ _ (quot-rem (N s) (D s)) (small s) (λ h. g) (λ h. absurd (omega (arith, zs)))))

returns-3 : tie.Need-returns-else-d-gt0
returns-3 c =
    let s = c.before.before.before in
    let r = rw (rem-back s) at c.if-r-lt0.true in
    let d = rw (to_z-of_z s.ranges.d) at c.if-d-gt0.false in
    let g : rem_z (N s) (D s) <ℤ pos 0 = omega (arith, zs) in
    rw (quot-back s) (exact s _ (floor-same (N s) (D s) _ _ (quot-rem (N s) (D s)) (small s) (λ h. absurd (omega (arith, zs))) (λ h. lt-le g)))

returns-4 : tie.Need-returns-then-d-gt0-2
returns-4 c =
    let s = c.before.before.before in
    let r = rw (rem-back s) at c.if-r-lt0.false in
    let d = rw (to_z-of_z s.ranges.d) at c.if-d-gt0-2.true in
    let g : pos 0 ≤ℤ rem_z (N s) (D s) = omega (arith, zs) in let g' = rem-above s c.if-r-eq0.false g in
    rw (quot-back s) (exact s _ (floor-same (N s) (D s) _ _ (quot-rem (N s) (D s)) (small s) (λ h. g) (λ h. absurd (omega (arith, zs)))))

returns-5 : tie.Need-returns-else-d-gt0-2
returns-5 c =
    let s = c.before.before.before in
    let r = rw (rem-back s) at c.if-r-lt0.false in
    let d = rw (to_z-of_z s.ranges.d) at c.if-d-gt0-2.false in
    let g : pos 0 ≤ℤ rem_z (N s) (D s) = omega (arith, zs) in let g' = rem-above s c.if-r-eq0.false g in
    rw (moved_back s) (exact s _ (floor-less (N s) (D s) _ _ (quot-rem (N s) (D s)) (small s) (λ h. absurd (omega (arith, zs))) (λ h. g')))

pub floor_div_spec : {M : Type 1} → statement M
floor_div_spec = tie.close (tie.spec div-q rem-r returns sub-result sub-result-2 returns-2 returns-3 returns-4 returns-5)
