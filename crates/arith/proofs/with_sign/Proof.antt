-- `arith::with_sign` meets its contract.
use mathlib.Core.Path.{◌≡◌, refl}
use Prim.Native.Nat.{ℕ}
use native.Mathlib.Omega.{arith}
use lib.Dec.{lit<}
use lib.IntN.{ℤ, pos, negsuc, neg_ℤ}
use lib.Signed.{◌≤ℤ◌, ◌<ℤ◌}
use mir.Syntax.{w64}
use mir.Val.{SFits, to_z}
use mir.Facts.{to_z-of_z, to_z_pos}
use borrow.Author.Rules.{rules}
use Rattle.arith.specs.Gcd.{signed}
use Rattle.arith.proofs.Parts.{zs, zero-less, neg-within, within-sfits}
use Rattle.arith.proofs.with_sign.Statement.{statement}
use Rattle.arith.proofs.with_sign.Tie as tie

-- what the sign of p makes of n
below : (p : ℤ) (n : ℕ) → p <ℤ pos 0 → neg_ℤ (pos n) ≡ signed p n
unfolding signed
below (pos k) n h = absurd (omega (arith, zs))
below (negsuc k) n h = refl

above : (p : ℤ) (n : ℕ) → pos 0 ≤ℤ p → pos n ≡ signed p n
unfolding signed
above (pos k) n h = refl
above (negsuc k) n h = absurd (omega (arith, zs))

is-n : (s : tie.Start) → to_z w64 s.args.m ≡ pos s.args.m
is-n s = to_z_pos w64 (omega arith)

fits : (s : tie.Start) → SFits w64 (neg_ℤ (pos s.args.m))
fits s = within-sfits (lit< tt) (neg-within s.args.m s.requires)

cast-n : tie.Need-overflow_cast-n
cast-n c = search rules

sub-result : tie.Need-overflow_sub-result
sub-result c = rw (is-n c.before, zero-less (pos c.args.m)) (fits c.before)

returns : tie.Need-returns-then-p-lt0
returns c =
    let s = c.before in
    let d = rw (to_z-of_z s.ranges.p) at c.if-p-lt0.true in
    rw (is-n s, zero-less (pos s.args.m), to_z-of_z (fits s)) (below s.args.p s.args.m (omega (arith, zs)))

returns-2 : tie.Need-returns-else-p-lt0
returns-2 c =
    let s = c.before in
    let d = rw (to_z-of_z s.ranges.p) at c.if-p-lt0.false in
    rw (is-n s) (above s.args.p s.args.m (omega (arith, zs)))

pub with_sign_spec : {M : Type 1} → statement M
with_sign_spec = tie.close (tie.spec cast-n sub-result returns returns-2)
