-- `arith::reduce` meets its contract: both divided by their greatest common divisor, which is not 0 as q is not.
use mathlib.Core.Path.{◌≡◌, ◌∙◌, ap, ap₂}
use Prim.Native.Nat.{ℕ, ◌<◌, ◌/◌}
use native.Mathlib.Nat.{div-le_self}
use native.Mathlib.Omega.{arith}
use lib.IntN.{ℤ, nat_abs}
use mir.Facts.{to_z-of_z}
use borrow.Author.Rules.{rules}
use Rattle.arith.specs.Gcd.{gcd_of, signed, lowest}
use Rattle.arith.proofs.Parts.{within-abs}
use Rattle.arith.proofs.Words.{back}
use Rattle.arith.proofs.Divisors.{gcd-is, divisor-pos}
use Rattle.arith.proofs.reduce.Statement.{statement}
use Rattle.arith.proofs.reduce.Tie as tie

magnitude-requires : tie.Need-magnitude-m-requires
magnitude-requires c κs = rw (to_z-of_z c.ranges.p) c.requires.0

gcd-requires : tie.Need-gcd-g-requires
gcd-requires c κs = search rules

is-abs : (c : tie.After-magnitude-m) → c.magnitude-m.result ≡ nat_abs c.args.p
is-abs c = rw (to_z-of_z c.ranges.p) at c.magnitude-m.ensures

divisor : (c : tie.After-gcd-g) → c.gcd-g.result ≡ gcd_of (nat_abs c.args.p) c.args.q
divisor c = c.gcd-g.ensures ∙ ap (λ n. gcd_of n c.args.q) (is-abs c.before)

divisor≥1 : (c : tie.After-gcd-g) → 0 < c.gcd-g.result
divisor≥1 c = rw (divisor c) (divisor-pos _ _ (gcd-is _ c.args.q).right c.requires.1)

div-with-sign : tie.Need-nonzero_div-m
div-with-sign c = divisor≥1 c

with-sign-requires : tie.Need-with_sign-requires
with-sign-requires c κs =
    omega (
      arith,
      div-le_self c.magnitude-m.result c.gcd-g.result,
      is-abs c.before,
      within-abs c.args.p c.requires.0,
    )

div-t7 : tie.Need-nonzero_div-result
div-t7 c = divisor≥1 c.before

returns : tie.Need-returns
unfolding lowest
returns c =
    let d = c.before in
    let s = d.before.before in
    let n : c.with_sign.result ≡ signed s.args.p (nat_abs s.args.p / gcd_of (nat_abs s.args.p) s.args.q) =
    rw (to_z-of_z s.ranges.p, is-abs d.before, divisor d) at c.with_sign.ensures in
    ap₂ (λ (x : ℤ) (y : ℕ). record { p = x; q = y }) (back c.with_sign.result c.with_sign.type_inv ∙ n) (ap (λ g. s.args.q / g) (divisor d))

pub reduce_spec : {M : Type 1} → statement M
reduce_spec =
    tie.close
    (tie.spec magnitude-requires gcd-requires div-with-sign with-sign-requires div-t7 returns)
