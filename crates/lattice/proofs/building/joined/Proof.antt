-- `lattice::building::joined` meets its contract: weights fall, so that there are steps enough.
use mathlib.Core.Path.{refl, sym}
use native.Mathlib.Omega.{arith}
use lib.IntN.{nat_abs}
use mir.Syntax.{w64}
use mir.Val.{to_z}
use Rattle.arith.specs.Within.{up}
use Rattle.arith.proofs.Parts.{from-lt, above-dn, within-back}
use Rattle.arith.proofs.Words.{yes_lt}
use Rattle.lattice.specs.Building.{Upright, Reduces, euclid}
use Rattle.lattice.proofs.Levels.{rest-high, first-upright, reduced-upright, Reaches, reaches_step, reaches_end}
use Rattle.lattice.proofs.building.joined.Statement.{statement}
use Rattle.lattice.proofs.building.joined.Tie as tie

abbrev invariant-loop : tie.invariant-loop-y
invariant-loop g x₀ y₀ x y = (Upright x × Upright y) × Reaches (to_z w64 g) (euclid (nat_abs y₀.weight) (to_z w64 g) x₀ y₀) x y

abbrev decreases-loop : tie.decreases-loop-y
decreases-loop g x₀ y₀ x y = up y.weight

first-change-requires : tie.Need-first_change-x-requires invariant-loop decreases-loop
first-change-requires c κs = c.requires.0

loop-holds : tie.Need-loop-y-init invariant-loop decreases-loop
loop-holds c =
    let s = c.before.before in
    rw c.first_change-x.ensures (
      (first-upright s.args.l s.requires.0, s.requires.1),
      record { steps = nat_abs s.args.v.weight; enough = omega arith; is = refl },
    )

-- the moments that are spoken of below
abbrev start : tie.At-loop-y invariant-loop decreases-loop → tie.Start invariant-loop decreases-loop
start c = c.before.before.before

abbrev at-loop : tie.In-loop-y invariant-loop decreases-loop → tie.At-loop-y invariant-loop decreases-loop
at-loop c = c.before.before.before

-- what a step is given
steps : (c : tie.In-loop-y invariant-loop decreases-loop) →
    let s = start c.before.before.before in
    Reduces c.loop-y.x c.loop-y.y
    s.args.l.gap
steps c =
    let a = c.before.before.before in
    let i = a.loop-y.invariant.0 in
    record {
      first = i.0;
      second = i.1;
      weight≥1 = yes_lt (rw (within-back tt i.1.weight-in) at c.loop-y-test.true);
      gap-in = a.requires.0.joined.gap-in;
    }

reduced-requires : tie.Need-reduced-r-requires invariant-loop decreases-loop
reduced-requires c κs = rw (within-back tt (steps c).gap-in) (steps c)

loop-less : tie.Need-loop-y-smaller invariant-loop decreases-loop
loop-less c =
    let a = at-loop c.before in
    let i = a.loop-y.invariant.0 in
    let r = steps c.before in
    let u = reduced-upright a.loop-y.x a.loop-y.y _ r in
    rw c.reduced-r.ensures (omega (
      arith,
      from-lt (rest-high a.loop-y.x.weight a.loop-y.y.weight r.weight≥1),
      above-dn u.weight≥0,
      above-dn i.1.weight≥0,
    ))

loop-again : tie.Need-loop-y-preserved invariant-loop decreases-loop
loop-again c =
    let t = c.before in
    let a = t.before.before.before in
    let g = a.args.l.gap in
    let r = steps t in
    let y = rw (within-back tt r.second.weight-in) at t.loop-y-test.true in
    rw (c.reduced-r.ensures, within-back tt r.gap-in) (
      (r.second, reduced-upright a.loop-y.x a.loop-y.y g r),
      rw (within-back tt r.gap-in) at (reaches_step _ _ a.loop-y.x a.loop-y.y r.second y a.loop-y.invariant.1),
    )

returns : tie.Need-returns invariant-loop decreases-loop
returns c =
    let at-else1 = c.before.before in
    let a = at-else1.before.before.before in
    let s = a.before.before.before in
    let i = a.loop-y.invariant.0 in
    let e = rw (within-back tt i.1.weight-in) at c.loop-y-test.false in
    let r = reaches_end _ _ a.loop-y.x a.loop-y.y e a.loop-y.invariant.1 in
    let t = rw (within-back tt s.requires.0.joined.gap-in, a.first_change-x.ensures) at r in
    rw (within-back tt i.0.weight-in, within-back tt i.0.worth-in, within-back tt i.1.worth-in) (sym t)

pub joined_spec : {M : Type 1} → statement M
joined_spec =
    tie.close
    (tie.spec
    invariant-loop
    decreases-loop
    first-change-requires
    loop-holds
    reduced-requires
    loop-less
    loop-again
    returns)
