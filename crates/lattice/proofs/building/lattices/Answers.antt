use Rattle.std.proofs.Common.{◌≡◌, ◌-◌, arith}
use Rattle.arith.proofs.Parts.{within-back}
use Rattle.lattice.specs.Building.{Guess, entry}
use Rattle.lattice.proofs.Levels.{widened-guess, guess-is, built-none, built-more, built-done}
use Rattle.lattice.proofs.building.lattices.Goals as goal

pub loop-d-init : goal.loop-d-init
loop-d-init c = rw (c.unknown_lattices-to.ensures, c.no_changes-l.ensures) (built-none (entry c.args.weight) (entry c.args.price) c.args.n)

pub returns : goal.returns
returns c =
    let none : c.loop-d.d ≡ 0 = omega arith in
    built-done (entry c.args.weight) (entry c.args.price) c.args.n c.loop-d.l c.loop-d.to (rw none at c.loop-d.invariant)

pub widen-l-requires : goal.widen-l-requires
widen-l-requires c =
    let w = entry c.args.weight in
    let p = entry c.args.price in
    let a = c.requires.weights-in (c.loop-d.d - 1) in
    let b = c.requires.prices-in (c.loop-d.d - 1) in
    rw (within-back tt a, within-back tt b) (rw c.loop-d.invariant.guess (guess-is w p c.args.n c.requires (c.args.n - c.loop-d.d)), (a, b))

pub checked-requires : goal.checked-requires
checked-requires c =
    let w = entry c.args.weight in
    let p = entry c.args.price in
    let k = c.loop-d.d - 1 in
    let a = c.requires.weights-in k in
    let b = c.requires.prices-in k in
    let g : Guess c.loop-d.l = rw c.loop-d.invariant.guess (guess-is w p c.args.n c.requires (c.args.n - c.loop-d.d)) in
    let e = rw (within-back tt a, within-back tt b) at c.widen-l.ensures in
    rw e (widened-guess c.loop-d.l (w k) (p k) g a b, c.requires)

pub loop-d-preserved : goal.loop-d-preserved
loop-d-preserved c =
    let w = entry c.args.weight in
    let p = entry c.args.price in
    let k = c.loop-d.d - 1 in
    let e = rw (within-back tt (c.requires.weights-in k), within-back tt (c.requires.prices-in k)) at c.widen-l.ensures in
    rw c.checked.ensures (built-more w p c.args.n c.loop-d.d c.loop-d.l c.widen-l.result c.loop-d.to c.requires.few (omega arith) e c.loop-d.invariant)
