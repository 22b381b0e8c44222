use Rattle.std.proofs.Common.{◌≡◌, true, false, sym, ◌∙◌, arith}
use Rattle.arith.proofs.Parts.{within-back}
use Rattle.lattice.specs.Building.{entry}
use Rattle.lattice.proofs.Levels.{held-step, held-stop, held_none}
use Rattle.lattice.proofs.building.held_from.Goals as goal

pub holds-requires : goal.holds-requires
holds-requires c =
    let w = c.requires.1.1.weights-in c.loop-j.j in
    let p = c.requires.1.1.prices-in c.loop-j.j in
    rw (within-back tt w, within-back tt p) (record { tame = c.requires.0; stride≥1 = c.requires.1.0; weight-in = w; price-in = p })

pub returns : goal.returns
returns c = sym (c.loop-j.invariant ∙ held_none c.args.l (entry c.args.weight) (entry c.args.price) c.loop-j.j c.args.n (omega arith))

pub returns-then-not-holds : goal.returns-then-not-holds
returns-then-not-holds c =
    let k = c.loop-j.j in
    let e = rw (within-back tt (c.requires.1.1.weights-in k), within-back tt (c.requires.1.1.prices-in k)) at c.holds.ensures in
    let h : c.holds.result ≡ false = grind arith in
    sym (c.loop-j.invariant ∙ held-stop c.args.l (entry c.args.weight) (entry c.args.price) k c.args.n (omega arith) (sym e ∙ h))

pub loop-j-preserved : goal.loop-j-preserved
loop-j-preserved c =
    let k = c.loop-j.j in
    let e = rw (within-back tt (c.requires.1.1.weights-in k), within-back tt (c.requires.1.1.prices-in k)) at c.holds.ensures in
    let h : c.holds.result ≡ true = grind arith in
    c.loop-j.invariant ∙ sym (held-step c.args.l (entry c.args.weight) (entry c.args.price) k c.args.n (omega arith) (sym e ∙ h))
