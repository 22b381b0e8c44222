use Rattle.std.proofs.Common.{◌≡◌, sym, ◌∙◌, arith, add-one}
use Rattle.dropping.specs.Dropping.{hinders}
use Rattle.dropping.proofs.Kept.{first-here, first-later, first-none}
use Rattle.dropping.proofs.first_hindered.Goals as goal

pub returns-then-is_hindered : goal.returns-then-is_hindered
returns-then-is_hindered c = sym (c.loop-k.invariant
    ∙ first-here (hinders c.args.m) c.args.m.count c.loop-k.k (omega arith) (sym c.is_hindered.ensures ∙ c.if-is_hindered.true))

pub loop-k-preserved : goal.loop-k-preserved
loop-k-preserved c = rw add-one (c.loop-k.invariant
    ∙ first-later (hinders c.args.m) c.args.m.count c.loop-k.k (omega arith) (sym c.is_hindered.ensures ∙ c.if-is_hindered.false))

pub returns : goal.returns
returns c =
    let e : c.args.m.count ≡ c.loop-k.k = omega arith in
    e ∙ sym (c.loop-k.invariant ∙ first-none (hinders c.args.m) c.args.m.count c.loop-k.k (omega arith))
