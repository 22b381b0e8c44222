use Rattle.std.proofs.Common.{◌≡◌, ◌*◌, refl, sym, ◌∙◌, arith}
use Rattle.rays.specs.Directions.{first}
use Rattle.rays.proofs.Scan.{first_past, first-here}
use Rattle.rays.proofs.partner.Goals as goal

pub loop-w-init : goal.loop-w-init
unfolding first
loop-w-init c = refl

pub returns-in-Some : goal.returns-in-Some
returns-in-Some c = sym (first-here _ c.loop-w.w _ c.in-Some.r (omega arith) c.loop-w.invariant (sym c.partner_at.ensures ∙ c.in-Some.is))

pub loop-w-preserved : goal.loop-w-preserved
loop-w-preserved c = first_past c.loop-w.w _ c.loop-w.invariant (sym c.partner_at.ensures ∙ c.in_default.is)

pub returns : goal.returns
returns c =
    let e : c.loop-w.w ≡ 2 * c.args.p.count = omega arith in
    sym (rw e at c.loop-w.invariant)
