use Rattle.std.proofs.Common.{◌≡◌, ◌*◌, refl, sym, ◌∙◌, arith}
use Rattle.rays.specs.Directions.{first, ray_of}
use Rattle.rays.proofs.Scan.{first_past, first-here}
use Rattle.rays.proofs.first_ray.Goals as goal

pub loop-u-init : goal.loop-u-init
unfolding first
loop-u-init c = refl

pub returns-in-Some : goal.returns-in-Some
unfolding ray_of
returns-in-Some c = sym (first-here _ c.loop-u.u _ c.in-Some.r (omega arith) c.loop-u.invariant (sym c.ray_from.ensures ∙ c.in-Some.is))

pub loop-u-preserved : goal.loop-u-preserved
loop-u-preserved c = first_past c.loop-u.u _ c.loop-u.invariant (sym c.ray_from.ensures ∙ c.in_default.is)

pub returns : goal.returns
unfolding ray_of
returns c =
    let e : c.loop-u.u ≡ 2 * c.args.p.count = omega arith in
    sym (rw e at c.loop-u.invariant)
