use Rattle.std.proofs.Common.{◌≡◌, Option, None, Some, sym, subst, ◌∙◌}
use Rattle.knapsack.specs.declared.Problem.{Problem}
use Rattle.knapsack.specs.Ranges.{InRange}
use Rattle.rays.specs.declared.Ray.{Ray}
use Rattle.rays.specs.Directions.{ray_of}
use Rattle.rays.specs.Rays.{RayFound}
use Rattle.rays.proofs.Scan.{Tested, tested, tested-directs}
use Rattle.rays.proofs.Steps.{reply_of, found}
use Rattle.rays.proofs.find_ray.Goals as goal

-- the reply, by the first ray
replied : (p : Problem) → InRange p → (r : Option Ray) → r ≡ ray_of p → RayFound p (reply_of p r)
replied p h r e = subst (λ r. RayFound p (reply_of p r)) (sym e) (found p h)

pub steps_of-requires : goal.steps_of-requires
steps_of-requires c = (
  c.requires,
  tested-directs c.args.p c.in_ok-r.r (subst (Tested c.args.p) (sym c.first_ray.ensures ∙ c.in_ok-r.was) (tested c.args.p)),
)

pub returns-in_err-r : goal.returns-in_err-r
returns-in_err-r c =
    subst (RayFound c.args.p) (sym c.from_residual.ensures) (replied c.args.p c.requires None (sym c.in_err-r.was ∙ c.first_ray.ensures))

pub returns : goal.returns
returns c = rw c.steps_of.ensures (replied c.args.p c.requires (Some c.in_ok-r.r) (sym c.in_ok-r.was ∙ c.first_ray.ensures))
