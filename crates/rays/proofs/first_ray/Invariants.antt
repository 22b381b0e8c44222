use Rattle.std.proofs.Common.{◌≡◌, None}
use Rattle.rays.specs.Directions.{first, ray_from}
use Rattle.rays.proofs.first_ray.Given as goal

abbrev pub invariant-loop-u : goal.invariant-loop-u
invariant-loop-u l = first l.u (ray_from l.p) ≡ None
