use Rattle.std.proofs.Common.{◌≡◌, None}
use Rattle.rays.specs.Directions.{first, partner_at}
use Rattle.rays.proofs.partner.Given as goal

abbrev pub invariant-loop-w : goal.invariant-loop-w
invariant-loop-w l = first l.w (partner_at l.p l.u l.d) ≡ None
