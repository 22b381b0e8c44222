use Rattle.std.proofs.Common.{sym, ◌∙◌}
use Rattle.model.proofs.Records.{accepted}
use Rattle.model.specs.declared.Sense.TheVariants.{Sure}
use Rattle.rays_test.proofs.print_ray.Goals as goal

pub scanned-requires : goal.scanned-requires
scanned-requires c = rw c.plain_of.ensures ((accepted _ (sym c.check_model.ensures ∙ c.in-Ok.is)).figures Sure)
