use Rattle.std.proofs.Common.{sym, ◌∙◌}
use Rattle.model.proofs.Records.{plain-in-range}
use Rattle.model.proofs.Crossings.{uncrossed}
use Rattle.rays_test.proofs.scanned.Goals as goal

pub find_ray-requires : goal.find_ray-requires
find_ray-requires c =
    plain-in-range c.args.p c.requires (uncrossed c.args.p (sym c.some_crosses.ensures ∙ c.if-some_crosses.false))
