use Rattle.std.proofs.Common.{sym, ◌∙◌}
use Rattle.model.proofs.Records.{plain-in-range}
use Rattle.model.proofs.Crossings.{uncrossed}
use Rattle.settling_test.proofs.answered.Goals as goal

pub prepare-s-requires : goal.prepare-s-requires
prepare-s-requires c =
    plain-in-range c.args.p c.requires.n_bound.1 (uncrossed c.args.p (sym c.some_crosses.ensures ∙ c.if-some_crosses.false))
