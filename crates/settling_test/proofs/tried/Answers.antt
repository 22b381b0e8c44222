use Rattle.std.proofs.Common.{sym, ◌∙◌}
use Rattle.model.proofs.Records.{accepted}
use Rattle.model.specs.declared.Sense.TheVariants.{Sure}
use Rattle.settling_test.proofs.tried.Goals as goal

pub answered-requires-clause-n_bound : goal.answered-requires-clause-n_bound
answered-requires-clause-n_bound c =
    (c.requires.n_bound, rw c.plain_of.ensures ((accepted _ (sym c.check_model.ensures ∙ c.in-Ok.is)).figures Sure))
