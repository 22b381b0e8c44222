use Rattle.std.proofs.Common.{sym, ◌∙◌}
use Rattle.model.proofs.Records.{accepted}
use Rattle.model.specs.declared.Sense.TheVariants.{Sure}
use Rattle.domination_test.proofs.table_of.Goals as goal

pub pair_table-requires : goal.pair_table-requires
pair_table-requires c = rw c.plain_of.ensures ((accepted _ (sym c.check_model.ensures ∙ c.in-Ok.is)).figures Sure)
