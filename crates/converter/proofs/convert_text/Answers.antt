-- What remains of the record is accepted, so it has a sheet.
use Rattle.std.proofs.Common.{sym, ◌∙◌}
use Rattle.converter.proofs.Converted.{converted-fair}
use Rattle.converter.proofs.convert_text.Goals as goal

pub sheet_text-requires : goal.sheet_text-requires
sheet_text-requires c = rw (c.unblanked-r.ensures.left c.in-Ok.is) (converted-fair c.args.s.now (sym c.unblanked-r.ensures.told ∙ c.in-Ok.is))
