-- What remains of the record is accepted, so it is written.
use Rattle.std.proofs.Common.{sym, ◌∙◌}
use Rattle.converter.proofs.Converted.{converted-fair}
use Rattle.converter.proofs.convert.Goals as goal

pub returns-clause-value : goal.returns-clause-value
returns-clause-value c =
    let free = sym c.unblanked-r.ensures.told ∙ c.in_ok-r.was in
    rw free (rw (c.unblanked-r.ensures.left c.in_ok-r.was, converted-fair c.args.s.now free) at c.write_sheet.ensures.value)

pub returns-clause-out_after : goal.returns-clause-out_after
returns-clause-out_after c =
    let free = sym c.unblanked-r.ensures.told ∙ c.in_ok-r.was in
    rw free (rw (c.unblanked-r.ensures.left c.in_ok-r.was, converted-fair c.args.s.now free) at c.write_sheet.ensures.out_after)
