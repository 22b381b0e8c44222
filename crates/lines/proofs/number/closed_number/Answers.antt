use Rattle.std.proofs.Common.{sym, ◌∙◌}
use Rattle.lines.specs.Numbers.{field_at}
use Rattle.lines.proofs.number.closed_number.Goals as goal

pub returns-in_default : goal.returns-in_default
unfolding field_at
returns-in_default c = rw (sym c.number.ensures ∙ c.in_default.is, c.fault_at.ensures)

pub returns-in_default-after_byte : goal.returns-in_default-after_byte
unfolding field_at
returns-in_default-after_byte c =
    rw (sym c.number.ensures ∙ c.in-Some.is, sym c.after_byte.ensures ∙ c.in_default-after_byte.is, c.fault_at-in_default-after_byte.ensures)

pub returns : goal.returns
unfolding field_at
returns c = rw (sym c.number.ensures ∙ c.in-Some.is, sym c.after_byte.ensures ∙ c.in-Some-after_byte.is)
