use Rattle.std.proofs.Common.{sym, ◌∙◌}
use Rattle.lines.specs.Lines.{heading_line}
use Rattle.lines.proofs.heading_line.Goals as goal

pub returns-in_default : goal.returns-in_default
unfolding heading_line
returns-in_default c = rw (sym c.after_word.ensures ∙ c.in_default.is, c.fault_at.ensures)

pub returns-in_default-after_byte : goal.returns-in_default-after_byte
unfolding heading_line
returns-in_default-after_byte c =
    rw (sym c.after_word.ensures ∙ c.in-Some.is, sym c.after_byte.ensures ∙ c.in_default-after_byte.is, c.fault_at-in_default-after_byte.ensures)

pub returns : goal.returns
unfolding heading_line
returns c = rw (sym c.after_word.ensures ∙ c.in-Some.is, sym c.after_byte.ensures ∙ c.in-Some-after_byte.is) c.closed_number.ensures
