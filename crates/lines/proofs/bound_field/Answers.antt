use Rattle.std.proofs.Common.{sym, ◌∙◌}
use Rattle.lines.specs.Lines.{bound_field}
use Rattle.lines.proofs.bound_field.Goals as goal

pub returns-in_default : goal.returns-in_default
unfolding bound_field
returns-in_default c = rw (sym c.after_word.ensures ∙ c.in_default.is) c.number_bound.ensures

pub returns-in_default-after_byte : goal.returns-in_default-after_byte
unfolding bound_field
returns-in_default-after_byte c = rw (sym c.after_word.ensures ∙ c.in-Some.is, sym c.after_byte.ensures ∙ c.in_default-after_byte.is, c.fault_at.ensures)

pub returns : goal.returns
unfolding bound_field
returns c = rw (sym c.after_word.ensures ∙ c.in-Some.is, sym c.after_byte.ensures ∙ c.in-Some-after_byte.is)
