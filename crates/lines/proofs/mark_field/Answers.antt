use Rattle.std.proofs.Common.{sym, ◌∙◌}
use Rattle.lines.specs.Lines.{mark_at}
use Rattle.lines.proofs.mark_field.Goals as goal

pub returns-in-Some : goal.returns-in-Some
unfolding mark_at
returns-in-Some c = rw (sym c.after_word.ensures ∙ c.in-Some.is)

pub returns-in_err-next : goal.returns-in_err-next
unfolding mark_at
returns-in_err-next c = rw (c.from_residual.ensures, sym c.after_word.ensures ∙ c.in_default.is, sym c.after_word-2.ensures ∙ c.in_err-next.was)

pub returns : goal.returns
unfolding mark_at
returns c = rw (sym c.after_word.ensures ∙ c.in_default.is, sym c.after_word-2.ensures ∙ c.in_ok-next.was)
