use Rattle.std.proofs.Common.{sym, ◌∙◌}
use Rattle.std.proofs.lemmas.Result.{err_from_is_err_and}
use Rattle.lines.specs.Lines.{item_line}
use Rattle.lines.proofs.item_form.Goals as goal

pub returns-in_default : goal.returns-in_default
unfolding item_line
returns-in_default c = rw (sym c.mark_field.ensures ∙ c.in_default.is)

pub returns-in_err-low : goal.returns-in_err-low
unfolding item_line
returns-in_err-low c =
    let p = err_from_is_err_and c.from_residual.result c.from_residual.ensures.1 in
    rw (p.1, p.2, sym c.mark_field.ensures ∙ c.in-Some.is, sym c.figures_line.ensures ∙ c.in_err-low.was)

pub returns : goal.returns
unfolding item_line
returns c = rw (sym c.mark_field.ensures ∙ c.in-Some.is, sym c.figures_line.ensures ∙ c.in_ok-low.was)
