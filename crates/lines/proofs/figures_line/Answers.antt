use Rattle.std.proofs.Common.{sym, ◌∙◌}
use Rattle.std.proofs.lemmas.Result.{err_from_is_err_and}
use Rattle.lines.specs.Lines.{figures_line}
use Rattle.lines.proofs.figures_line.Goals as goal

pub returns-in_err-low : goal.returns-in_err-low
unfolding figures_line
returns-in_err-low c = let p = err_from_is_err_and c.from_residual.result c.from_residual.ensures.1 in rw (p.1, p.2, sym c.closed_number.ensures ∙ c.in_err-low.was)

pub returns-in_err-high : goal.returns-in_err-high
unfolding figures_line
returns-in_err-high c =
    let p = err_from_is_err_and c.from_residual-in_err-high.result c.from_residual-in_err-high.ensures.1 in
    rw (p.1, p.2, sym c.closed_number.ensures ∙ c.in_ok-low.was, sym c.numbers_line.ensures ∙ c.in_err-high.was)

pub returns : goal.returns
unfolding figures_line
returns c = rw (sym c.closed_number.ensures ∙ c.in_ok-low.was, sym c.numbers_line.ensures ∙ c.in_ok-high.was)
