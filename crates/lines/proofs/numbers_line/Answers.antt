use Rattle.std.proofs.Common.{sym, ◌∙◌}
use Rattle.std.proofs.lemmas.Result.{err_from_is_err_and}
use Rattle.lines.specs.Lines.{numbers_line}
use Rattle.lines.proofs.numbers_line.Goals as goal

pub returns-in_err-x : goal.returns-in_err-x
unfolding numbers_line
returns-in_err-x c = let p = err_from_is_err_and c.from_residual.result c.from_residual.ensures.1 in rw (p.1, p.2, sym c.closed_number.ensures ∙ c.in_err-x.was)

pub returns-in_err-y : goal.returns-in_err-y
unfolding numbers_line
returns-in_err-y c =
    let p = err_from_is_err_and c.from_residual-in_err-y.result c.from_residual-in_err-y.ensures.1 in
    rw (p.1, p.2, sym c.closed_number.ensures ∙ c.in_ok-x.was, sym c.closed_number-2.ensures ∙ c.in_err-y.was)

pub returns : goal.returns
unfolding numbers_line
returns c = rw (sym c.closed_number.ensures ∙ c.in_ok-x.was, sym c.closed_number-2.ensures ∙ c.in_ok-y.was)
