use Rattle.std.proofs.Common.{rules, sym, ◌∙◌, w64}
use Rattle.std.proofs.lemmas.Result.{err_from_is_err_and}
use mir.Facts.{to_z-of_z}
use mir.Val.{SFits}
use Rattle.lines.specs.Lines.{item_read}
use Rattle.lines.proofs.item_at.Goals as goal

pub returns-in_err-mark : goal.returns-in_err-mark
unfolding item_read
returns-in_err-mark c =
    let p = err_from_is_err_and c.from_residual.result c.from_residual.ensures.1 in
    rw (p.1, p.2, sym c.item_form.ensures ∙ c.in_err-mark.was)

pub returns-in_default : goal.returns-in_default
unfolding item_read
returns-in_default c = rw (sym c.item_form.ensures ∙ c.in_ok-mark.was, c.in_default.is-0, c.in_default.is-1, c.in_default.is-2)

pub returns-in_default-2 : goal.returns-in_default-2
unfolding item_read
returns-in_default-2 c = rw (sym c.item_form.ensures ∙ c.in_ok-mark.was, c.in_default.is-0, c.in_default.is-1)

pub returns-in_default-3 : goal.returns-in_default-3
unfolding item_read
returns-in_default-3 c = rw (sym c.item_form.ensures ∙ c.in_ok-mark.was, c.in_default.is-0)

low-fits : (c : goal.After-ordered) → SFits w64 c.in-Some-Some-Some.low
low-fits c = search rules

high-fits : (c : goal.After-ordered) → SFits w64 c.in-Some-Some-Some.high
high-fits c = search rules

price-fits : (c : goal.After-ordered) → SFits w64 c.in-Some-Some-Some.price
price-fits c = search rules

pub returns : goal.returns
unfolding item_read
returns c =
    let i = c.in-Some-Some-Some in
    rw (sym c.item_form.ensures ∙ c.in_ok-mark.was, i.is-0, i.is-1, i.is-2)
    (rw (to_z-of_z (low-fits c), to_z-of_z (high-fits c), to_z-of_z (price-fits c)) at c.ordered.ensures)
