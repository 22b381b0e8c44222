use Rattle.std.proofs.Common.{sym, ◌∙◌, w64, arith}
use Rattle.std.proofs.lemmas.Result.{err_from_is_err_and}
use mir.Facts.{to_z_pos}
use Rattle.lines.specs.Lines.{bound_read}
use Rattle.lines.proofs.Shapes.{out-of-turn}
use Rattle.lines.proofs.bound_at.Goals as goal

pub returns-in_err-number : goal.returns-in_err-number
unfolding bound_read
returns-in_err-number c =
    let p = err_from_is_err_and c.from_residual.result c.from_residual.ensures.1 in
    let e = to_z_pos w64 {n = c.args.k} (omega arith) in
    rw (p.1, p.2, sym (rw e at c.closed_number.ensures) ∙ c.in_err-number.was)

pub returns-in_err-bound : goal.returns-in_err-bound
unfolding bound_read
returns-in_err-bound c =
    let p = err_from_is_err_and c.from_residual-in_err-bound.result c.from_residual-in_err-bound.ensures.1 in
    let e = to_z_pos w64 {n = c.args.k} (omega arith) in
    rw (p.1, p.2, sym (rw e at c.closed_number.ensures) ∙ c.in_ok-number.was, sym c.bound_field.ensures ∙ c.in_err-bound.was)

pub returns-in-None-default : goal.returns-in-None-default
unfolding bound_read
returns-in-None-default c =
    let e = to_z_pos w64 {n = c.args.k} (omega arith) in
    rw (sym (rw e at c.closed_number.ensures) ∙ c.in_ok-number.was, sym c.bound_field.ensures ∙ c.in_ok-bound.was, c.in-None-default.is-0)
    (sym (out-of-turn c.in_ok-bound.bound c.in_ok-bound.end))

pub returns-in-Some-None : goal.returns-in-Some-None
unfolding bound_read
returns-in-Some-None c =
    let e = to_z_pos w64 {n = c.args.k} (omega arith) in
    let i = c.in-Some-None in
    rw (sym (rw e at c.closed_number.ensures) ∙ c.in_ok-number.was, sym c.bound_field.ensures ∙ c.in_ok-bound.was, i.is-0, i.is-1)

pub returns-in-Some-Some : goal.returns-in-Some-Some
unfolding bound_read
returns-in-Some-Some c =
    let e = to_z_pos w64 {n = c.args.k} (omega arith) in
    let i = c.in-Some-Some in
    rw (sym (rw e at c.closed_number.ensures) ∙ c.in_ok-number.was, sym c.bound_field.ensures ∙ c.in_ok-bound.was, i.is-0, i.is-1)
