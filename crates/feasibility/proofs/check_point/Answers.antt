-- The plain problem of an accepted record is in range, and the reply tells the truth.
use mathlib.Core.Path.{◌≡◌, sym, ◌∙◌}
use borrow.Author.Rules.{rules}
use Rattle.model.proofs.Records.{accepted}
use Rattle.feasibility.specs.Check.{point_check}
use Rattle.feasibility.proofs.Meaning.{told_by}
use Rattle.feasibility.proofs.check_point.Goals as goal

pub check_amounts-requires : goal.check_amounts-requires
check_amounts-requires c =
    let a = accepted c.args.m (sym c.check_model.ensures ∙ c.in_ok-check_model.was) in
    rw c.plain_of.ensures (a.figures _, record { few = a.few-needs; numbers = λ j l. (a.needs j l).numbers })

pub returns-in_err-check_model : goal.returns-in_err-check_model
unfolding point_check
returns-in_err-check_model c =
    let a = c.args in
    let e : c.from_residual.result ≡ point_check a.sense a.m a.c = rw (← c.check_model.ensures, c.in_err-check_model.was) (search rules) in
    record { value = e; told = told_by a.sense a.m a.c c.from_residual.result e }

pub returns : goal.returns
unfolding point_check
returns c =
    let a = c.args in
    let e : c.check_amounts.result ≡ point_check a.sense a.m a.c = rw (← c.check_model.ensures, c.in_ok-check_model.was, ← c.plain_of.ensures) c.check_amounts.ensures in
    record { value = e; told = told_by a.sense a.m a.c c.check_amounts.result e }
