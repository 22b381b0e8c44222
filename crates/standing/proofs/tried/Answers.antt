use mathlib.Core.Path.{refl, sym, ◌∙◌, subst}
use Rattle.standing.specs.Plans.{Left}
use Rattle.standing.proofs.tried.Goals as goal

pub returns-in-Ok : goal.returns-in-Ok
returns-in-Ok c =
    let v = c.check_model-verdict.ensures in
    let q = c.fresh-plan in
    record { told = v; left = subst (Left c.args.p c.args.m q.result) (sym (sym v ∙ c.in-Ok.is)) q.ensures }

pub returns-in-Err : goal.returns-in-Err
returns-in-Err c =
    let v = c.check_model-verdict.ensures in
    let p = c.args.p in
    record { told = v; left = subst (Left p c.args.m p) (sym (sym v ∙ c.in-Err.is)) refl }
