use mathlib.Core.Path.{sym, ◌∙◌}
use native.Mathlib.Omega.{arith}
use Rattle.standing.specs.Changes.{Bounding}
use Rattle.standing.proofs.Rows.{there-is, tried-changes, refused-changes}
use Rattle.standing.proofs.set_upper.Goals as goal

pub overflow_sub-k : goal.overflow_sub-k
overflow_sub-k c = omega (arith, (there-is c.args.p.model c.args.k (sym c.check_number-verdict.ensures ∙ c.in-Ok.is)).least)

pub with_bound-requires : goal.with_bound-requires
with_bound-requires c =
    let h = there-is c.args.p.model c.args.k (sym c.check_number-verdict.ensures ∙ c.in-Ok.is) in
    omega (arith, h.least, h.most, h.few)

pub returns-in-Ok : goal.returns-in-Ok
returns-in-Ok c =
    let a = c.args in
    let v = c.check_number-verdict in
    tried-changes (Bounding a.k a.u) a.p v.result v.ensures c.in-Ok.is c.tried.result (rw c.with_bound.ensures at c.tried.ensures)

pub returns-in-Err : goal.returns-in-Err
returns-in-Err c =
    let a = c.args in
    let v = c.check_number-verdict in
    refused-changes (Bounding a.k a.u) a.p v.result v.ensures _ c.in-Err.is
