-- `planner::plan_within` meets its contract.
use mathlib.Core.Path.{◌≡◌, sym, ap, ◌∙◌, subst}
use borrow.Author.Rules.{rules}
use Rattle.knapsack.specs.Meaning.{instance_of}
use Rattle.knapsack.specs.declared.Answer.{Answer}
use Rattle.std.specs.Prelude.{Ok}
use Rattle.model.specs.Needs.{AnswersNeeds}
use Rattle.model.specs.Promises.{RepliesAs}
use Rattle.model.specs.Records.{plain_of, needs_of, verdict}
use Rattle.model.proofs.Records.{accepted}
use Rattle.solver.proofs.Outcomes.{not-refused}
use Rattle.planner.proofs.Breaking.{needed}
use Rattle.planner.proofs.plan_within.Statement.{statement}
use Rattle.planner.proofs.plan_within.Tie as tie

check-model-requires : tie.Need-check_model-v-requires
check-model-requires c κs = search rules

enum_told : tie.Need-enum_told-1
enum_told c = search rules

plain-of-requires : tie.Need-plain_of-requires
plain-of-requires c κs = search rules

-- the record is accepted
taken : (e : tie.In-Ok) → verdict e.args.m ≡ Ok tt
taken e = sym e.check_model-v.ensures ∙ e.in-Ok.is

solve-needs-requires : tie.Need-solve_needs-r-requires
solve-needs-requires c κs = rw c.plain_of.ensures (needed _ _ (accepted _ (taken c.before.before)))

enum-known-v : tie.Need-enum_known-v
enum-known-v c = search rules

no-point-requires : tie.Need-no_point-requires
no-point-requires c κs = search rules

returns : tie.Need-returns-in-Ok
returns c =
    let r = c.before in
    let p = r.before in
    let e = p.before.before in
    let given = e.args in
    let m = given.m in
    let s = instance_of (plain_of given.sense m) in
    let ns = needs_of m.needs in
    let a = r.solve_needs-r.result.answer in
    let answers : AnswersNeeds s ns a = rw p.plain_of.ensures at r.solve_needs-r.ensures.0.answers in
    record {
      replies = subst (RepliesAs s ns a) (sym (taken e)) answers;
      first = rw p.plain_of.ensures at r.solve_needs-r.ensures.0.first;
    }

returns-2 : tie.Need-returns-in-Err
returns-2 c =
    let v = c.before in
    let k = v.before in
    let given = k.args in
    let m = given.m in
    let is = sym k.check_model-v.ensures ∙ v.in-Err.is in
    record {
      replies = subst (RepliesAs (instance_of (plain_of given.sense m)) (needs_of m.needs) c.no_point.result) (sym is) c.no_point.ensures;
      first = λ low e. absurd (not-refused c.no_point.result.kind _ (ap (λ (a : Answer). a.kind) c.no_point.ensures) e);
    }

pub plan_within_spec : {M : Type 1} → statement M
plan_within_spec =
    tie.close
    (tie.spec
    check-model-requires
    enum_told
    plain-of-requires
    solve-needs-requires
    enum-known-v
    no-point-requires
    returns
    returns-2)
