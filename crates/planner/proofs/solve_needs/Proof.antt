-- `planner::solve_needs` meets its contract.
use mathlib.Core.Path.{sym, subst, ◌∙◌}
use Prim.Native.Nat.{◌≤◌}
use native.Mathlib.Omega.{arith}
use borrow.Author.Rules.{rules}
use Rattle.arith.proofs.Parts.{impossible}
use Rattle.knapsack.specs.Meaning.{instance_of}
use Rattle.model.specs.Records.{needs_of}
use Rattle.planner.specs.Branching.{case_steps, few_of, SolvesCase, nothing_yet, most_cases, Through, CasesTake, RayTakes, by_cases, by-ray}
use Rattle.planner.proofs.Breaking.{needed-placed}
use Rattle.planner.proofs.Ends.{ray-kind, limited-by, told-answers, told-first, more-steps}
use Rattle.planner.proofs.Exits.{few-most, none-worked, few-work}
use Rattle.planner.proofs.Twigs.{few-twigs, cases-plain}
use Rattle.planner.proofs.solve_needs.Statement.{statement}
use Rattle.planner.proofs.solve_needs.Tie as tie

-- the plain answer, and the start, from the test of its kind
abbrev solved : tie.After-is_unbounded → tie.After-solve_case-r
solved o = o.before.before

abbrev start : tie.After-is_unbounded → tie.Start
start o = (solved o).before.before

-- the steps of a case are few
few : (v : tie.After-solve_case-r) → let s = v.before.before in
    (v.few_steps-few.result ≤ s.args.most) × (v.few_steps-few.result ≤ case_steps)
few v = rw v.few_steps-few.ensures (few-most v.args.most)

plain-case : (v : tie.After-solve_case-r) → let s = v.before.before in
    SolvesCase (few_of s.args.most) s.args.p (needs_of s.args.ns) v.solve_case-r.result
plain-case v =
    let s = v.before.before in
    subst (λ m. SolvesCase m s.args.p (needs_of s.args.ns) v.solve_case-r.result) v.few_steps-few.ensures v.solve_case-r.ensures

few-steps-requires : tie.Need-few_steps-few-requires
few-steps-requires c κs = search rules

solve-case-requires : tie.Need-solve_case-r-requires
solve-case-requires c κs = let s = c.before in (s.requires.figures, needed-placed s.args.ns s.args.p s.requires)

is-unbounded-requires : tie.Need-is_unbounded-requires
is-unbounded-requires c κs = search rules

solve-ray-requires : tie.Need-solve_ray-requires
solve-ray-requires c κs =
    let v = solved c.before in
    record {
      needed = (start c.before).requires;
      solved = v.solve_case-r.ensures.0;
      short = (few v).1;
      kind-is = ray-kind v.solve_case-r.result.answer.kind (sym c.is_unbounded.ensures ∙ c.if-is_unbounded.true);
    }

returns : tie.Need-returns-then-is_unbounded
returns c =
    let e = c.before in
    let v = solved e.before in
    let s = start e.before in
    let z = c.solve_ray in (
      more-steps (few v).0 z.ensures.0,
      by-ray v.solve_case-r.result z.result (plain-case v) (sym e.is_unbounded.ensures ∙ e.if-is_unbounded.true)
          (subst (λ m. RayTakes s.args.ns m s.args.p v.solve_case-r.result z.result) v.few_steps-few.ensures z.ensures.1),
    )

nothing-yet-requires : tie.Need-nothing_yet-none-requires
nothing-yet-requires c κs = search rules

branch-requires : tie.Need-branch-p-requires
branch-requires c κs =
    let e = c.before in
    let v = solved e.before in
    let s = start e.before in
    let i = instance_of s.args.p in
    rw c.nothing_yet-none.ensures (record {
      figures = s.requires.figures;
      solved = v.solve_case-r.ensures.0;
      short = (few v).1;
      few = s.requires.few;
      allowed = s.requires.allowed;
      limited = limited-by i v.solve_case-r.result.answer v.solve_case-r.ensures.0.answers (sym e.is_unbounded.ensures ∙ e.if-is_unbounded.false);
      holds = λ h. absurd (impossible h);
      worked = none-worked v.few_steps-few.result;
      room = omega (arith, few-twigs s.args.ns s.requires.few i);
    })

told-requires : tie.Need-told-requires
told-requires c κs = search rules

returns-2 : tie.Need-returns
returns-2 c =
    let b = c.before in
    let n = b.before in
    let v = solved n.before.before in
    let s = start n.before.before in
    let i = instance_of s.args.p in
    let ns = needs_of s.args.ns in
    let f = v.few_steps-few in
    let e = n.before in
    let th : Through i ns f.result nothing_yet b.branch-p.result =
    subst (λ x. Through i ns f.result x b.branch-p.result) n.nothing_yet-none.ensures b.branch-p.ensures.0 in
    let take : CasesTake s.args.ns f.result s.args.p v.solve_case-r.result nothing_yet b.branch-p.result =
    subst (λ x. CasesTake s.args.ns f.result s.args.p v.solve_case-r.result x b.branch-p.result) n.nothing_yet-none.ensures
    b.branch-p.ensures.1 in
    let t = c.told.ensures in
    let w = few-work {n = most_cases ns} (omega (arith, cases-plain i ns)) th.worked in (
      more-steps (few v).0 (record {
        answers = told-answers i ns b.branch-p.result c.told.result.answer th.worth th.holds t.found t.none;
        first = told-first i ns b.branch-p.result c.told.result.answer th.first t.found t.none;
        few-steps = omega (arith, t.steps, w.0);
        few-cells = omega (arith, t.cells, w.1);
      }),
      by_cases v.solve_case-r.result c.told.result b.branch-p.result (plain-case v) (sym e.is_unbounded.ensures ∙ e.if-is_unbounded.false)
          (subst (λ m. CasesTake s.args.ns m s.args.p v.solve_case-r.result nothing_yet b.branch-p.result) f.ensures take) t,
    )

pub solve_needs_spec : {M : Type 1} → statement M
solve_needs_spec =
    tie.close
    (tie.spec
    few-steps-requires
    solve-case-requires
    is-unbounded-requires
    solve-ray-requires
    returns
    nothing-yet-requires
    branch-requires
    told-requires
    returns-2)
