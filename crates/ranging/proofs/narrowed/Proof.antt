-- `ranging::narrowed` meets its contract: the lowered problem's answer says on which side the fall tried is.
use mathlib.Core.Path.{◌≡◌, sym, ap, subst, ◌∙◌}
use Prim.Native.Nat.{◌<◌}
use native.Mathlib.Omega.{arith}
use lib.ListN.{length}
use borrow.Author.Rules.{rules}
use Rattle.arith.proofs.Parts.{impossible}
use Rattle.knapsack.specs.Meaning.{instance_of, Shown, amount_at, point_of}
use Rattle.knapsack.specs.Ranges.{item_at}
use Rattle.model.specs.Needs.{AnswersNeeds, AnswersAsNeeds, ShownOptimalNeeds}
use Rattle.model.specs.Records.{needs_of}
use Rattle.cases.proofs.Limits.{shown-priced}
use Rattle.planner.proofs.Exits.{kind-of}
use Rattle.planner.specs.Branching.{is_optimal}
use Rattle.ranging.specs.Ranging.{lowered}
use Rattle.ranging.specs.Searching.{Lowerable}
use Rattle.ranging.proofs.Lowering.{deepest-most, lowered_is, lowered-needed, span-kept, span-passed, span-unended}
use Rattle.ranging.proofs.Ranging.{feasible-before}
use Rattle.ranging.proofs.narrowed.Statement.{statement}
use Rattle.ranging.proofs.narrowed.Tie as tie

-- ---- the moments that are spoken of below

abbrev start : tie.After-probe-d → tie.Start
start c = c.before

abbrev solving : tie.After-is_optimal → tie.After-solve_needs-solved
solving c = c.before.before

abbrev probing : tie.After-is_optimal → tie.After-probe-d
probing c = (solving c).before.before

-- the fall tried is one of the item's
fall-in : (c : tie.After-probe-d) → let s = start c in Lowerable s.args.p s.args.k c.probe-d.result
fall-in c =
    let s = start c in
    record {
      figures = s.requires.0.0.needed.figures;
      inside = s.requires.0.1;
      most = omega (arith, c.probe-d.ensures.1, s.requires.1.0.most);
    }

long : (s : tie.Start) → s.args.k < length s.args.p.items
long s =
    let size : length s.args.p.items ≡ 16 = s.well_formed.0.1.1.0.1.0.1 in
    omega (arith, s.requires.0.1, s.requires.0.0.needed.figures.few-items)

-- the lowered problem's answer
answered : (c : tie.After-is_optimal) → let q = probing c in let s = start q in
    AnswersNeeds (lowered (instance_of s.args.p) s.args.k q.probe-d.result) (needs_of s.args.ns) (solving c).solve_needs-solved.result.answer
answered c =
    let r = solving c in
    let l = r.before in
    let q = probing c in
    let s = start q in
    let a = r.solve_needs-solved.result.answer in
    subst (λ i. AnswersNeeds i (needs_of s.args.ns) a) (lowered_is s.args.p s.args.k q.probe-d.result (long s))
    (subst (λ z. AnswersNeeds (instance_of z) (needs_of s.args.ns) a) l.lowered.ensures r.solve_needs-solved.ensures.0.answers)

best : (c : tie.Then-is_optimal) → let o = c.before in let q = probing o in let s = start q in
    ShownOptimalNeeds (lowered (instance_of s.args.p) s.args.k q.probe-d.result) (needs_of s.args.ns) (solving o).solve_needs-solved.result.answer
best c =
    let o = c.before in
    let q = probing o in
    let s = start q in
    let a = (solving o).solve_needs-solved.result.answer in
    subst (AnswersAsNeeds (lowered (instance_of s.args.p) s.args.k q.probe-d.result) (needs_of s.args.ns) a)
    (kind-of a.kind (sym o.is_optimal.ensures ∙ c.if-is_optimal.true)) (answered o)

shown-both : (c : tie.Then-is_optimal) → let o = c.before in let s = start (probing o) in
    Shown (instance_of s.args.p) (amount_at s.args.a) × Shown (instance_of s.args.p) (amount_at (solving o).solve_needs-solved.result.answer)
shown-both c = let s = start (probing c.before) in (s.requires.0.0.best.shown, shown-priced (instance_of s.args.p) _ _ (best c).shown)

-- ---- the calls

probe-requires : tie.Need-probe-d-requires
probe-requires c κs = search rules

lowered-requires : tie.Need-lowered-requires
lowered-requires c κs =
    let s = start c in
    let h = fall-in c in
    let f = (h.figures.items-in s.args.k h.inside).price-in in
    (omega (arith, h.inside, h.figures.few-items), (f, omega (arith, h.most, deepest-most (item_at s.args.p s.args.k).price f)))

solve-needs-requires : tie.Need-solve_needs-solved-requires
solve-needs-requires c κs =
    let q = c.before in
    let s = start q in
    rw c.lowered.ensures
    (lowered-needed s.args.p s.args.k q.probe-d.result (long s) s.args.ns s.requires.0.0.needed (fall-in q).most s.requires.0.1)

is-optimal-requires : tie.Need-is_optimal-requires
is-optimal-requires c κs = search rules

is-passed-requires : tie.Need-is_passed-requires
is-passed-requires c κs = (fall-in (probing c.before), shown-both c)

first-passed-requires : tie.Need-first_passed-requires
first-passed-requires c κs =
    let p = c.before in
    let t = p.before in
    let q = probing t.before in
    ((fall-in q, shown-both t), record { above = q.probe-d.ensures.0; ahead = p.is_passed.ensures.ahead c.if-is_passed.true })

fewer-requires : tie.Need-fewer-requires
fewer-requires c κs = search rules

-- ---- the narrower span

returns : tie.Need-returns-then-is_passed
returns c =
    let f = c.before in
    let t = f.before.before.before in
    let q = probing t.before in
    let s = start q in
    let z = s.args.s in
    let b = (solving t.before).solve_needs-solved.result.answer in
    let r = f.first_passed in
    span-passed s.args.p s.args.ns s.args.a s.args.k s.requires.0.0 s.requires.0.1 z.low z.high z.leaps s.requires.1.0
    q.probe-d.result q.probe-d.ensures.0 q.probe-d.ensures.1 c.fewer.result b
    (feasible-before (instance_of s.args.p) s.args.k s.requires.0.1 (needs_of s.args.ns) (point_of b) q.probe-d.result (point_of b)
    (best t).optimal.feasible)
    r.result r.ensures.0 r.ensures.1

returns-2 : tie.Need-returns-then-is_optimal
returns-2 c =
    let p = c.before in
    let t = p.before in
    let q = probing t.before in
    let s = start q in
    let z = s.args.s in
    let b = (solving t.before).solve_needs-solved.result.answer in
    span-kept s.args.p s.args.ns s.args.a s.args.k s.requires.0.0 s.requires.0.1 z.low z.high z.leaps s.requires.1.0
    q.probe-d.result q.probe-d.ensures.0 q.probe-d.ensures.1 z.leaps b (best t).optimal (p.is_passed.ensures.behind c.if-is_passed.false)

returns-3 : tie.Need-returns
returns-3 c =
    let o = c.before in
    let q = probing o in
    let s = start q in
    let z = s.args.s in
    let b = (solving o).solve_needs-solved.result.answer in
    span-unended s.args.p s.args.ns s.args.a s.args.k s.requires.0.0 s.requires.0.1 z.low z.high z.leaps s.requires.1.0
    q.probe-d.result q.probe-d.ensures.0 q.probe-d.ensures.1 0 b (answered o) (λ e. impossible (sym (sym o.is_optimal.ensures ∙ c.if-is_optimal.false) ∙ ap is_optimal e))

pub narrowed_spec : {M : Type 1} → statement M
narrowed_spec =
    tie.close
    (tie.spec
    probe-requires
    lowered-requires
    solve-needs-requires
    is-optimal-requires
    is-passed-requires
    first-passed-requires
    fewer-requires
    returns
    returns-2
    returns-3)
