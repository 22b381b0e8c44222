-- `planner::solve_ray` meets its contract: the steps run on from any point that keeps the needs.
use mathlib.Core.Path.{◌≡◌, sym, ap, subst, ◌∙◌}
use Prim.Native.Nat.{◌≤◌}
use native.Mathlib.Nat.{mul-le-mul_right}
use native.Mathlib.Omega.{arith}
use lib.IntN.{pos}
use lib.ListN.{length}
use borrow.Author.Rules.{rules}
use Rattle.arith.proofs.Parts.{impossible}
use Rattle.knapsack.specs.Meaning.{instance_of, AnswersAs, ShownUnbounded}
use Rattle.model.specs.Needs.{Every, Allowed}
use Rattle.model.specs.Records.{FiguresInRange, needs_of}
use Rattle.cases.proofs.Endless.{allowed-priced, worthless}
use Rattle.planner.specs.Branching.{FirstBroken, nothing_yet, counted_of, most_cases, Bounded, Branches, Through, CasesTake, stands, moves}
use Rattle.planner.proofs.Breaking.{every-kept, needed-placed}
use Rattle.planner.proofs.Ends.{limited-worthless, unpriced-is, unpriced-figures, ray-answers, ray-first, ray-kept, no-first}
use Rattle.planner.proofs.Exits.{counted-work, countable, none-worked, few-work}
use Rattle.planner.proofs.Twigs.{few-twigs, cases-ray, cases-some}
use Rattle.planner.proofs.solve_ray.Statement.{statement}
use Rattle.planner.proofs.solve_ray.Tie as tie

-- the test of the point, and the start, from where nothing is found yet
abbrev asked : tie.After-nothing_yet-none → tie.After-first_broken-broken
asked c = let n = c.before.before in n.before.before

abbrev start : tie.After-nothing_yet-none → tie.Start
start c = (asked c).before.before.before

long : (s : tie.Start) → length s.args.p.items ≡ 16
long s = s.well_formed.0.1.1.0.1.0.1

-- the plain answer
shown : (s : tie.Start) → ShownUnbounded (instance_of s.args.p) s.args.r.answer
shown s = subst (AnswersAs (instance_of s.args.p) s.args.r.answer) s.requires.kind-is s.requires.solved.answers

one-case : (c : tie.After-counted-c) → c.counted-c.result ≡ counted_of nothing_yet (start c.before).args.r
one-case c = c.counted-c.ensures ∙ ap (λ b. counted_of b (start c.before).args.r) c.nothing_yet-none.ensures

-- the problem at price 0
q-is : (u : tie.After-unpriced-q) → let s = start u.before.before in instance_of u.unpriced-q.result ≡ worthless (instance_of s.args.p)
q-is u = let s = start u.before.before in unpriced-is s.args.p u.unpriced-q.result (long s) u.unpriced-q.ensures

q-figures : (u : tie.After-unpriced-q) → FiguresInRange u.unpriced-q.result
q-figures u =
    let s = start u.before.before in
    unpriced-figures s.args.p u.unpriced-q.result (long s) u.unpriced-q.ensures s.requires.needed.figures

first-broken-requires : tie.Need-first_broken-broken-requires
first-broken-requires c κs = let s = c.before.before in needed-placed s.args.ns s.args.p s.requires.needed

nothing-yet-requires : tie.Need-nothing_yet-none-requires
nothing-yet-requires c κs = search rules

counted-requires : tie.Need-counted-c-requires
counted-requires c κs =
    let s = start c in
    let v = s.requires.solved in
    rw c.nothing_yet-none.ensures
    (countable s.args.most nothing_yet s.args.r s.requires.short (omega arith) (none-worked s.args.most) v.few-steps v.few-cells)

unpriced-requires : tie.Need-unpriced-q-requires
unpriced-requires c κs = search rules

solve-case-requires : tie.Need-solve_case-requires
solve-case-requires c κs =
    let s = start c.before.before in
    (q-figures c, needed-placed s.args.ns s.args.p s.requires.needed)

branch-requires : tie.Need-branch-b-requires
branch-requires c κs =
    let u = c.before in
    let s = start u.before.before in
    let i = instance_of s.args.p in
    let ns = needs_of s.args.ns in
    let v = s.requires.solved in
    subst (Branches u.unpriced-q.result c.solve_case.result s.args.ns s.args.most) (sym (one-case u.before)) (record {
      figures = q-figures u;
      solved = c.solve_case.ensures.0;
      short = s.requires.short;
      few = s.requires.needed.few;
      allowed = subst (λ x. Every (Allowed x) ns) (sym (q-is u)) (allowed-priced i (λ k. pos 0) ns s.requires.needed.allowed);
      limited = subst Bounded (sym (q-is u)) (limited-worthless i);
      holds = λ e. absurd (impossible e);
      worked = counted-work s.args.most nothing_yet s.args.r (none-worked s.args.most) v.few-steps v.few-cells;
      room = omega (arith, few-twigs s.args.ns s.requires.needed.few (instance_of u.unpriced-q.result));
    })

from-ray-requires : tie.Need-from_ray-requires
from-ray-requires c κs = search rules

returns : tie.Need-returns-then-broken-ns
returns c =
    let b = c.before in
    let u = b.before.before in
    let s = start u.before.before in
    let a = s.args.r.answer in
    let i = instance_of s.args.p in
    let ns = needs_of s.args.ns in
    let most = s.args.most in
    let one = counted_of nothing_yet s.args.r in
    let q : Through (instance_of u.unpriced-q.result) ns most one b.branch-b.result =
    subst (λ x. Through (instance_of u.unpriced-q.result) ns most x b.branch-b.result) (one-case u.before) b.branch-b.ensures.0 in
    let th : Through (worthless i) ns most one b.branch-b.result = subst (λ x. Through x ns most one b.branch-b.result) (q-is u) q in
    let t = c.from_ray.ensures in
    let n = u.before.before in
    let f = (asked n).first_broken-broken in
    let v = b.solve_case in
    let some : 1 ≤ s.args.ns.count = omega (arith, n.if-broken-ns.true) in
    let w = few-work {n = most_cases ns} (omega (arith, cases-ray (worthless i) s.args.ns some)) th.worked in (
      record {
        answers = ray-answers i ns b.branch-b.result c.from_ray.result.answer s.requires.needed.allowed a (shown s) th.worth th.holds
            t.found t.none;
        first = ray-first i ns b.branch-b.result c.from_ray.result.answer s.requires.needed.allowed a (shown s) t.found t.none;
        few-steps = omega (arith, t.steps, w.0);
        few-cells = omega (arith, t.cells, w.1);
      },
      moves f.result u.unpriced-q.result v.result c.from_ray.result b.branch-b.result f.ensures n.if-broken-ns.true
          u.unpriced-q.ensures v.ensures
          (subst (λ x. CasesTake s.args.ns most u.unpriced-q.result v.result x b.branch-b.result) (one-case u.before) b.branch-b.ensures.1) t,
    )

returns-2 : tie.Need-returns
returns-2 c =
    let f = c.before.before in
    let s = f.before.before.before in
    let a = s.args.r.answer in
    let i = instance_of s.args.p in
    let ns = needs_of s.args.ns in
    let e = f.first_broken-broken.ensures in
    let all : f.first_broken-broken.result ≡ s.args.ns.count = omega (arith, e.most, c.if-broken-ns.false) in
    let kept = every-kept s.args.ns i a s.requires.needed.allowed (shown s).unbounded.from (λ j m. e.kept j (omega (arith, all, m))) in (
      record {
        answers = ray-kept i ns nothing_yet a s.requires.needed.allowed a (shown s) s.requires.kind-is kept;
        first = no-first i ns a s.requires.kind-is;
        few-steps = omega (arith, s.requires.solved.few-steps, mul-le-mul_right s.args.most (cases-some ns));
        few-cells = omega (arith, s.requires.solved.few-cells, cases-some ns);
      },
      stands (subst (FirstBroken a.point s.args.ns) all e),
    )

pub solve_ray_spec : {M : Type 1} → statement M
solve_ray_spec =
    tie.close
    (tie.spec
    first-broken-requires
    nothing-yet-requires
    counted-requires
    unpriced-requires
    solve-case-requires
    branch-requires
    from-ray-requires
    returns
    returns-2)
