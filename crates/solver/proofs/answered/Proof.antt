-- `solver::answered` meets its contract: at its end the search has found the first best point, before it the scales find it.
use mathlib.Core.Path.{refl, sym, subst}
use Prim.Native.Nat.{◌+◌}
use native.Mathlib.Omega.{arith}
use borrow.Author.Rules.{rules}
use Rattle.greedy.specs.declared.Columns.{Columns}
use Rattle.knapsack.specs.Meaning.{instance_of, AnswersAs}
use Rattle.search.specs.Searched.{Searches}
use Rattle.search.specs.Tying.{with_cols, ReadySearch}
use Rattle.setting.specs.Box.{Long}
use Rattle.setting.specs.declared.Setting.{Setting}
use Rattle.solver.specs.Outcomes.{Walked, WorkOf, ended, stopped, Scaled}
use Rattle.solver.proofs.Cells.{work-most}
use Rattle.solver.proofs.Ended.{own-spanned, tied-search, ended-inside, ended-shown, ended-shown-first}
use Rattle.solver.proofs.Scales.{stopped-stands}
use Rattle.solver.proofs.answered.Statement.{statement}
use Rattle.solver.proofs.answered.Tie as tie

with-tied-requires : tie.Need-with_tied-t-requires
with-tied-requires c κs = search rules

run-requires : tie.Need-run-q-requires
run-requires c κs =
    let s = c.before in
    let t = c.with_tied-t in
    subst (λ (z : Setting). ReadySearch z s.args.pairs) (sym t.ensures.same)
    (tied-search s.args.p s.args.s s.requires.0 s.args.named s.args.pairs s.requires.1 t.result.cols t.ensures.tied)

-- what the function was given, and the tied columns
abbrev start : tie.After-run-q → tie.Start
start m = m.before.before

abbrev cols : tie.After-run-q → Columns
cols m = m.with_tied-t.result.cols

-- arrays have a place for each item
long : (m : tie.After-run-q) → Long (start m).args.s.ends
long m = m.with_tied-t.ensures.long

searches : (m : tie.After-run-q) → Searches (with_cols (start m).args.s (cols m)) (start m).args.pairs (start m).args.most m.run-q.result
searches m = let s = start m in
    subst (λ (z : Setting). Searches z s.args.pairs s.args.most m.run-q.result) m.with_tied-t.ensures.same m.run-q.ensures

walked : (m : tie.After-run-q) → Walked (start m).args.most (start m).args.p (start m).args.named m.run-q.result.steps
walked m = let s = start m in record {
  setting = s.args.s;
  prepared = s.requires.0.prepared;
  pairs = s.args.pairs;
  pairs-are = s.requires.1;
  cols = cols m;
  tied = m.with_tied-t.ensures.tied;
  end = m.run-q.result;
  stops = (searches m).stops;
  steps-are = refl;
}

abbrev ran : tie.Then-q → tie.After-run-q
ran c = c.before.before.before

optimal-requires : tie.Need-optimal-a-requires
optimal-requires c κs =
    let e = c.before in
    let m = ran e in
    let s = start m in
    let h = s.requires.0 in
    let t = m.with_tied-t.ensures.tied in (
      h.prepared.ready,
      (
        t.sized,
        ended-inside s.args.p s.args.s h (long m) (cols m) t m.run-q.result.best ((searches m).searched e.if-q.true) (searches m).filled,
      ),
    )

with-work-requires : tie.Need-with_work-requires
with-work-requires c κs = search rules

returns : tie.Need-returns-then-q
unfolding walked
returns c =
    let o = c.before in
    let e = o.before.before in
    let m = ran e in
    let s = start m in
    let p = s.args.p in
    let h = s.requires.0 in
    let t = m.with_tied-t.ensures.tied in
    let q = searches m in
    let g = q.searched e.if-q.true in
    let a = o.optimal-a.result in
    let k = o.optimal-a.ensures in
    let scaled : Scaled s.args.most p s.args.named 0 = record { steps = m.run-q.result.steps; walked = walked m; writes = ended e.if-q.true } in
    rw c.with_work.ensures (record {
      kind-is = k.kind-is;
      solves = record {
        answers = subst (AnswersAs (instance_of p) a) (sym k.kind-is)
            (ended-shown p s.args.s h (long m) (cols m) t m.run-q.result.best g q.filled a k);
        first = ended-shown-first p s.args.s h (long m) (cols m) t m.run-q.result.best g q.filled a k;
        few-steps = omega (arith, q.stops.steps-are, q.stops.runs.few);
        few-cells = omega arith;
      };
      walked = walked m;
      scaled = scaled;
    })

abbrev left : tie.Else-q → tie.After-run-q
left c = c.before.before.before

settled-requires : tie.Need-settled-b-requires
settled-requires c κs =
    let m = left c in
    let s = start m in
    let h = s.requires.0 in (
      h.prepared.ready,
      (
        own-spanned s.args.p s.args.s h,
        stopped-stands s.args.s h.prepared.ready (cols m) m.with_tied-t.ensures.tied (long m) m.run-q.result.best (searches m).filled,
      ),
    )

by-scales-requires : tie.Need-by_scales-f-requires
by-scales-requires c κs = let m = left c.before in let s = start m in (s.requires.0, (long m, c.settled-b.ensures.0))

-- what the scales wrote
work : (f : tie.After-by_scales-f) → let m = left f.before.before in
    WorkOf (start m).args.p (start m).args.s m.run-q.result (f.settled-b.result.written + f.by_scales-f.result.cells)
work f =
    let b = f.before in
    let e = b.before in
    stopped b.settled-b.result.first b.settled-b.result.written f.by_scales-f.result.cells e.if-q.false b.settled-b.ensures.1
    f.by_scales-f.ensures.writes

add-cells : tie.Need-overflow_add-cells
add-cells c = let f = c.before.before.before in record { fits = omega (arith, work-most (work f)) }

with-work-requires-2 : tie.Need-with_work-requires-2
with-work-requires-2 c κs = search rules

returns-2 : tie.Need-returns
unfolding walked
returns-2 c =
    let f = c.before.before.before.before in
    let m = left f.before.before in
    let s = start m in
    let p = s.args.p in
    let q = searches m in
    let h = f.by_scales-f.ensures in
    let z = f.by_scales-f.result.answer in
    rw c.with_work-2.ensures (record {
      kind-is = h.kind-is;
      solves = record {
        answers = subst (AnswersAs (instance_of p) z) (sym h.kind-is) h.shown;
        first = h.first;
        few-steps = omega (arith, q.stops.steps-are, q.stops.runs.few);
        few-cells = work-most (work f);
      };
      walked = walked m;
      scaled = record { steps = m.run-q.result.steps; walked = walked m; writes = work f };
    })

pub answered_spec : {M : Type 1} → statement M
answered_spec =
    tie.close
    (tie.spec
    with-tied-requires
    run-requires
    optimal-requires
    with-work-requires
    returns
    settled-requires
    by-scales-requires
    add-cells
    with-work-requires-2
    returns-2)
