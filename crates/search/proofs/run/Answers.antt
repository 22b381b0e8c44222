use Rattle.std.proofs.Common.{rules, ◌∙◌, ◌+◌, ◌≤◌, arith}
use Rattle.setting.specs.Box.{Long}
use Rattle.search.specs.Steps.{Underway}
use Rattle.search.proofs.Finish.{underway-first, filled-first, covered-first, underway-ran, filled-ran, covered-ran, ran-steps, searched}
use Rattle.search.proofs.run.Goals.{After-start-q}
use Rattle.search.proofs.run.Goals as goal

long : (c : After-start-q) → Long c.args.s.ends
long c = record { lo-long = search rules; hi-long = search rules }

first : (c : After-start-q) → Underway c.args.s c.args.p c.start-q.result
first c = underway-first c.args.s c.args.p c.requires (long c) c.start-q.result c.start-q.ensures

pub run_for-requires : goal.run_for-requires
run_for-requires c = first (goal.at.run_for-requires c).After-start-q

pub returns : goal.returns
returns c =
    let a = c.args in
    let b = (goal.at.returns c).After-start-q in
    let q = c.start-q.result in
    let e = c.run_for.ensures in
    let fits : q.steps + e.count ≤ 18446744073709551615 = omega (arith, c.start-q.ensures.no_steps, e.few, c.ranges.most) in
    let u = underway-ran a.s a.p q (first b) e.count c.run_for.result e.ran in
    record {
      stops = record {
        start = q;
        begun = c.start-q.ensures;
        runs = e;
        steps-are = ran-steps a.s a.p q e.count c.run_for.result fits e.ran ∙ omega (arith, c.start-q.ensures.no_steps);
      };
      good = u.good;
      filled = filled-ran a.s a.p q (first b) (filled-first a.s a.p c.requires (long b) q c.start-q.ensures) e.count c.run_for.result e.ran;
      searched = searched a.s a.p c.run_for.result u (λ marks m. covered-ran a.s a.p q (first b) marks m
          (covered-first a.s a.p c.requires (long b) q c.start-q.ensures marks m) e.count c.run_for.result e.ran);
    }
