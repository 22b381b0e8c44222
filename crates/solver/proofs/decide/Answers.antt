use Rattle.std.proofs.Common.{arith, refl, subst}
use Rattle.arith.proofs.Parts.{within-back}
use Rattle.arith.proofs.Words.{yes_lt, no_lt}
use Rattle.knapsack.specs.declared.Kind.TheVariants as kind
use Rattle.prepare.specs.Narrowing.{Narrowed}
use Rattle.prepare.proofs.Nearer.{reach-small, narrowed-prepared}
use Rattle.solver.proofs.Outcomes.{infeasible-corner, corner-feasible-at, unbounded-corner, not-unbounded, not-infeasible}
use Rattle.solver.proofs.Values.{begun-within}
use Rattle.solver.proofs.decide.Goals as goal

pub returns-then-f-lt0-clause-solves_within : goal.returns-then-f-lt0-clause-solves_within
returns-then-f-lt0-clause-solves_within c =
    let q = c.prepare-s.ensures in
    let s = c.prepare-s.result in
    let t = rw (c.begin-f.ensures, within-back tt (begun-within s.cols s.ends q.ready.sized)) at c.if-f-lt0.true in
    rw (c.with_work.ensures, c.no_point-a.ensures) (record {
      answers = infeasible-corner c.args.p c.requires s q (yes_lt t);
      first = λ low e. absurd (not-infeasible kind.Infeasible refl e);
      few-steps = omega arith;
      few-cells = omega arith;
    })

pub returns-in-Some-clause-solves_within : goal.returns-in-Some-clause-solves_within
returns-in-Some-clause-solves_within c =
    let q = c.prepare-s.ensures in
    let s = c.prepare-s.result in
    let t = rw (c.begin-f.ensures, within-back tt (begun-within s.cols s.ends q.ready.sized)) at c.if-f-lt0.false in
    rw c.with_work-in-Some.ensures (record {
      answers = unbounded-corner c.args.p c.requires s q c.find_ray.result c.in-Some.steps c.unbounded.result (no_lt t) c.find_ray.ensures
          c.in-Some.is c.unbounded.ensures;
      first = λ low e. absurd (not-unbounded c.unbounded.result.kind c.unbounded.ensures.kind-is e);
      few-steps = omega arith;
      few-cells = omega arith;
    })

pub narrowed-near-requires : goal.narrowed-near-requires
narrowed-near-requires c = (c.prepare-s.ensures.ready, rw c.reach_of.ensures (reach-small c.args.p c.requires))

pub answered-requires : goal.answered-requires
answered-requires c =
    let q = c.prepare-s.ensures in
    let s = c.prepare-s.result in
    let t = rw (c.begin-f.ensures, within-back tt (begun-within s.cols s.ends q.ready.sized)) at c.if-f-lt0.false in (
      record {
        range = c.requires;
        prepared = narrowed-prepared c.args.p c.requires s c.narrowed-near.result q
            (subst (λ r. Narrowed s r c.narrowed-near.result) c.reach_of.ensures c.narrowed-near.ensures);
        no-ray = c.find_ray.ensures.none c.in_default.is;
        point = _;
        feasible = corner-feasible-at c.args.p c.requires s q (no_lt t);
      },
      c.pairs_of-pairs.ensures,
    )
