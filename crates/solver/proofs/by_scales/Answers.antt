use Rattle.std.proofs.Common.{◌∙◌, sym, ap, subst, replicate, pos, Option, List, ℤ}
use Rattle.std.specs.Prelude.{unwrap_or}
use Rattle.greedy.specs.Fill.{at}
use Rattle.placed.specs.Placed.{Showable}
use Rattle.setting.specs.Box.{Inside}
use Rattle.settling.specs.Settling.{FirstPlace}
use Rattle.solver.specs.Outcomes.{Best}
use Rattle.solver.proofs.Ended.{scales-found, scales-inside, scales-showable}
use Rattle.solver.proofs.by_scales.Goals as goal

pub optimal-a-requires : goal.optimal-a-requires
optimal-a-requires c =
    let a = c.args in
    let q = c.requires in
    let r = q.0.prepared.ready in (
      r,
      (
        r.sized.columns,
        subst (λ x. Inside a.s (at x)) (sym c.unwrap_or-x.ensures)
            ((scales-inside a.p a.s q.0 q.1.0 a.t q.1.1).inside (scales-found a.p a.s q.0 q.1.0 a.t q.1.1)),
      ),
    )

pub shown_first-requires : goal.shown_first-requires
shown_first-requires c =
    let a = c.args in
    let q = c.requires in
    let e = c.unwrap_or-x.ensures in
    record {
      showable = subst (λ x. Showable a.p a.s (at x) c.optimal-a.result) (sym e)
          (scales-showable a.p a.s q.0 q.1.0 a.t q.1.1 c.optimal-a.result (subst (λ x. Best a.s a.s.cols x c.optimal-a.result) e c.optimal-a.ensures));
      first_place = λ i. let f = q.1.1.first i in subst (λ x. FirstPlace a.s.cols a.s.ends a.s.level a.s.levels 1 (at x))
          (sym (e ∙ ap (λ (o : Option (List ℤ)). unwrap_or o (replicate 16 (pos 0))) f.1)) f.2;
    }
