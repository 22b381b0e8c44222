use Rattle.std.proofs.Common.{refl}
use Rattle.greedy.specs.Fill.{at}
use Rattle.knapsack.specs.declared.Answer.{Answer}
use Rattle.placed.specs.Placed.{kept, placed}
use Rattle.placed.proofs.Firstly.{first-optimal, first-foremost}
use Rattle.placed.proofs.shown_first.Goals as goal

pub returns-then-all_lower : goal.returns-then-all_lower
returns-then-all_lower c =
    let a = c.args in
    let h = c.requires.showable in
    let low = c.all_lower.ensures.all c.if-all_lower.true in
    let r = c.first_lead-l.result in
    let b = c.first_lead-l.ensures.first_best in
    let z : Answer = record { kind = a.a.kind; point = r.point; steps = a.a.steps; value = a.a.value } in
    rw (c.placed_at.ensures, c.with_point.ensures) (record {
      kind-is = h.kind-is;
      shown = first-optimal a.p a.s (at a.x) a.a h low r b z refl refl refl;
      first = λ _ e. first-foremost a.p a.s (at a.x) a.a h low r b z refl refl refl;
      writes = placed a.s (at a.x) r.written low h.prepared h.optimal-at c.first_lead-l.ensures.point_writes;
    })

pub returns : goal.returns
returns c =
    let h = c.requires.showable in
    rw c.placed_at-2.ensures (record {
      kind-is = h.kind-is;
      shown = h.shown;
      first = λ low i. absurd (c.all_lower.ensures.some c.if-all_lower.false low);
      writes = kept (c.all_lower.ensures.some c.if-all_lower.false);
    })
