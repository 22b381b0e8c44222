-- What is solved is the relaxation, with its needs: the record's own items are made continuous.
use mathlib.Core.Path.{subst}
use Rattle.knapsack.specs.declared.Problem.{Problem}
use Rattle.knapsack.specs.Meaning.{instance_of}
use Rattle.model.specs.Needs.{relaxed_but}
use Rattle.model.specs.Records.{plain_of, needs_of}
use Rattle.model.proofs.SameNeeds.{same-answers-needs}
use Rattle.planner.proofs.Breaking.{needed-placed, needed}
use Rattle.relaxation.specs.Lent.{Loosened}
use Rattle.relaxation.proofs.Loose.{loosened-same, loosened-needed}
use Rattle.relaxation.proofs.relaxed_answer.Goals as goal

pub named_of-requires : goal.named_of-requires
named_of-requires c = needed-placed c.args.m.needs (plain_of c.args.sense c.args.m) (needed c.args.sense c.args.m c.requires)

pub solve_needs-requires : goal.solve_needs-requires
solve_needs-requires c =
    let a = c.args in
    let n = c.named_of in
    let q = c.loosen-q in
    loosened-needed a.sense a.m c.requires n.result n.ensures q.result
    (subst (λ (p : Problem). Loosened p n.result p.count q.result) c.plain_of.ensures q.ensures)

pub returns : goal.returns
returns c =
    let a = c.args in
    let n = c.named_of in
    let q = c.loosen-q in
    let l : Loosened (plain_of a.sense a.m) n.result a.m.count q.result =
    subst (λ (p : Problem). Loosened p n.result p.count q.result) c.plain_of.ensures q.ensures in
    same-answers-needs (instance_of q.result) (relaxed_but (needs_of a.m.needs) (instance_of (plain_of a.sense a.m)))
    (loosened-same a.sense a.m c.requires n.result n.ensures q.result l) (needs_of a.m.needs) c.solve_needs.result.answer c.solve_needs.ensures.solves_needs.answers
