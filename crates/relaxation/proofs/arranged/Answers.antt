use mathlib.Core.Path.{◌≡◌, refl, ap, ◌∙◌, subst}
use native.Mathlib.Omega.{arith}
use borrow.Author.Rules.{rules}
use lib.ListN.{get_or}
use Rattle.knapsack.specs.Ranges.{item_at as plain_item}
use Rattle.knapsack.specs.declared.Problem.{Problem}
use Rattle.model.specs.declared.Model.{Model}
use Rattle.model.specs.Records.{item_at}
use Rattle.model.specs.Setters.{with_item}
use Rattle.ordering.specs.Ranking.{Sorted}
use Rattle.relaxation.proofs.Loose.{ranged}
use Rattle.relaxation.proofs.Placed.{placed, place-more, place-all}
use Rattle.relaxation.proofs.arranged.Goals as goal

pub rank-ranking-requires : goal.rank-ranking-requires
rank-ranking-requires c = rw c.plain_of.ensures (ranged _ c.requires)

pub loop-u-init : goal.loop-u-init
loop-u-init c = record {
  few = c.requires.few-items;
  sized = search rules;
  long = search rules;
  sorted = subst (λ (p : Problem). Sorted (plain_item p) p.count c.rank-ranking.result.at) c.plain_of.ensures c.rank-ranking.ensures;
  placed = refl;
}

pub loop-u-preserved : goal.loop-u-preserved
loop-u-preserved c =
    let m = c.args.m in
    let at = c.rank-ranking.result.at in
    let i = c.loop-u.invariant in
    let u = c.loop-u.u in
    record {
      few = i.few;
      sized = i.sized;
      long = i.long;
      sorted = i.sorted;
      placed = c.with_item-q.ensures ∙ ap (λ (q : Model). with_item q u (item_at m (get_or at u 0))) i.placed
          ∙ place-more m at u (omega (arith, i.long)) (omega (arith, i.sized));
    }

pub returns : goal.returns
returns c =
    let a = c.args in
    let at = c.rank-ranking.result.at in
    let e : c.loop-u.u ≡ a.m.count = omega arith in
    c.loop-u.invariant.placed ∙ ap (placed a.m at) e ∙ place-all a.sense a.m at c.loop-u.invariant.sorted
