use Rattle.std.proofs.Common.{◌≡◌, ap, ◌∙◌, rules, arith}
use Rattle.knapsack.specs.Items.{with_item}
use Rattle.planner.proofs.Ends.{unpriced-none, unpriced-more}
use Rattle.planner.proofs.unpriced.Goals as goal

pub loop-k-init : goal.loop-k-init
loop-k-init c = unpriced-none c.args.p (search rules)

pub loop-k-preserved : goal.loop-k-preserved
loop-k-preserved c =
    let k = c.loop-k.k in
    let q = c.with_item-q.ensures ∙ ap (with_item c.loop-k.q k) c.unpriced_item.ensures in
    rw q (unpriced-more c.args.p c.loop-k.q k (omega arith) c.loop-k.invariant)

pub returns : goal.returns
returns c = let e : c.loop-k.k ≡ 16 = omega arith in rw e at c.loop-k.invariant
