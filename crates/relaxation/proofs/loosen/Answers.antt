use Rattle.std.proofs.Common.{◌≡◌, ◌∙◌, get_or, ap, false, arith, rules}
use lib.ListN.{length-set}
use Rattle.knapsack.specs.Items.{with_item}
use Rattle.knapsack.specs.Ranges.{item_at}
use Rattle.relaxation.specs.Lent.{loose}
use Rattle.relaxation.proofs.Loose.{loosened-none, loosened-more}
use Rattle.relaxation.proofs.loosen.Goals as goal

pub loop-k-init : goal.loop-k-init
loop-k-init c = record { sized = search rules; loosened = loosened-none c.args.p c.args.named }

pub loop-k-preserved : goal.loop-k-preserved
loop-k-preserved c =
    let p = c.args.p in
    let named = c.args.named in
    let l = c.loop-k in
    let q : c.with_item-q.result ≡ with_item l.q l.k (loose (get_or named l.k false) (item_at p l.k))
    = c.with_item-q.ensures ∙ ap (with_item l.q l.k) c.loose_item.ensures in
    rw q (record {
      sized = simp length-set l.invariant.sized;
      loosened = loosened-more p l.q named l.k (omega (arith, l.invariant.sized)) l.invariant.loosened;
    })

pub returns : goal.returns
returns c =
    let e : c.loop-k.k ≡ c.args.p.count = omega arith in
    rw e at c.loop-k.invariant.loosened
