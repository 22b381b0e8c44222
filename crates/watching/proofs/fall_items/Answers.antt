use Rattle.std.proofs.Common.{◌≡◌, ◌∙◌, get_or, refl, ap, arith}
use Rattle.knapsack.specs.Items.{with_item}
use Rattle.watching.specs.Watching.{fall_item}
use Rattle.watching.proofs.Watching.{items-none, items_more}
use Rattle.watching.proofs.fall_items.Goals as goal

pub loop-k-init : goal.loop-k-init
loop-k-init c = items-none c.args.of c.args.n _ refl c.blank_items.ensures

pub fall_item-requires : goal.fall_item-requires
fall_item-requires c = c.requires.1 c.loop-k.k

pub loop-k-preserved : goal.loop-k-preserved
loop-k-preserved c =
    let l = c.loop-k in
    let of = c.args.of in
    let q : c.with_item-p.result ≡ with_item l.p l.k (fall_item (get_or of l.k 0)) = c.with_item-p.ensures ∙ ap (with_item l.p l.k) c.fall_item.ensures in
    rw q (items_more of c.args.n l.k l.p (omega arith) l.invariant)

pub returns : goal.returns
returns c =
    let e : c.loop-k.k ≡ c.args.n = omega arith in
    rw e at c.loop-k.invariant
