use Rattle.std.proofs.Common.{◌≡◌, arith}
use Rattle.arith.proofs.Parts.{within-back}
use Rattle.arith.proofs.Words.{back}
use Rattle.greedy.specs.Fill.{numerator}
use Rattle.search.proofs.Amounts.{counted-none, counted_step}
use Rattle.search.proofs.Orders.{point-once}
use Rattle.search.proofs.ahead.amounts_over.Goals as goal

pub loop-k-init : goal.loop-k-init
loop-k-init c = counted-none (numerator c.args.c c.args.e c.args.f c.args.q)

pub amount_over-requires : goal.amount_over-requires
amount_over-requires c =
    let l = c.requires.sized.ends.lo-in c.loop-k.k in
    let h = c.requires.sized.ends.hi-in c.loop-k.k in
    rw (within-back tt l, within-back tt h) (l, (h, (c.requires.filled.room_in, c.requires.few)))

pub loop-k-preserved : goal.loop-k-preserved
loop-k-preserved c =
    let z = c.requires.sized in
    let k = c.loop-k.k in
    let e = rw (
      within-back tt (z.columns.weights-in k),
      within-back tt (z.columns.prices-in k),
      within-back tt (z.ends.lo-in k),
      within-back tt (z.ends.hi-in k),
    ) at c.amount_over.ensures in
    rw (back c.amount_over.result c.amount_over.type_inv, e) (counted_step _ k c.loop-k.to (omega (arith, z.columns.few)) c.loop-k.invariant)

pub returns : goal.returns
returns c =
    let n : c.loop-k.k ≡ c.args.c.count = omega arith in
    let g = c.loop-k.invariant in
    point-once c.args.c c.args.e c.args.f c.args.q c.requires.sized.columns.few c.loop-k.to g.long (λ j m. g.counted j (omega (arith, n)))
    (λ j m. g.beyond j (omega (arith, n)))
