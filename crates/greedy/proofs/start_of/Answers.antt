use Rattle.std.proofs.Common.{◌≡◌, ◌∙◌}
use Rattle.arith.proofs.Parts.{within-back}
use Rattle.arith.proofs.Words.{back}
use Rattle.greedy.specs.declared.Columns.{Columns}
use Rattle.greedy.specs.declared.Ends.{Ends}
use Rattle.greedy.specs.Fill.{columns_of, start, fill}
use Rattle.greedy.proofs.Lent.{unranked-fill}
use Rattle.greedy.proofs.Sizes.{fill-sized}
use Rattle.greedy.proofs.start_of.Goals as goal

pub rounded-requires : goal.rounded-requires
rounded-requires c =
    let w : Columns =
    columns_of c.args.weight.now c.args.price.now c.args.order.now c.args.rank.now c.args.size.now c.args.rate.now c.args.live c.args.n c.args.capacity in
    let e : Ends = record { lo = c.args.lo.now; hi = c.args.hi.now } in
    let k = c.args.k in
    let z = c.requires.0 in
    let filled : c.fill_in-f.result ≡ fill w e = rw (within-back tt z.columns.capacity-in) at c.fill_in-f.ensures ∙ unranked-fill w e in
    rw (within-back tt (z.ends.lo-in k), within-back tt (z.ends.hi-in k), filled)
    (record { low-in = z.ends.lo-in k; high-in = z.ends.hi-in k; room_in = (fill-sized w e z).room_in })

pub returns : goal.returns
unfolding start
returns c =
    let w : Columns =
    columns_of c.args.weight.now c.args.price.now c.args.order.now c.args.rank.now c.args.size.now c.args.rate.now c.args.live c.args.n c.args.capacity in
    let e : Ends = record { lo = c.args.lo.now; hi = c.args.hi.now } in
    let k = c.args.k in
    let z = c.requires.0 in
    let filled : c.fill_in-f.result ≡ fill w e = rw (within-back tt z.columns.capacity-in) at c.fill_in-f.ensures ∙ unranked-fill w e in
    back c.rounded.result c.rounded.type_inv ∙ (rw (
      within-back tt (z.columns.weights-in k),
      within-back tt (z.columns.prices-in k),
      within-back tt (z.ends.lo-in k),
      within-back tt (z.ends.hi-in k),
      filled,
    ) at c.rounded.ensures)
