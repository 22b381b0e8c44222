use Rattle.std.proofs.Common.{◌≡◌, sym, ap, arith, pos, false}
use lib.Signed.{lt_z}
use Rattle.arith.proofs.Parts.{within_more, within-back}
use Rattle.greedy.specs.declared.Columns.{Columns}
use Rattle.greedy.specs.declared.Ends.{Ends}
use Rattle.greedy.specs.declared.Fill.{Fill}
use Rattle.greedy.specs.Fill.{unranked, item_of, begun, fill, fill_from}
use Rattle.greedy.specs.Sized.{Sized}
use Rattle.greedy.proofs.Filling.{begin-filling, more-filling, filling-short, filling-through}
use Rattle.greedy.proofs.Sizes.{width-within}
use Rattle.greedy.proofs.fill_in.Goals as goal

-- where the box is not empty
entered : (c : Columns) (e : Ends) (f : Fill) → lt_z (begun c e).room (pos 0) ≡ false → f ≡ fill_from c e c.live (begun c e) → f ≡ fill c e
unfolding fill
entered c e f t h = rw t h

pub returns-then-f-lt0 : goal.returns-then-f-lt0
unfolding fill
returns-then-f-lt0 c =
    let begins = rw (within-back tt c.requires.columns.capacity-in) at c.begin_in-f.ensures in
    let w : Columns = unranked c.args.weight.now c.args.price.now c.args.order.now c.args.size.now c.args.rate.now c.args.live c.args.n c.args.capacity in
    let e : Ends = record { lo = c.args.lo.now; hi = c.args.hi.now } in
    let t = rw (begins, within-back tt (begin-filling w e c.requires).room_in) at c.if-f-lt0.true in
    rw (begins, t)

pub loop-u-init : goal.loop-u-init
loop-u-init c =
    let begins = rw (within-back tt c.requires.columns.capacity-in) at c.begin_in-f.ensures in
    let w : Columns = unranked c.args.weight.now c.args.price.now c.args.order.now c.args.size.now c.args.rate.now c.args.live c.args.n c.args.capacity in
    let e : Ends = record { lo = c.args.lo.now; hi = c.args.hi.now } in
    (ap (λ (f : Fill). f.at) begins, rw (begins, within-back tt c.requires.columns.capacity-in) (begin-filling w e c.requires))

pub raise-requires : goal.raise-requires
raise-requires c =
    let w : Columns = unranked c.args.weight.now c.args.price.now c.args.order.now c.args.size.now c.args.rate.now c.args.live c.args.n c.args.capacity in
    let e : Ends = record { lo = c.args.lo.now; hi = c.args.hi.now } in
    let z : Sized w e = c.requires in
    let u = c.loop-u.u in
    let k = item_of w u in
    let i = rw (within-back tt z.columns.capacity-in) at c.loop-u.invariant in
    let wide = width-within w e z u in
    rw (
      within-back tt (z.columns.sizes-in u),
      within-back tt (z.columns.rates-in u),
      within-back tt (z.ends.hi-in k),
      within-back tt (z.ends.lo-in k),
      within-back tt wide,
    ) (record {
      rank-in = omega (arith, z.columns.live-few);
      room_in = within_more (omega (arith, z.columns.live-few)) i.1.room_in;
      worth-in = within_more (omega (arith, z.columns.live-few)) i.1.worth-in;
      size_in = z.columns.sizes-in u;
      rate-in = z.columns.rates-in u;
      wide-in = wide;
    })

pub returns-in-None : goal.returns-in-None
returns-in-None c =
    let w : Columns = unranked c.args.weight.now c.args.price.now c.args.order.now c.args.size.now c.args.rate.now c.args.live c.args.n c.args.capacity in
    let e : Ends = record { lo = c.args.lo.now; hi = c.args.hi.now } in
    let z : Sized w e = c.requires in
    let u = c.loop-u.u in
    let i = rw (within-back tt z.columns.capacity-in) at c.loop-u.invariant in
    let k = item_of w u in
    let begins = rw (within-back tt z.columns.capacity-in) at c.begin_in-f.ensures in
    let t = rw (begins, within-back tt (begin-filling w e z).room_in) at c.if-f-lt0.false in
    let stops = rw (
      within-back tt (z.columns.sizes-in u),
      within-back tt (z.columns.rates-in u),
      within-back tt (z.ends.hi-in k),
      within-back tt (z.ends.lo-in k),
      within-back tt (width-within w e z u),
      ← c.loop-u.invariant.0,
    ) at c.in-None.ensures in
    entered w e c.loop-u.f t (filling-short w e c.loop-u.f (sym stops) i.1)

pub loop-u-preserved : goal.loop-u-preserved
loop-u-preserved c =
    let w : Columns = unranked c.args.weight.now c.args.price.now c.args.order.now c.args.size.now c.args.rate.now c.args.live c.args.n c.args.capacity in
    let e : Ends = record { lo = c.args.lo.now; hi = c.args.hi.now } in
    let z : Sized w e = c.requires in
    let u = c.loop-u.u in
    let i = rw (within-back tt z.columns.capacity-in) at c.loop-u.invariant in
    let k = item_of w u in
    let fits = rw (
      within-back tt (z.columns.sizes-in u),
      within-back tt (z.columns.rates-in u),
      within-back tt (z.ends.hi-in k),
      within-back tt (z.ends.lo-in k),
      within-back tt (width-within w e z u),
      ← c.loop-u.invariant.0,
    ) at c.in-Some.ensures in
    let more = more-filling w e c.loop-u.f c.in-Some.g z (omega arith) (sym fits) i.1 in
    rw (within-back tt z.columns.capacity-in) (omega (arith, more.0), more.1)

pub returns : goal.returns
returns c =
    let w : Columns = unranked c.args.weight.now c.args.price.now c.args.order.now c.args.size.now c.args.rate.now c.args.live c.args.n c.args.capacity in
    let e : Ends = record { lo = c.args.lo.now; hi = c.args.hi.now } in
    let z : Sized w e = c.requires in
    let begins = rw (within-back tt z.columns.capacity-in) at c.begin_in-f.ensures in
    let t = rw (begins, within-back tt (begin-filling w e z).room_in) at c.if-f-lt0.false in
    entered w e c.loop-u.f t (filling-through w e c.loop-u.f (omega arith) (rw (within-back tt z.columns.capacity-in) at c.loop-u.invariant).1)
