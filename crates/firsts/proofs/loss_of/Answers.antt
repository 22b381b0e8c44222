use Rattle.std.proofs.Common.{refl}
use Rattle.arith.proofs.Parts.{within-back}
use Rattle.firsts.proofs.Places.{tied-sized}
use Rattle.firsts.proofs.Worth.{fair, losing-made}
use Rattle.firsts.proofs.loss_of.Goals as goal

pub top_of-top-requires : goal.top_of-top-requires
top_of-top-requires c =
    (tied-sized c.args.s c.args.c c.requires.0, (c.price_of-price.ensures.p-in, c.price_of-price.ensures.q-in))

pub lost-num-requires : goal.lost-num-requires
lost-num-requires c =
    let r = c.price_of-price in
    let top = c.top_of-top.ensures in
    rw (within-back tt top.1) (
      r.ensures.q-in,
      (top.1, (c.requires.1.proper, fair c.args.s c.args.c c.requires.0 c.args.v c.requires.1 r.result r.ensures c.top_of-top.result top.0)),
    )

pub returns : goal.returns
returns c =
    let top = c.top_of-top.ensures in
    let e = rw (within-back tt top.1) at c.lost-num.ensures in
    rw (within-back tt top.1) (
      losing-made c.args.s c.args.c c.requires.0 c.args.v c.requires.1 _ c.price_of-price.ensures top.0 top.1
          (record { den-is = refl; num-is = e.0 }) e.1,
      record { den-is = refl; num-is = e.0 },
    )
