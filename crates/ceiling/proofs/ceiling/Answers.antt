use Rattle.arith.proofs.Words.{back}
use Rattle.arith.proofs.Parts.{within-back}
use Rattle.ceiling.proofs.Framing.{ordered-ranked}
use Rattle.ceiling.proofs.Shallow.{shallow}
use Rattle.ceiling.proofs.Limits.{bounded-made}
use Rattle.ceiling.proofs.ceiling.Goals as goal

pub known_loss-k-requires : goal.known_loss-k-requires
known_loss-k-requires c =
    let t = c.top_of-top.ensures in
    rw (within-back tt t.1) (t.1, (c.price_of-c.ensures.q-in, λ i. let v = c.requires.sized.1.1.1.1 i in (v.low, v.few)))

pub least_loss-b-requires : goal.least_loss-b-requires
least_loss-b-requires c =
    let pr = c.price_of-c.ensures in
    let z = c.requires.sized in
    record {
      ready = (
        record { sized = z.0; ranked = ordered-ranked c.args.cols z.1.0; in_order = z.1.1.0; p-in = pr.p-in; q-in = pr.q-in },
        c.requires.spanned.0,
      );
      counted = (c.known_loss-k.ensures.loss.counted, (c.requires.spanned.1, z.1.0));
    }

pub returns : goal.returns
returns c =
    let a = c.args in
    let z = c.requires.sized in
    let pr = c.price_of-c in
    let t = c.top_of-top in
    let low = shallow a.cols a.ends z.1.0 z.1.1.0 z.1.1.1.0 pr.result.p pr.result.q pr.ensures.p-is pr.ensures.q-is
    pr.ensures.p-in pr.ensures.q-in pr.ensures.q≥1 in
    rw (within-back tt t.ensures.1) (bounded-made pr.result.p pr.result.q a.cols a.ends a.whole a.known a.value
    c.known_loss-k.result t.result c.least_loss-b.result pr.ensures t.ensures.0 t.ensures.1
    (rw (back a.value.whole (c.well_formed.1.1.1.1.0.1.1.0.1), within-back tt t.ensures.1) at c.known_loss-k.ensures) c.least_loss-b.ensures low)
