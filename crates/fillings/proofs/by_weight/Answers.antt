use Rattle.std.proofs.Common.{refl}
use Rattle.fillings.proofs.Lists.{num-zeros}
use Rattle.fillings.proofs.Weights.{caps-taken, caps-left}
use Rattle.fillings.proofs.by_weight.Goals as goal

pub returns : goal.returns
returns c =
    let low = c.low_load-total in
    let a = c.args in (
      record {
        up = rw c.min.ensures (caps-taken a.p _ a.capacity low.result c.requires refl refl low.ensures.value refl (num-zeros 17));
        down = rw c.excess.ensures (caps-left a.p _ a.capacity low.result c.requires refl refl low.ensures.value (num-zeros 17) refl);
      },
      refl,
    )
