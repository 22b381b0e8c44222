use Rattle.std.proofs.Common.{◌≡◌, ap₂, ◌*◌}
use native.Mathlib.Nat.{mul-le-mul}
use lib.IntN.{nat_abs}
use Rattle.arith.proofs.Parts.{within-back, abs-within}
use Rattle.prepare.proofs.Nearer.{lead-small}
use Rattle.prepare.proofs.narrowing.burden_of.Goals as goal

weight_is : (c : goal.After-lead_of) → c.magnitude.result ≡ nat_abs c.args.i.weight
weight_is c = rw (within-back tt (abs-within c.args.i.weight c.requires.0.weight-in)) at c.magnitude.ensures

pub returns : goal.returns
returns c =
    let small = mul-le-mul c.requires.0.weight-in (lead-small c.args.a c.args.i c.requires.1 c.requires.0) in
    (ap₂ ◌*◌ (weight_is c) c.lead_of.ensures, rw (weight_is c, c.lead_of.ensures) small)
