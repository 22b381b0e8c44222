use Rattle.std.specs.Prelude.{None}
use Rattle.std.proofs.Common.{◌≡◌, get_or, arith, to_z-of_z}
use Rattle.arith.proofs.Parts.{abs-within, within-back}
use Rattle.prepare.specs.Pairs.{first_step, second_step}
use Rattle.prepare.proofs.Spreading.{fits-few, steps-are, spread-first, spread-step}
use Rattle.prepare.proofs.pairs.spread.Goals as goal

pub loop-k-init : goal.loop-k-init
loop-k-init c = rw c.no_steps-r.ensures (spread-first c.args.t)

pub loop-k-preserved : goal.loop-k-preserved
loop-k-preserved c =
    let k = c.loop-k.k in
    let q = get_or c.args.t k None in
    let short = c.requires k (omega arith) in
    rw (
      c.unwrap_or-first.ensures,
      steps-are q,
      within-back tt (abs-within (first_step q) short.0),
      within-back tt (abs-within (second_step q) short.1),
      to_z-of_z (fits-few (first_step q) short.0),
      to_z-of_z (fits-few (second_step q) short.1),
    ) (spread-step c.args.t k c.loop-k.r (omega arith) c.loop-k.invariant)

pub returns : goal.returns
returns c = let e : c.loop-k.k ≡ 256 = omega arith in rw e at c.loop-k.invariant
