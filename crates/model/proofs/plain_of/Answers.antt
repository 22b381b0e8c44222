use Rattle.std.proofs.Common.{◌≡◌, ap, ◌∙◌, arith, add-one, set, rules}
use Rattle.knapsack.specs.declared.Problem.{Problem}
use Rattle.model.specs.Records.{item_in, item_at}
use Rattle.model.proofs.Plain.{filled_none, filled_more, filled-all}
use Rattle.model.proofs.plain_of.Goals as goal

pub loop-k-init : goal.loop-k-init
loop-k-init c = record { size = search rules; filled = rw (filled_none c.args.sense 16 c.args.m.items) c.unfilled-p.ensures }

pub loop-k-preserved : goal.loop-k-preserved
loop-k-preserved c =
    let a = c.args in
    let k = c.loop-k.k in
    let size = c.loop-k.invariant.size in
    record {
      size = size;
      filled = rw (c.item_in.ensures, add-one, ← filled_more a.sense 16 a.m.items k (omega arith) (omega (arith, size)))
          (ap (λ (p : Problem). record p { items = set p.items k (item_in a.sense (item_at a.m k)) }) c.loop-k.invariant.filled);
    }

pub returns : goal.returns
returns c =
    let e : c.loop-k.k ≡ 16 = omega arith in
    c.loop-k.invariant.filled ∙ rw (e, filled-all c.args.sense 16 c.args.m.items c.loop-k.invariant.size)
