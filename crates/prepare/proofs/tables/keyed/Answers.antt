use Rattle.std.proofs.Common.{◌≡◌, refl, arith}
use Rattle.std.proofs.Math.ListN.{length-set}
use Rattle.knapsack.specs.Ranges.{item_at}
use Rattle.prepare.specs.Figures.{key_of}
use Rattle.prepare.proofs.Tabling.{item-set}
use Rattle.prepare.proofs.tables.keyed.Goals as goal

pub loop-k-preserved : goal.loop-k-preserved
loop-k-preserved c =
    let k = c.loop-k.k in
    record {
      long = simp length-set c.loop-k.invariant.long;
      so_far = λ j h. item-set c.loop-k.items k j c.key_of.result h (omega (arith, c.loop-k.invariant.long, c.requires.0.few-items))
          (λ v. key_of c.args.by (item_at c.args.p v)) c.key_of.ensures c.loop-k.invariant.so_far;
    }

pub returns : goal.returns
returns c =
    let e : c.loop-k.k ≡ c.args.p.count = omega arith in
    record { count = refl; keys = rw e at c.loop-k.invariant.so_far }
