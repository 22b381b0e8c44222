use Rattle.std.proofs.Common.{◌≡◌, refl, ap, ◌∙◌, arith, add-one}
use Rattle.knapsack.specs.Ranges.{item_at}
use Rattle.prepare.specs.Narrowing.{grown_by, most_of}
use Rattle.prepare.proofs.narrowing.most_of.Goals as goal

pub loop-k-init : goal.loop-k-init
unfolding most_of
loop-k-init c = refl

pub loop-k-preserved : goal.loop-k-preserved
unfolding most_of
loop-k-preserved c = rw add-one (c.grown-m.ensures ∙ ap (λ m. grown_by m (item_at c.args.p c.loop-k.k)) c.loop-k.invariant)

pub returns : goal.returns
returns c = let n : c.loop-k.k ≡ c.args.p.count = omega arith in rw n at c.loop-k.invariant
