use Rattle.std.proofs.Common.{cond, suc, sym, ap, ◌∙◌, arith, add-one}
use Rattle.model.specs.Records.{item_at, is_blank}
use Rattle.dropping.specs.Dropping.{kept}
use Rattle.dropping.proofs.Dropped.{rank-next}
use Rattle.dropping.proofs.Kept.{rank-none, rank_most}
use Rattle.dropping.proofs.rank_of.Goals as goal

pub loop-i-init : goal.loop-i-init
loop-i-init c = sym (rank-none _)

pub count_unless_blank-n-requires : goal.count_unless_blank-n-requires
count_unless_blank-n-requires c = omega (arith, rank_most (kept c.args.m) c.loop-i.i)

pub loop-i-preserved : goal.loop-i-preserved
loop-i-preserved c = rw add-one (c.count_unless_blank-n.ensures
    ∙ ap (λ n. cond (is_blank (item_at c.args.m c.loop-i.i)) n (suc n)) c.loop-i.invariant ∙ sym (rank-next c.args.m c.loop-i.i))
