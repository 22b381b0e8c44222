use Rattle.std.proofs.Common.{◌-◌, arith}
use Rattle.dropping.specs.Dropping.{kept}
use Rattle.dropping.proofs.Kept.{rank_most}
use Rattle.dropping.proofs.renumber.Goals as goal

pub overflow_add-result : goal.overflow_add-result
overflow_add-result c = omega (arith, rank_most (kept c.args.m) (c.args.k - 1))
