use Rattle.std.proofs.Common.{◌∙◌}
use Rattle.greedy.proofs.Lent.{by-rank-bound}
use Rattle.greedy.proofs.bound_of.Goals as goal

pub returns : goal.returns
returns c = c.bound_in.ensures ∙ by-rank-bound c.args.cols c.args.f
