use Rattle.std.proofs.Common.{◌∙◌}
use Rattle.arith.proofs.Parts.{within-back}
use Rattle.greedy.proofs.Lent.{unranked-fill}
use Rattle.greedy.proofs.fill_up.Goals as goal

pub returns : goal.returns
returns c = rw (within-back tt c.requires.columns.capacity-in) at c.fill_in.ensures ∙ unranked-fill c.args.cols c.args.ends
