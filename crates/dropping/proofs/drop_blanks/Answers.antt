use Rattle.std.proofs.Common.{arith, add-one}
use Rattle.model.specs.declared.Sense.TheVariants.{Sure}
use Rattle.dropping.proofs.Dropped.{lines_next, line-numbers}
use Rattle.dropping.proofs.drop_blanks.Goals as goal

pub kept_items-q-requires : goal.kept_items-q-requires
kept_items-q-requires c = (c.requires.figures Sure).few-items

pub renumber_need-requires : goal.renumber_need-requires
renumber_need-requires c = line-numbers c.args.m c.requires c.loop-j.j (omega arith)

pub loop-j-preserved : goal.loop-j-preserved
loop-j-preserved c = rw (add-one, c.with_need-q.ensures, c.renumber_need.ensures, c.loop-j.invariant) (lines_next c.args.m c.args.m.count c.loop-j.j)
