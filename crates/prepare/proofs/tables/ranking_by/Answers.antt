use Rattle.prepare.proofs.Keys.{keys-ranged, keys-sorted}
use Rattle.prepare.proofs.tables.ranking_by.Goals as goal

pub rank-requires : goal.rank-requires
rank-requires c = keys-ranged c.args.p c.keyed.result c.args.by c.keyed.ensures c.requires.0 c.requires.1

pub returns : goal.returns
returns c = keys-sorted c.args.p c.keyed.result c.args.by c.keyed.ensures c.rank.result.at c.rank.ensures
