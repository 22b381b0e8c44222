use Rattle.model.proofs.Records.{figures-of}
use Rattle.prepare.proofs.Spreading.{all_short, held, ready}
use Rattle.prepare.proofs.pairs.pairs_of.Goals as goal

pub spread-requires : goal.spread-requires
spread-requires c = all_short c.args.p (figures-of c.args.p c.requires) c.args.named c.pair_table.result c.pair_table.ensures

pub returns : goal.returns
returns c =
    let f = figures-of c.args.p c.requires in
    record {
      held = held c.args.p f c.args.named c.spread.result c.pair_table.result c.pair_table.ensures c.spread.ensures;
      ready = ready c.args.p f c.args.named c.spread.result c.pair_table.result c.pair_table.ensures c.spread.ensures;
    }
