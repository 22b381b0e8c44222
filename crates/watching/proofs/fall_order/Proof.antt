-- `watching::fall_order` meets its contract: the order of the relaxation, of items that stand for the falls.
use borrow.Author.Rules.{rules}
use Rattle.watching.proofs.Watching.{items-ranged, items-sorted}
use Rattle.watching.proofs.fall_order.Statement.{statement}
use Rattle.watching.proofs.fall_order.Tie as tie

fall-items-requires : tie.Need-fall_items-requires
fall-items-requires c κs = search rules

rank-requires : tie.Need-rank-requires
rank-requires c κs =
    let s = c.before in
    items-ranged s.args.of s.args.n c.fall_items.result s.requires.0 s.requires.1 c.fall_items.ensures

returns : tie.Need-returns
returns c =
    let i = c.before in
    let s = i.before in
    items-sorted s.args.of s.args.n i.fall_items.result s.requires.0 s.requires.1 i.fall_items.ensures c.rank.result.at
    c.rank.ensures

pub fall_order_spec : {M : Type 1} → statement M
fall_order_spec = tie.close (tie.spec fall-items-requires rank-requires returns)
