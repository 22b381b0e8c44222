-- `prepare::bounding_box` meets its contract.
use borrow.Author.Rules.{rules}
use Rattle.prepare.specs.declared.tables.Figure.TheVariants.{Low, High}
use Rattle.prepare.proofs.Lists.{places-listing, tabled-places}
use Rattle.prepare.proofs.bounding_box.Statement.{statement}
use Rattle.prepare.proofs.bounding_box.Tie as tie

all-places-requires : tie.Need-all_places-items-requires
all-places-requires c κs = search rules

table-requires : tie.Need-table-lo-requires
table-requires c κs = let s = c.before in places-listing s.args.p s.requires c.all_places-items.result c.all_places-items.ensures

table-requires-2 : tie.Need-table-hi-requires
table-requires-2 c κs = let s = c.before.before in places-listing s.args.p s.requires c.all_places-items.result c.all_places-items.ensures

returns : tie.Need-returns
returns c =
    let a = c.before.before in
    let s = a.before in
    record {
      lows = tabled-places s.args.p s.requires a.all_places-items.result a.all_places-items.ensures Low c.table-lo.result c.table-lo.ensures;
      highs = tabled-places s.args.p s.requires a.all_places-items.result a.all_places-items.ensures High c.table-hi.result c.table-hi.ensures;
    }

pub bounding_box_spec : {M : Type 1} → statement M
bounding_box_spec =
    tie.close (tie.spec all-places-requires table-requires table-requires-2 returns)
