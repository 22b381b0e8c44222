-- `prepare::columns` meets its contract: every list by which a table is made has places of items.
use mathlib.Core.Path.{refl}
use borrow.Author.Rules.{rules}
use mir.Facts.{to_z-of_z}
use mir.Syntax.{w64}
use mir.Val.{SFits}
use Rattle.knapsack.specs.Ranges.{item_at}
use Rattle.prepare.specs.Figures.{key_of}
use Rattle.prepare.specs.Tables.{Listing, Permuted}
use Rattle.prepare.specs.declared.tables.Figure.TheVariants.{Weight, Price}
use Rattle.prepare.specs.declared.tables.Key.TheVariants.{Filling}
use Rattle.prepare.proofs.Lists.{places-listing, tabled-places, sorted-listing, sorted-permuted}
use Rattle.prepare.proofs.columns.Statement.{statement}
use Rattle.prepare.proofs.columns.Tie as tie

-- the two lists by which tables are made
module _ (c : tie.After-ranking_by-order) where
  all_listed : Listing c.args.p c.all_places-items.result c.args.p.count
  all_listed = let s = c.before.before in places-listing s.args.p s.requires c.all_places-items.result c.all_places-items.ensures

  in_order : Listing c.args.p c.ranking_by-order.result c.args.p.count
  in_order = let s = c.before.before in sorted-listing s.args.p s.requires (λ k. key_of Filling (item_at s.args.p k)) c.ranking_by-order.result
      c.ranking_by-order.ensures

  permuted : Permuted c.args.p.count c.ranking_by-order.result
  permuted = let s = c.before.before in sorted-permuted s.args.p s.requires (λ k. key_of Filling (item_at s.args.p k)) c.ranking_by-order.result
      c.ranking_by-order.ensures

all-places-requires : tie.Need-all_places-items-requires
all-places-requires c κs = search rules

ranking-by-requires : tie.Need-ranking_by-order-requires
ranking-by-requires c κs = search rules

table-requires : tie.Need-table-weight-requires
table-requires c κs = all_listed c

table-requires-2 : tie.Need-table-price-requires
table-requires-2 c κs = all_listed c.before

inverse-requires : tie.Need-inverse-rank-requires
inverse-requires c κs = permuted c.before.before

table-requires-3 : tie.Need-table-size-requires
table-requires-3 c κs = in_order c.before.before.before

-- the moments that are spoken of below
abbrev after-ranking-by : tie.After-inverse-rank → tie.After-ranking_by-order
after-ranking-by c = c.before.before.before

abbrev after-inverse : tie.After-leading-live → tie.After-inverse-rank
after-inverse c = c.before.before.before

abbrev after-table2 : tie.After-struct_told-1 → tie.After-table-price
after-table2 c = (after-inverse c.before).before

table-requires-4 : tie.Need-table-rate-requires
table-requires-4 c κs =
    let s = after-ranking-by c.before in
    in_order s

leading-requires : tie.Need-leading-live-requires
leading-requires c κs =
    let s = after-ranking-by c.before.before in
    in_order s

returns : tie.Need-returns
returns c =
    let at-inverse = after-inverse c.before in
    let o = at-inverse.before.before.before in
    let s = o.before.before in
    let items = o.all_places-items in
    let fits : SFits w64 s.args.p.capacity = search rules in
    let t = at-inverse.before.before in
    record {
      count = refl;
      capacity = to_z-of_z fits;
      weights = tabled-places s.args.p s.requires items.result items.ensures Weight t.table-weight.result t.table-weight.ensures;
      prices = tabled-places s.args.p s.requires items.result items.ensures Price (after-table2 c).table-price.result (after-table2 c).table-price.ensures;
      order = o.ranking_by-order.ensures;
      rank = at-inverse.inverse-rank.ensures;
      sizes = c.table-size.ensures;
      rates = c.table-rate.ensures;
      live = c.leading-live.ensures;
    }

pub columns_spec : {M : Type 1} → statement M
columns_spec =
    tie.close
    (tie.spec
    all-places-requires
    ranking-by-requires
    table-requires
    table-requires-2
    inverse-requires
    table-requires-3
    table-requires-4
    leading-requires
    returns)
