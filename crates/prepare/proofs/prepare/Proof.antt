-- `prepare::prepare` meets its contract: its parts are those of a setting that is ready.
use mathlib.Core.Path.{sym, subst}
use borrow.Author.Rules.{rules}
use Rattle.greedy.specs.Fill.{fill}
use Rattle.knapsack.specs.Ranges.{item_at}
use Rattle.prepare.specs.Figures.{key_of, SmallKey}
use Rattle.prepare.specs.Tables.{Listing}
use Rattle.prepare.proofs.Levels.{critical-small}
use Rattle.prepare.proofs.Lists.{sorted-listing, shorter-listing}
use Rattle.prepare.proofs.Order.{columns-sized}
use Rattle.prepare.proofs.Ready.{box-sized, prepared}
use Rattle.prepare.proofs.prepare.Statement.{statement}
use Rattle.prepare.proofs.prepare.Tie as tie

-- the moments that are spoken of below
abbrev start-of-bounding-box : tie.After-bounding_box-ends → tie.Start
start-of-bounding-box c = c.before.before

abbrev start : tie.After-ranking_by-level → tie.Start
start c = start-of-bounding-box c.before.before

in_order : (c : tie.After-ranking_by-level) → Listing (start c).args.p c.ranking_by-level.result (start c).args.p.count
in_order c =
    let s = start c in
    sorted-listing s.args.p s.requires (λ k. key_of c.branching-by.result (item_at s.args.p k)) c.ranking_by-level.result c.ranking_by-level.ensures

by_level : (c : tie.After-leading-levels) → Listing (start c.before).args.p c.ranking_by-level.result c.leading-levels.result
by_level c =
    let s = start c.before in
    shorter-listing s.args.p c.ranking_by-level.result c.leading-levels.result s.args.p.count c.leading-levels.ensures.most (in_order c.before)

columns-requires : tie.Need-columns-cols-requires
columns-requires c κs = search rules

bounding-box-requires : tie.Need-bounding_box-ends-requires
bounding-box-requires c κs = search rules

branching-requires : tie.Need-branching-by-requires
branching-requires c κs =
    let k = c.before in
    let s = k.before in
    record {
      columns = columns-sized s.args.p k.columns-cols.result s.requires k.columns-cols.ensures;
      ends = box-sized s.args.p s.requires c.bounding_box-ends.result c.bounding_box-ends.ensures;
    }

ranking-by-requires : tie.Need-ranking_by-level-requires
ranking-by-requires c κs =
    let k = c.before.before in
    let s = k.before in (
      s.requires,
      subst SmallKey (sym c.branching-by.ensures) (critical-small k.columns-cols.result (fill k.columns-cols.result c.bounding_box-ends.result)
          (columns-sized s.args.p k.columns-cols.result s.requires k.columns-cols.ensures)),
    )

leading-requires : tie.Need-leading-levels-requires
leading-requires c κs = in_order c

table-requires : tie.Need-table-low-requires
table-requires c κs = by_level c

table-requires-2 : tie.Need-table-high-requires
table-requires-2 c κs = by_level c.before

lattices-of-requires : tie.Need-lattices_of-lattice-requires
lattices-of-requires c κs = by_level c.before.before

returns : tie.Need-returns
returns c =
    let l = c.before.before.before in
    let o = l.before in
    let b = o.before in
    let e = b.before in
    let k = e.before in
    let s = k.before in
    prepared s.args.p s.requires b.branching-by.result _ (record {
      columned = k.columns-cols.ensures;
      boxed = e.bounding_box-ends.ensures;
      by-is = b.branching-by.ensures;
      sorted = o.ranking_by-level.ensures;
      leading = l.leading-levels.ensures;
      lows = c.table-low.ensures;
      highs = c.table-high.ensures;
      latticing = c.lattices_of-lattice.ensures;
    })

pub prepare_spec : {M : Type 1} → statement M
prepare_spec =
    tie.close
    (tie.spec
    columns-requires
    bounding-box-requires
    branching-requires
    ranking-by-requires
    leading-requires
    table-requires
    table-requires-2
    lattices-of-requires
    returns)
