-- `prepare::lattices_of` meets its contract: where all are fixed the lattices are those of weights and prices by level.
use mathlib.Core.Path.{◌≡◌}
use borrow.Author.Rules.{rules}
use borrow.Author.Tests.{lt-ltb, le-ltb}
use Rattle.lattice.proofs.Levels.{unknown-at}
use Rattle.lattice.specs.Building.{entry}
use Rattle.prepare.specs.Figures.{figure_of}
use Rattle.prepare.specs.Tables.{listed}
use Rattle.prepare.specs.declared.tables.Figure.TheVariants.{Weight, Price}
use Rattle.prepare.specs.Prepared.{column}
use Rattle.prepare.proofs.Lattices.{items-in, tabled-column, leading-places}
use Rattle.prepare.proofs.Lists.{places-listing}
use Rattle.prepare.proofs.lattices_of.Statement.{statement}
use Rattle.prepare.proofs.lattices_of.Tie as tie

all-places-requires : tie.Need-all_places-items-requires
all-places-requires c κs = search rules

leading-requires : tie.Need-leading-fixed-requires
leading-requires c κs = let s = c.before in places-listing s.args.p s.requires.accepted c.all_places-items.result c.all_places-items.ensures

unknown-lattices-requires : tie.Need-unknown_lattices-requires
unknown-lattices-requires c κs = search rules

returns : tie.Need-returns-then-fixed-p
returns c =
    let l = c.before.before.before in
    let a = l.before in
    let s = a.before in
    let p = s.args.p in
    record {
      first = l.leading-fixed.result;
      leads = leading-places p s.requires.accepted.few-items a.all_places-items.result a.all_places-items.ensures l.leading-fixed.result l.leading-fixed.ensures;
      are = λ d h. rw (c.unknown_lattices.ensures, lt-ltb l.leading-fixed.result p.count c.if-fixed-p.true) (unknown-at 16 d h);
    }

table-requires : tie.Need-table-weight-requires
table-requires c κs = search rules

table-requires-2 : tie.Need-table-price-requires
table-requires-2 c κs = search rules

-- the moments that are spoken of below
abbrev start-of-known : tie.After-struct_known-1 → tie.Start
start-of-known c = c.before.before.before

abbrev start-of-table : tie.After-table-weight → tie.Start
start-of-table c = start-of-known c.before.before

abbrev start-of-table2 : tie.After-table-price → tie.Start
start-of-table2 c = start-of-table c.before

-- the tables, as columns of the levels
weights : (c : tie.After-table-weight) → entry c.table-weight.result ≡ column (start-of-table c).args.n
    (λ u. (listed (start-of-table c).args.p (start-of-table c).args.level u).weight)
weights c = let s = start-of-table c in tabled-column s.args.n (λ u. figure_of Weight (listed s.args.p s.args.level u))
    c.table-weight.result c.table-weight.ensures

prices : (c : tie.After-table-price) → entry c.table-price.result ≡ column (start-of-table2 c).args.n
    (λ u. (listed (start-of-table2 c).args.p (start-of-table2 c).args.level u).price)
prices c = let s = start-of-table2 c in tabled-column s.args.n
    (λ u. figure_of Price (listed s.args.p s.args.level u)) c.table-price.result c.table-price.ensures

lattices-requires : tie.Need-lattices-requires
lattices-requires c κs =
    let s = start-of-table2 c in
    rw (weights c.before, prices c) (items-in s.args.p s.args.level s.args.n s.requires)

returns-2 : tie.Need-returns
returns-2 c =
    let t = c.before in
    let w = t.before in
    let l = w.before.before.before in
    let a = l.before in
    let s = a.before in
    let p = s.args.p in
    record {
      first = l.leading-fixed.result;
      leads = leading-places p s.requires.accepted.few-items a.all_places-items.result a.all_places-items.ensures l.leading-fixed.result l.leading-fixed.ensures;
      are = λ d h. rw (le-ltb l.leading-fixed.result p.count w.if-fixed-p.false) (rw (weights w, prices t) at (c.lattices.ensures d h));
    }

pub lattices_of_spec : {M : Type 1} → statement M
lattices_of_spec =
    tie.close
    (tie.spec
    all-places-requires
    leading-requires
    unknown-lattices-requires
    returns
    table-requires
    table-requires-2
    lattices-requires
    returns-2)
