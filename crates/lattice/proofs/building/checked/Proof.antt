-- `lattice::building::checked` meets its contract: the tests are those of the definition.
use mathlib.Core.Path.{◌≡◌, sym}
use mathlib.Core.Bool.{true}
use Prim.Native.Nat.{◌-◌}
use borrow.Author.Rules.{rules}
use lib.IntN.{pos}
use lib.Signed.{lt_z}
use Rattle.arith.proofs.Parts.{within-back}
use Rattle.arith.proofs.Words.{yes_lt}
use Rattle.lattice.specs.Lattice.{Tame}
use Rattle.lattice.specs.Building.{closed_by, entry, held_from}
use Rattle.lattice.proofs.Levels.{closed-tame}
use Rattle.lattice.proofs.building.checked.Statement.{statement}
use Rattle.lattice.proofs.building.checked.Tie as tie

closed-requires : tie.Need-closed-r-requires
closed-requires c κs = search rules

tame : (c : tie.After-closed-r) → Tame (closed_by c.args.l)
tame c = closed-tame c.args.l c.requires.0

-- the moments that are spoken of below
abbrev start-of-told : tie.After-struct_told-1 → tie.Start
start-of-told c = c.before.before.before

abbrev start : tie.After-held_from → tie.Start
start c = start-of-told c.before.before

-- the test of the stride
positive : (c : tie.Then-r-gt0) →
    let s = start-of-told c.before in
    lt_z (pos 0) (closed_by s.args.l).stride ≡ true
positive c = let k = c.before.before.before in rw (k.closed-r.ensures, within-back tt (tame k).stride-in) at c.if-r-gt0.true

held-from-requires : tie.Need-held_from-requires
held-from-requires c κs = let k = c.before.before.before in rw k.closed-r.ensures (tame k, (yes_lt (positive c), k.requires.1))

-- the test of the items
held : (c : tie.After-held_from) →
    let s = start c in
    c.held_from.result ≡ held_from (closed_by (start c).args.l) (entry (start c).args.weight) (entry (start c).args.price)
    (start c).args.d ((start c).args.n - s.args.d)
held c =
    let at-then1 = c.before in
    let at-closed = at-then1.before.before.before in
    rw at-closed.closed-r.ensures at c.held_from.ensures

returns : tie.Need-returns-then-held_from
returns c =
    let f = c.before in
    let o = f.before in
    let k = o.before.before.before in
    rw (k.closed-r.ensures, positive o, sym (held f), c.if-held_from.true)

unknown-lattice-requires : tie.Need-unknown_lattice-requires
unknown-lattice-requires c κs = search rules

returns-2 : tie.Need-returns-then-r-gt0
returns-2 c =
    let f = c.before.before in
    rw (c.unknown_lattice.ensures, positive f.before, sym (held f), c.if-held_from.false)

unknown-lattice-requires-2 : tie.Need-unknown_lattice-requires-2
unknown-lattice-requires-2 c κs = search rules

returns-3 : tie.Need-returns
returns-3 c =
    let at-else1 = c.before in
    let k = at-else1.before.before.before in
    let t = rw (k.closed-r.ensures, within-back tt (tame k).stride-in) at c.if-r-gt0.false in
    rw (c.unknown_lattice-2.ensures, t)

pub checked_spec : {M : Type 1} → statement M
checked_spec =
    tie.close
    (tie.spec
    closed-requires
    held-from-requires
    returns
    unknown-lattice-requires
    returns-2
    unknown-lattice-requires-2
    returns-3)
