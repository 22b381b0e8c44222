-- `rays::direction_at` meets its contract.
use Prim.Native.Nat.{◌/◌}
use native.Mathlib.Omega.{arith}
use mir.Syntax.{w64}
use mir.Val.{SFits}
use mir.Facts.{to_z-of_z}
use Rattle.arith.proofs.Parts.{abs-within}
use Rattle.arith.proofs.Words.{back}
use Rattle.knapsack.specs.Ranges.{item_at, ItemInRange}
use Rattle.rays.specs.Directions.{direction_of}
use borrow.Author.Rules.{rules}
use Rattle.rays.proofs.direction_at.Statement.{statement}
use Rattle.rays.proofs.direction_at.Tie as tie

item_in : (s : tie.Start) → ItemInRange (item_at s.args.p (s.args.u / 2))
item_in s = s.requires.0.items-in (s.args.u / 2) (omega arith)

mul-i : tie.Need-offset_bounds-p-k
mul-i c = search rules

element-copy-out-i : tie.Need-bounds-p-k
element-copy-out-i c = search rules

stop-of-requires : tie.Need-stop_of-b-requires
stop-of-requires c κs = search rules

is-absent-requires : tie.Need-is_absent-requires
is-absent-requires c κs = search rules

-- the figures of the direction's item, where they are read
weight-fits : (c : tie.After-struct_told-1) →
    let at-is-absent = c.before in
    let s = at-is-absent.before.before.before in
    SFits w64 (item_at s.args.p (s.args.u / 2)).weight
weight-fits c = search rules

price-fits : (c : tie.After-struct_told-2-1) →
    let at-is-absent = c.before.before.before in
    let s = at-is-absent.before.before.before in
    SFits w64 (item_at s.args.p (s.args.u / 2)).price
price-fits c = search rules

-- the moments that are spoken of below
abbrev start : tie.After-is_absent → tie.Start
start c = c.before.before.before

turned-requires : tie.Need-turned-requires
turned-requires c κs =
    let s = start c.before in
    rw (to_z-of_z (weight-fits c)) (abs-within (item_at s.args.p (s.args.u / 2)).weight (omega (arith, (item_in s).weight-in)))

turned-requires-2 : tie.Need-turned-requires-2
turned-requires-2 c κs =
    let s = start c.before.before.before in
    rw (to_z-of_z (price-fits c)) (abs-within (item_at s.args.p (s.args.u / 2)).price (item_in s).price-in)

returns : tie.Need-returns
unfolding direction_of
returns c =
    let at-turned = c.before.before in
    let at-is-absent = at-turned.before.before in
    let at-stop-of = at-is-absent.before in
    rw (
      back c.turned.result c.turned.type_inv,
      back c.turned-2.result c.turned-2.type_inv,
      c.turned.ensures,
      c.turned-2.ensures,
      to_z-of_z (weight-fits at-turned.before),
      to_z-of_z (price-fits c.before),
      at-is-absent.is_absent.ensures,
      at-stop-of.stop_of-b.ensures,
    )

pub direction_at_spec : {M : Type 1} → statement M
direction_at_spec =
    tie.close
    (tie.spec
    mul-i
    element-copy-out-i
    stop-of-requires
    is-absent-requires
    turned-requires
    turned-requires-2
    returns)
