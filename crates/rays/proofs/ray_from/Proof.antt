-- `rays::ray_from` meets its contract: its tests are those of the definition.
use mathlib.Core.Path.{sym, ◌∙◌}
use lib.Dec.{lit<}
use lib.IntN.{pos}
use mir.Syntax.{w64}
use mir.Val.{SFits}
use Rattle.arith.proofs.Words.{on_values}
use Rattle.rays.specs.Directions.{ray_from}
use Rattle.rays.proofs.Scan.{direction-in}
use borrow.Author.Rules.{rules}
use Rattle.rays.proofs.ray_from.Statement.{statement}
use Rattle.rays.proofs.ray_from.Tie as tie

zero-fits : SFits w64 (pos 0)
zero-fits = record { sfits = lit< tt }

direction-at-requires : tie.Need-direction_at-d-requires
direction-at-requires c κs = search rules

does-gain-requires : tie.Need-does_gain-requires
does-gain-requires c κs = search rules

partner-requires : tie.Need-partner-requires
partner-requires c κs =
    let at-then1 = c.before.before.before in
    let d = at-then1.before.before in
    let s = d.before in
    (s.requires.0, rw d.direction_at-d.ensures (direction-in s.args.p s.args.u s.requires.0 s.requires.1))

-- the moments that are spoken of below
abbrev then1 : tie.Then-d-gt0 → tie.Then-does_gain
then1 c = c.before.before.before

returns : tie.Need-returns-then-d-gt0
unfolding ray_from
returns c =
    let at-if1 = then1 c.before in
    let g = at-if1.before in
    let h : SFits w64 g.direction_at-d.result.weight = search rules in
    rw (
      ← g.direction_at-d.ensures,
      sym g.does_gain.ensures ∙ at-if1.if-does_gain.true,
      on_values zero-fits h c.if-d-gt0.true,
    ) c.partner.ensures

returns-2 : tie.Need-returns-then-does_gain
unfolding ray_from
returns-2 c =
    let at-then1 = c.before.before.before in
    let g = at-then1.before in
    let h : SFits w64 g.direction_at-d.result.weight = search rules in
    rw (← g.direction_at-d.ensures, sym g.does_gain.ensures ∙ c.if-does_gain.true, on_values zero-fits h c.if-d-gt0.false)

returns-3 : tie.Need-returns
unfolding ray_from
returns-3 c =
    let g = c.before in
    rw (← g.direction_at-d.ensures, sym g.does_gain.ensures ∙ c.if-does_gain.false)

pub ray_from_spec : {M : Type 1} → statement M
ray_from_spec =
    tie.close
    (tie.spec
    direction-at-requires
    does-gain-requires
    partner-requires
    returns
    returns-2
    returns-3)
