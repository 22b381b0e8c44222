-- `rays::does_gain` meets its contract.
use mir.Syntax.{w64}
use mir.Val.{SFits}
use mir.Facts.{to_z-of_z}
use borrow.Author.Rules.{rules}
use Rattle.rays.specs.Directions.{gains}
use Rattle.rays.proofs.does_gain.Statement.{statement}
use Rattle.rays.proofs.does_gain.Tie as tie

returns : tie.Need-returns-then-d
unfolding gains
returns c =
    let h : SFits w64 c.args.d.price = search rules in
    rw (to_z-of_z h, c.if-d.true)

returns-2 : tie.Need-returns-else-d
unfolding gains
returns-2 c = rw c.if-d.false

pub does_gain_spec : {M : Type 1} → statement M
does_gain_spec = tie.close (tie.spec returns returns-2)
