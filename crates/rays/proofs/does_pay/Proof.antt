-- `rays::does_pay` meets its contract.
use lib.IntN.{pos}
use mir.Syntax.{w64}
use mir.Val.{SFits}
use lib.Dec.{lit<}
use Rattle.arith.proofs.Words.{back, on_values}
use borrow.Author.Rules.{rules}
use Rattle.rays.specs.Directions.{pays}
use Rattle.rays.proofs.does_pay.Statement.{statement}
use Rattle.rays.proofs.does_pay.Tie as tie

gain-of-requires : tie.Need-gain_of-requires
gain-of-requires c κs = search rules

zero-fits : SFits w64 (pos 0)
zero-fits = record { sfits = lit< tt }

-- the moments that are spoken of below
abbrev start : tie.After-struct_told-1 → tie.Start
start c = c.before.before.before

abbrev then1 : tie.Then-e-lt0 → tie.Then-e
then1 c = c.before.before.before

returns : tie.Need-returns-then-e-lt0
unfolding pays
returns c =
    let at-if1 = then1 c.before in
    let s = at-if1.before in
    let h : SFits w64 s.args.e.weight = search rules in
    rw (back _ c.gain_of.type_inv, c.gain_of.ensures, at-if1.if-e.true, on_values h zero-fits c.if-e-lt0.true)

returns-2 : tie.Need-returns-else-e-lt0
unfolding pays
returns-2 c =
    let s = start c.before in
    let h : SFits w64 s.args.e.weight = search rules in
    rw (c.if-e.true, on_values h zero-fits c.if-e-lt0.false)

returns-3 : tie.Need-returns-else-e
unfolding pays
returns-3 c = rw c.if-e.false

pub does_pay_spec : {M : Type 1} → statement M
does_pay_spec = tie.close (tie.spec gain-of-requires returns returns-2 returns-3)
