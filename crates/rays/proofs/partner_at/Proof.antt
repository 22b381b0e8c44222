-- `rays::partner_at` meets its contract.
use mathlib.Core.Path.{◌≡◌, sym, ◌∙◌, ap}
use Rattle.rays.specs.Directions.{pays, direction_of}
use Rattle.rays.proofs.Scan.{direction-in}
use borrow.Author.Rules.{rules}
use Rattle.rays.proofs.partner_at.Statement.{statement}
use Rattle.rays.proofs.partner_at.Tie as tie

direction-at-requires : tie.Need-direction_at-e-requires
direction-at-requires c κs = search rules

does-pay-requires : tie.Need-does_pay-requires
does-pay-requires c κs =
    let s = c.before in
    (s.requires.1.0, rw c.direction_at-e.ensures (direction-in s.args.p s.args.w s.requires.0 s.requires.1.1))

-- the answer of the test is the definition's
test : (c : tie.After-does_pay) → pays c.args.d (direction_of c.args.p c.args.w)
    ≡ c.does_pay.result
test c = sym (c.does_pay.ensures ∙ ap (pays c.args.d) c.direction_at-e.ensures)

returns : tie.Need-returns-then-does_pay
returns c = rw (test c.before ∙ c.if-does_pay.true)

returns-2 : tie.Need-returns-else-does_pay
returns-2 c = rw (test c.before ∙ c.if-does_pay.false)

pub partner_at_spec : {M : Type 1} → statement M
partner_at_spec = tie.close (tie.spec direction-at-requires does-pay-requires returns returns-2)
