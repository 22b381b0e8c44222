-- `planner::raise` meets its contract.
use mathlib.Core.Path.{◌≡◌, sym, ap, ◌∙◌}
use mathlib.Core.Bool.{Bool, cond}
use lib.IntN.{ℤ, pos}
use lib.Signed.{lt_z}
use Rattle.arith.proofs.Integers.{maxℤ}
use Rattle.arith.proofs.Words.{back}
use Rattle.std.specs.Prelude.{Some}
use Rattle.cases.proofs.Splitting.{raise}
use borrow.Author.Rules.{rules}
use Rattle.planner.proofs.raise.Statement.{statement}
use Rattle.planner.proofs.raise.Tie as tie

-- of a bound that is there
held : (v : ℤ) (t : Bool) → lt_z (pos 1) v ≡ t → Some (cond t (v) (pos 1)) ≡ raise (Some v)
unfolding maxℤ
held v t h = ap (λ (x : Bool). Some (cond x (v) (pos 1))) (sym h)

enum_told : tie.Need-enum_told-1
enum_told c = search rules

enum-known-b : tie.Need-enum_known-b
enum-known-b c = search rules

returns : tie.Need-returns-in-None
returns c = sym (ap raise c.in-None.is)

returns-2 : tie.Need-returns-then-l-gt1
returns-2 c =
    let b = c.before in
    let v = b.in-Some.l in
    let e = back v c.in-Some.known_told-1-own.given.0.1 in
    rw e (held v _ (rw e at c.if-l-gt1.true) ∙ ap raise (sym b.in-Some.is))

returns-3 : tie.Need-returns-else-l-gt1
returns-3 c =
    let b = c.before in
    let v = b.in-Some.l in
    let e = back v c.in-Some.known_told-1-own.given.0.1 in
    held v _ (rw e at c.if-l-gt1.false) ∙ ap raise (sym b.in-Some.is)

pub raise_spec : {M : Type 1} → statement M
raise_spec = tie.close (tie.spec enum_told enum-known-b returns returns-2 returns-3)
