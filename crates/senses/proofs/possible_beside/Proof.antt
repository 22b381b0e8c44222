-- `senses::possible_beside` meets its contract: where no weight is a range the sure answer is the possible one.
use mathlib.Core.Path.{◌≡◌, sym, ◌∙◌}
use borrow.Author.Rules.{rules}
use lib.ListN.{length}
use Rattle.senses.proofs.Known.{known-planned}
use Rattle.senses.proofs.possible_beside.Statement.{statement}
use Rattle.senses.proofs.possible_beside.Tie as tie

some-range-requires : tie.Need-some_range-requires
some-range-requires c κs = search rules

plan-requires : tie.Need-plan-requires
plan-requires c κs = search rules

returns : tie.Need-returns-then-some_range
returns c = search rules

returns-2 : tie.Need-returns
returns-2 c =
    let s = c.before.before in
    let m = s.args.m in
    let full : length m.items ≡ 16 = s.well_formed.0.1.1.0.1.0.1 in
    known-planned m full (sym c.some_range.ensures ∙ c.if-some_range.false) s.args.sure s.requires

pub possible_beside_spec : {M : Type 1} → statement M
possible_beside_spec = tie.close (tie.spec some-range-requires plan-requires returns returns-2)
