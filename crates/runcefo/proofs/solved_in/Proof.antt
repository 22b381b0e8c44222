-- `runcefo::solved_in` meets its contract.
use borrow.Author.Rules.{rules}
use Rattle.planner.proofs.Breaking.{needed}
use Rattle.runcefo.proofs.solved_in.Statement.{statement}
use Rattle.runcefo.proofs.solved_in.Tie as tie

plain-of-requires : tie.Need-plain_of-requires
plain-of-requires c κs = search rules

solve-needs-requires : tie.Need-solve_needs-requires
solve-needs-requires c κs = let s = c.before.before in rw c.plain_of.ensures (needed s.args.sense s.args.m s.requires)

returns : tie.Need-returns
returns c =
    let h = rw c.plain_of.ensures at c.solve_needs.ensures in
    record { answers = h.0; work = h.1 }

pub solved_in_spec : {M : Type 1} → statement M
solved_in_spec = tie.close (tie.spec plain-of-requires solve-needs-requires returns)
