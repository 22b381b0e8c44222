-- `solver::with_tied` meets its contract.
use mathlib.Core.Path.{refl}
use borrow.Author.Rules.{rules}
use Rattle.setting.specs.Box.{Long}
use Rattle.solver.proofs.with_tied.Statement.{statement}
use Rattle.solver.proofs.with_tied.Tie as tie

long : (s : tie.Start) → Long s.args.s.ends
long s = record { lo-long = search rules; hi-long = search rules }

tied-requires : tie.Need-tied-cols-requires
tied-requires c κs = search rules

returns : tie.Need-returns
returns c = let t = c.before.before.before.before.before in record { long = long t.before.before; same = refl; tied = t.tied-cols.ensures }

pub with_tied_spec : {M : Type 1} → statement M
with_tied_spec = tie.close (tie.spec tied-requires returns)
