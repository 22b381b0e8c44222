-- `lattice::building::unknown_lattices` meets its contract.
use mathlib.Core.Path.{ap}
use lib.ListN.{replicate}
use borrow.Author.Rules.{rules}
use Rattle.lattice.proofs.building.unknown_lattices.Statement.{statement}
use Rattle.lattice.proofs.building.unknown_lattices.Tie as tie

unknown-lattice-requires : tie.Need-unknown_lattice-l-requires
unknown-lattice-requires c κs = search rules

returns : tie.Need-returns
returns c = ap (replicate 16) c.unknown_lattice-l.ensures

pub unknown_lattices_spec : {M : Type 1} → statement M
unknown_lattices_spec = tie.close (tie.spec unknown-lattice-requires returns)
