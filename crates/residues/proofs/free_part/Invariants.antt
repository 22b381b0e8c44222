use Rattle.scales.specs.Filling.{items_of}
use Rattle.residues.proofs.Choice.{Barren}
use Rattle.residues.proofs.free_part.Given as goal

abbrev pub invariant-loop-k : goal.invariant-loop-k
invariant-loop-k l = Barren (items_of l.ws l.us l.ts l.ls) l.from l.capacity l.k
