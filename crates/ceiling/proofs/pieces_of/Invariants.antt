use Rattle.ceiling.specs.Pieces.{Pieces}
use Rattle.ceiling.proofs.pieces_of.Given as goal

abbrev pub invariant-loop-k : goal.invariant-loop-k
invariant-loop-k l = Pieces l.p l.q l.cols l.ends l.scale l.cut l.room l.k l.parts
