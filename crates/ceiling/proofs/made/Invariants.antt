use Rattle.fillings.specs.Ranges.{num}
use Rattle.ceiling.specs.Least.{Placed}
use Rattle.ceiling.specs.Pieces.{whole_of}
use Rattle.ceiling.proofs.made.Given as goal

abbrev pub invariant-loop-k : goal.invariant-loop-k
invariant-loop-k l = Placed l.k (whole_of l.cols l.ends (num l.ys)) l.to
