use Rattle.ceiling.specs.Frames.{Altered, frame_end_by}
use Rattle.ceiling.proofs.frame_ends.Given as goal

abbrev pub invariant-loop-k : goal.invariant-loop-k
invariant-loop-k l = Altered l.k (frame_end_by l.cols l.ends l.whole l.cut l.t l.xs) l.xs l.to
