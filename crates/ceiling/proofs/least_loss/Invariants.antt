use Rattle.ceiling.proofs.Framing.{Sofar}
use Rattle.ceiling.proofs.least_loss.Given as goal

abbrev pub invariant-loop-t : goal.invariant-loop-t
invariant-loop-t l = Sofar l.p l.q l.cols l.ends l.whole l.fn.known l.t l.best
