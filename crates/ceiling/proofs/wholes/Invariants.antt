use Rattle.ceiling.specs.Frames.{Levelled}
use Rattle.ceiling.proofs.wholes.Given as goal

abbrev pub invariant-loop-d : goal.invariant-loop-d
invariant-loop-d l = Levelled l.level l.d l.to
