use Rattle.fillings.specs.Ranges.{Made, near_low_of, near_wide_of}
use Rattle.fillings.proofs.narrowed.Given as goal

abbrev pub invariant-loop-k : goal.invariant-loop-k
invariant-loop-k l = Made l.k (near_low_of l.left l.p l.r) l.n.low × Made l.k (near_wide_of l.left l.p l.r) l.n.wide
