use Rattle.search.specs.Steps.{Underway, Ran}
use Rattle.search.proofs.run_for.Given as goal

-- the search is on its way, after as many steps as turns
abbrev pub invariant-loop-k : goal.invariant-loop-k
invariant-loop-k l = record {
  underway : Underway l.s l.p l.t;
  ran : Ran l.s l.p l.initial.t l._k l.t;
}
