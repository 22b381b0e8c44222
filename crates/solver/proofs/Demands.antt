-- What the solver owes for plain problems, in paper 01's words (knapsack, specs/Demands).
-- solved-demands (end theorem): the answer of `solve` keeps every demand. `solve` takes each problem in range and ends, so for each of them exactly one of
-- optimal, infeasible and unbounded holds, by `one_of_three`.
use Rattle.knapsack.proofs.Demands.{demands}
use Rattle.knapsack.specs.Demands.{Demands}
use Rattle.knapsack.specs.Meaning.{instance_of}
use Rattle.knapsack.specs.declared.Problem.{Problem}
use Rattle.solver.specs.declared.Solved.{Solved}
use Rattle.solver.specs.Outcomes.{Solves}

pub solved-demands : (p : Problem) (r : Solved) → Solves p r → Demands (instance_of p) r.answer
solved-demands p r h = demands (instance_of p) r.answer h.answers
