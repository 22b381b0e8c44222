use Rattle.model.specs.Records.{need_at, needs_up_to}
use Rattle.planner.specs.Branching.{NamedBy}
use Rattle.planner.proofs.named_of.Given as goal

abbrev pub invariant-loop-i : goal.invariant-loop-i
invariant-loop-i l = NamedBy (needs_up_to l.i (need_at l.ns)) l.named
