use Rattle.std.proofs.Common.{◌≡◌}
use Rattle.greedy.specs.Fill.{at}
use Rattle.setting.specs.Box.{fixed_in}
use Rattle.setting.proofs.fixed_in.Given as goal

abbrev pub invariant-loop-k : goal.invariant-loop-k
invariant-loop-k l = l.to ≡ fixed_in l.initial.to l.level (at l.x) l.k
