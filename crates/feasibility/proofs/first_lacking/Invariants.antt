use Rattle.std.proofs.Common.{◌≡◌}
use Rattle.feasibility.specs.Check.{first_lacking}
use Rattle.feasibility.proofs.first_lacking.Given as goal

abbrev pub invariant-loop-j : goal.invariant-loop-j
invariant-loop-j l = l.found ≡ first_lacking l.j l.needs l.c
