use Rattle.std.specs.Prelude.{◌<◌}
use Rattle.scales_test.proofs.main.Given as goal

abbrev pub invariant-loop-k : goal.invariant-loop-k
invariant-loop-k l = l.s < 2147483648
