use Rattle.std.proofs.Common.{◌≡◌}
use Rattle.dropping.specs.Dropping.{dropped_to}
use Rattle.dropping.proofs.drop_blanks.Given as goal

abbrev pub invariant-loop-j : goal.invariant-loop-j
invariant-loop-j l = l.q ≡ dropped_to l.m l.m.count l.j
