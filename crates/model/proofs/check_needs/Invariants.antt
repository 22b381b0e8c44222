use Rattle.std.proofs.Common.{◌≡◌, Ok}
use Rattle.model.specs.Records.{needs_verdict}
use Rattle.model.proofs.check_needs.Given as goal

abbrev pub invariant-loop-j : goal.invariant-loop-j
invariant-loop-j l = needs_verdict l.j l.m ≡ Ok tt
