-- What a record or a sheet is told: that it is accepted, or its refusal.
use Rattle.std.specs.Prelude.{Result}
use Rattle.knapsack.specs.declared.Refusal.{Refusal}

abbrev pub Verdict : Type 0
Verdict = Result (Unit {0}) Refusal
