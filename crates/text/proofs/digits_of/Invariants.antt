-- The digits of the rest, and those stored, are the number's.
use Rattle.std.proofs.Common.{◌≡◌, ◌++◌, ◌^◌, ◌<◌, ◌≤◌, length, drop}
use Rattle.text.specs.Decimal.{digits, decimal}
use Rattle.text.proofs.digits_of.Given as goal

abbrev pub invariant-loop-rest : goal.invariant-loop-rest
invariant-loop-rest l = record {
  inside : l.first ≤ 19;
  fits : l.rest < 10 ^ l.first;
  sized : length l.bytes ≡ 20;
  written : digits l.rest ++ drop l.first l.bytes ≡ decimal l.n;
}

abbrev pub decreases-loop-rest : goal.decreases-loop-rest
decreases-loop-rest l = l.rest
