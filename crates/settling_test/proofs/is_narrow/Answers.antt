use Rattle.std.proofs.Common.{ℕ, ◌<◌, arith}
use native.Mathlib.Nat.{mul-le-mul}
use lib.IntN.{◌-ℤ◌}
use Rattle.arith.specs.Within.{Within}
use Rattle.arith.proofs.Parts.{within-abs, within-sub}
use Rattle.greedy.specs.declared.Columns.{Columns}
use Rattle.greedy.specs.declared.Ends.{Ends}
use Rattle.greedy.specs.Fill.{at, weight_of}
use Rattle.greedy.specs.Sized.{SizedColumns}
use Rattle.ceiling.specs.Sizes.{Spanned}
use Rattle.settling_test.proofs.is_narrow.Goals as goal

-- ends within 10,000 are near for every weight
spanned : (c : Columns) (e : Ends) → SizedColumns c → ((k : ℕ) → k < c.count → Within 10000 (at e.lo k)) →
    ((k : ℕ) → k < c.count → Within 10000 (at e.hi k)) → Spanned c e
spanned c e z lo hi k l = omega (
  arith,
  mul-le-mul (within-abs (weight_of c k) (z.weights-in k))
      (within-abs (at e.hi k -ℤ at e.lo k) (within-sub (hi k l) (lo k l))),
)

pub returns-then-are_near : goal.returns-then-are_near
returns-then-are_near c = λ i. spanned c.args.s.cols c.args.s.ends c.requires.sized.columns (c.are_near.ensures c.if-are_near.true) (c.are_near-then-are_near.ensures i)
