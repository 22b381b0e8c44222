use Rattle.std.proofs.Common.{◌≡◌, ◌+◌, ◌*◌, ◌≤◌, length, add-one, arith}
use native.Mathlib.Nat.{mul-le-mul}
use Rattle.scales.specs.Filling as filling
use Rattle.scales.proofs.Sums.{sum-part}
use Rattle.fillings.specs.Ranges.{num}
use Rattle.fillings.proofs.low_load.Goals.{In-loop-k}
use Rattle.fillings.proofs.low_load.Goals as goal

-- what a part weighs
term : (c : In-loop-k) → num c.args.p.weight c.loop-k.k * num c.args.r.low c.loop-k.k ≤ 150000000000000000
term c =
    let s = c.args in
    let k = c.loop-k.k in
    let f = c.requires.0 in
    let w = sum-part (length s.p.weight) (num s.p.weight) k (omega (arith, f.long)) in
    let a : num s.r.low k ≤ 8796093022208 = omega (arith, c.requires.1 k (omega arith), f.ranges_in k (omega arith)) in
    let b : num s.p.weight k ≤ 16384 = omega (arith, f.light) in
    omega (arith, mul-le-mul b a)

pub overflow_mul-sum : goal.overflow_mul-sum
overflow_mul-sum c = omega (arith, term (goal.at.overflow_mul-sum c).In-loop-k)

pub overflow_add-sum : goal.overflow_add-sum
overflow_add-sum c = omega (arith, term (goal.at.overflow_add-sum c).In-loop-k)

pub loop-k-preserved : goal.loop-k-preserved
loop-k-preserved c =
    let s = c.args in
    let k = c.loop-k.k in
    let e : filling.sum (k + 1) (λ j. num s.p.weight j * num s.r.low j) ≡ filling.sum k (λ j. num s.p.weight j * num s.r.low j) + num
    s.p.weight k * num s.r.low k = rw add-one in
    (omega (arith, term (goal.at.loop-k-preserved c).In-loop-k), omega (arith, e))

pub returns : goal.returns
returns c =
    let e : c.loop-k.k ≡ length c.args.p.weight = omega (arith, c.requires.0.long) in
    record { value = rw e at c.loop-k.invariant.1; upper_bound = omega arith }
