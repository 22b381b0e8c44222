use Rattle.std.proofs.Common.{◌≡◌, arith, ℕ, ◌+◌, w64, to_z, of_z}
use lib.IntN.{nat_abs}
use Rattle.arith.proofs.Parts.{within-back, abs-within}
use Rattle.knapsack.specs.declared.Problem.{Problem}
use Rattle.knapsack.specs.Ranges.{InRange}
use Rattle.prepare.specs.declared.Most.{Most}
use Rattle.prepare.specs.declared.Reach.{Reach}
use Rattle.prepare.specs.Narrowing.{most_of, burden_of, reach_of, Small}
use Rattle.prepare.proofs.Nearer.{most-small, reach-small}
use Rattle.prepare.proofs.narrowing.reach_of.Goals as goal

pub burden-requires : goal.burden-requires
burden-requires c = (c.requires, rw c.most_of-m.ensures (most-small c.args.p c.requires c.args.p.count (omega arith)).0)

-- the reach by what the calls give
abbrev made : ℕ → ℕ → Most → Reach
made n t m = record { weight = n + t + m.weight; amount = m.bound + m.weight }

module _ (p : Problem) (range : InRange p) (n t : ℕ) (m : Most) (size : n ≡ nat_abs (to_z w64 (of_z w64 p.capacity)))
    (burden : t ≡ burden_of p m.weight p.count) (most : m ≡ most_of p p.count) where
  made-is : made n t m ≡ reach_of p
  unfolding reach_of
  made-is = rw (size, burden, most, within-back {n = 100000000} tt (abs-within p.capacity range.capacity-in))

  small : Small (made n t m)
  small = rw made-is (reach-small p range)

pub overflow_add-result : goal.overflow_add-result
overflow_add-result c =
    let s = small c.args.p c.requires _ _ _ c.magnitude.ensures c.burden.ensures c.most_of-m.ensures in
    record { fits = omega (arith, s.weight-in) }

pub overflow_add-result-2 : goal.overflow_add-result-2
overflow_add-result-2 c =
    let s = small c.args.p c.requires _ _ _ c.magnitude.ensures c.burden.ensures c.most_of-m.ensures in
    record { fits = omega (arith, s.weight-in) }

pub overflow_add-result-3 : goal.overflow_add-result-3
overflow_add-result-3 c =
    let s = small c.args.p c.requires _ _ _ c.magnitude.ensures c.burden.ensures c.most_of-m.ensures in
    record { fits = omega (arith, s.amount-in) }

pub returns : goal.returns
returns c = made-is c.args.p c.requires _ _ _ c.magnitude.ensures c.burden.ensures c.most_of-m.ensures
