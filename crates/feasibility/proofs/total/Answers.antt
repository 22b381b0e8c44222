-- Every sum fits.
use Rattle.std.proofs.Common.{◌≡◌, ◌+◌, ◌≤◌, ◌+ℤ◌, ◌∙◌, ap₂, add-one, arith, lit<, w64, SFits, to_z, of_z, to_z-of_z, ℕ}
use Rattle.arith.proofs.Parts.{within_more, within-sfits}
use Rattle.arith.proofs.Words.{back}
use Rattle.knapsack.specs.declared.Problem.{Problem}
use Rattle.feasibility.specs.Check.{Checkable, total_of}
use Rattle.feasibility.specs.declared.Candidate.{Candidate}
use Rattle.feasibility.specs.declared.Figure.{Figure}
use Rattle.feasibility.proofs.Sizes.{total-within}
use Rattle.feasibility.proofs.total.Goals as goal

fits : (f : Figure) (d k : ℕ) (p : Problem) (c : Candidate) → d ≤ 1000 → Checkable p c → k ≤ p.count → SFits w64 (total_of f d k p c)
fits f d k p c h r l = within-sfits {n = 160000000000000000} (lit< tt) (within_more (omega (arith, r.problem.few-items)) (total-within f d k p c h r l))

pub overflow_add-sum : goal.overflow_add-sum
overflow_add-sum c =
    let a = c.args in
    let next : to_z w64 c.loop-k.sum-bits +ℤ to_z w64 (of_z w64 c.one_term-sum.result) ≡ total_of a.f a.d (c.loop-k.k + 1) a.p a.c
    = rw add-one (ap₂ ◌+ℤ◌ c.loop-k.invariant.sum (back c.one_term-sum.result c.one_term-sum.type_inv ∙ c.one_term-sum.ensures)) in
    rw next (fits a.f a.d (c.loop-k.k + 1) a.p a.c c.requires.0 c.requires.1 (omega arith))

pub loop-k-preserved : goal.loop-k-preserved
loop-k-preserved c =
    let a = c.args in
    let next : to_z w64 c.loop-k.sum-bits +ℤ to_z w64 (of_z w64 c.one_term-sum.result) ≡ total_of a.f a.d (c.loop-k.k + 1) a.p a.c
    = rw add-one (ap₂ ◌+ℤ◌ c.loop-k.invariant.sum (back c.one_term-sum.result c.one_term-sum.type_inv ∙ c.one_term-sum.ensures)) in
    record {
      few = c.loop-k.invariant.few;
      sum = rw next (to_z-of_z (fits a.f a.d (c.loop-k.k + 1) a.p a.c c.requires.0 c.requires.1 (omega arith)));
    }
