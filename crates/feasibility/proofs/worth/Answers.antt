-- Over the common divisor the sum is the value.
use mathlib.Core.Path.{◌≡◌, sym, subst}
use Prim.Native.Nat.{ℕ, ◌≤◌}
use Rattle.arith.proofs.Words.{back}
use Rattle.knapsack.specs.Ranges.{item_at}
use Rattle.feasibility.specs.Amounts.{proposed_at, common_divisor}
use Rattle.feasibility.proofs.Divisor.{Divided, divided, divided-few, divisor-iff}
use Rattle.feasibility.proofs.Meaning.{good-at, worth-is}
use Rattle.feasibility.specs.declared.Candidate.{Candidate}
use Rattle.feasibility.specs.Check.{Sizeable}
use Rattle.knapsack.specs.declared.Problem.{Problem}
use Rattle.feasibility.proofs.worth.Goals as goal

module _ (p : Problem) (c : Candidate) (h : Sizeable p c) (d : ℕ) (e : d ≡ common_divisor c.count (item_at p) (proposed_at c)) where
  -- the divisor is that of the problem's items
  divisor-is : d ≡ common_divisor p.count (item_at p) (proposed_at c)
  divisor-is = subst (λ n. d ≡ common_divisor n (item_at p) (proposed_at c)) h.counted e

  -- it serves all amounts
  over : Divided p.count (item_at p) (proposed_at c) d
  over = subst (Divided p.count (item_at p) (proposed_at c)) (sym divisor-is)
      (divided p.count (item_at p) (proposed_at c) ((divisor-iff p.count (item_at p) (proposed_at c)).1 h.amounts))

  few : d ≤ 1000
  few = rw divisor-is (divided-few p.count (item_at p) (proposed_at c) h.problem.items-in ((divisor-iff p.count (item_at p) (proposed_at c)).1 h.amounts))

pub total-requires : goal.total-requires
total-requires c =
    let p = c.args.p in
    let h = c.requires in
    let d = c.common_divisor-d in (
      few p c.args.c h d.result d.ensures,
      record { problem = h.problem; amounts = good-at p c.args.c d.result h.problem (over p c.args.c h d.result d.ensures) },
    )

pub returns : goal.returns
returns c =
    let p = c.args.p in
    let d = c.common_divisor-d in
    rw (back c.total.result c.total.type_inv)
    (worth-is p c.args.c d.result c.requires.problem (over p c.args.c c.requires d.result d.ensures) c.total.result c.total.ensures)
