-- Where the common divisor is not 0 the amounts are ready for yes or no.
use mathlib.Core.Bool.{Bool, true, false, not}
use mathlib.Core.Path.{◌≡◌, refl, sym, ◌∙◌}
use Prim.Native.Nat.{ℕ, ◌<◌}
use native.Mathlib.Omega.{arith}
use borrow.Author.Rules.{rules}
use borrow.Author.Tests.{eqb-true, eqb-false}
use Rattle.feasibility.specs.Amounts.{proposed_at, GoodAmount, common_divisor}
use Rattle.knapsack.specs.Ranges.{item_at}
use Rattle.model.proofs.Records.{row-clear}
use Rattle.model.specs.Records.{ItemFigures}
use Rattle.model.specs.declared.refusals.Reason.TheVariants as refusal
use Rattle.feasibility.specs.Check.{amount_check}
use Rattle.feasibility.proofs.Divisor.{good-amount, divided, divided-few}
use Rattle.feasibility.proofs.Meaning.{row}
use Rattle.feasibility.proofs.check_amounts.Goals as goal

pub returns-in_err-refuse_if : goal.returns-in_err-refuse_if
unfolding amount_check
returns-in_err-refuse_if c = rw (← row _ refusal.Amounts _, ← c.refuse_if.ensures, c.in_err-refuse_if.was) (search rules)

pub returns-in_err-refuse_if-2 : goal.returns-in_err-refuse_if-2
unfolding amount_check
returns-in_err-refuse_if-2 c =
    rw (
      ← row _ refusal.Amounts _,
      ← row _ refusal.Amount _,
      ← c.refuse_if.ensures,
      c.in_ok-refuse_if.was,
      ← c.common_divisor-d.ensures,
      ← c.refuse_if-2.ensures,
      c.in_err-refuse_if-2.was,
    ) (search rules)

not-false : (b : Bool) → not b ≡ false → b ≡ true
not-false true h = refl
not-false false h = sym h

pub judge-requires : goal.judge-requires
judge-requires c =
    let e : c.args.c.count ≡ c.args.p.count = eqb-true _ _ (not-false _ (row-clear _ refusal.Amounts (sym c.refuse_if.ensures ∙ c.in_ok-refuse_if.was))) in
    let n = c.args.c.count in
    let items = item_at c.args.p in
    let amounts = proposed_at c.args.c in
    let nonzero : common_divisor n items amounts ≡ 0 → ⊥ = λ z. eqb-false _ 0 (row-clear _ refusal.Amount (sym c.refuse_if-2.ensures ∙ c.in_ok-refuse_if-2.was)) (c.common_divisor-d.ensures ∙ z) in
    let v = divided n items amounts nonzero in
    let r : (k : ℕ) → k < n → ItemFigures (items k) = λ k l. c.requires.0.items-in k (rw (← e) l) in
    let g : (k : ℕ) → k < n → GoodAmount (amounts k) = λ k l. good-amount (items k) (amounts k) (r k l) (v.fine k l) in (
      rw c.common_divisor-d.ensures (v.some, divided-few n items amounts r nonzero),
      (
        record { problem = c.requires.0; amounts = λ k l. g k (rw e l) },
        record { lined = rw e c.requires.1; few-amounts = omega (arith, e, c.requires.0.few-items); amounts = g },
      ),
    )

pub returns : goal.returns
unfolding amount_check
returns c =
    rw (
      ← row _ refusal.Amounts _,
      ← row _ refusal.Amount _,
      ← c.refuse_if.ensures,
      c.in_ok-refuse_if.was,
      ← c.common_divisor-d.ensures,
      ← c.refuse_if-2.ensures,
      c.in_ok-refuse_if-2.was,
      ← c.judge.ensures,
    )
