-- The tests are those of the definition, in its order.
use mathlib.Core.Path.{◌≡◌, refl, sym, ap, ap₂, ◌∙◌}
use mathlib.Core.Bool.{Bool}
use Prim.Native.Nat.{ℕ, zero, suc, ◌≤◌, ◌<◌}
use native.Mathlib.Omega.{arith}
use lib.IntN.{ℤ}
use lib.Signed.{lt_z}
use mir.Syntax.{w64}
use mir.Val.{SFits}
use mir.Facts.{to_z-of_z}
use borrow.Author.Rules.{rules}
use Rattle.arith.specs.Within.{Within}
use Rattle.arith.specs.Gcd.{lowest}
use Rattle.arith.proofs.Parts.{within_more}
use Rattle.arith.proofs.Words.{back}
use Rattle.feasibility.specs.declared.Figure.TheVariants.{Price}
use Rattle.feasibility.specs.declared.Finding.{Finding}
use Rattle.feasibility.specs.declared.Finding.TheVariants.{Violates, Feasible}
use Rattle.feasibility.specs.Check.{total_of, after_items, judged}
use Rattle.feasibility.proofs.Sizes.{total-within}
use Rattle.feasibility.proofs.judge.Goals as goal

item-told : (k : ℕ) (r : Finding) → 0 < k → Violates k ≡ after_items k r
item-told zero r l = absurd (omega arith)
item-told (suc k) r l = refl

none_told : (k : ℕ) (r : Finding) → k ≤ 0 → after_items k r ≡ r
none_told zero r l = refl
none_told (suc k) r l = absurd (omega arith)

pub returns-then-k-gt0 : goal.returns-then-k-gt0
unfolding judged
returns-then-k-gt0 c = rw (sym c.first_breach-k.ensures) (item-told _ _ c.if-k-gt0.true)

same-test : {x y a b : ℤ} {t : Bool} → x ≡ a → y ≡ b → lt_z x y ≡ t → lt_z a b ≡ t
same-test p q e = sym (ap₂ lt_z p q) ∙ e

pub returns-then-b-w : goal.returns-then-b-w
unfolding judged
returns-then-b-w c =
    let h : SFits w64 c.args.p.capacity = search rules in
    let limit = back c.times-b.result c.times-b.type_inv ∙ (rw (to_z-of_z h) at c.times-b.ensures) in
    let weight = back c.total-w.result c.total-w.type_inv ∙ c.total-w.ensures in
    rw (sym c.first_breach-k.ensures, none_told _ _ c.if-k-gt0.false, same-test limit weight c.if-b-w.true)

pub reduce-requires : goal.reduce-requires
reduce-requires c =
    let r = c.requires.1.0 in
    let small : Within 1000000000000000000 (total_of Price c.args.d c.args.p.count c.args.p c.args.c)
    = within_more (omega (arith, r.problem.few-items)) (total-within Price c.args.d c.args.p.count c.args.p c.args.c c.requires.0.1 r (omega arith)) in
    (rw (back c.total-v.result c.total-v.type_inv ∙ c.total-v.ensures) small, c.requires.0.0)

pub returns : goal.returns
unfolding judged
returns c =
    let h : SFits w64 c.args.p.capacity = search rules in
    let limit = back c.times-b.result c.times-b.type_inv ∙ (rw (to_z-of_z h) at c.times-b.ensures) in
    let weight = back c.total-w.result c.total-w.type_inv ∙ c.total-w.ensures in
    rw (sym c.first_breach-k.ensures, none_told _ _ c.if-k-gt0.false, same-test limit weight c.if-b-w.false)
    (ap Feasible (c.reduce.ensures ∙ ap (λ v. lowest v c.args.d) (back c.total-v.result c.total-v.type_inv ∙ c.total-v.ensures)))
