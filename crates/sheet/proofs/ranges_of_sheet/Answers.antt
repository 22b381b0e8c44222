use Rattle.std.proofs.Common.{ℕ, zero, suc, ◌≡◌, ◌+◌, Ok, refl, sym, ap, ◌∙◌, arith}
use Rattle.model.specs.declared.refusals.Reason.TheVariants as refusal
use Rattle.model.specs.Records.{item_at}
use Rattle.lines.specs.Places.{refusal_on}
use Rattle.sheet.specs.declared.Progress.{Progress}
use Rattle.sheet.specs.Sections.{stopped_by, on_verdict}
use Rattle.sheet.specs.Reading.{first_ranged, ranged_at, ranges_of}
use Rattle.sheet.proofs.Ranged.{ranged-most}
use Rattle.sheet.proofs.ranges_of_sheet.Goals as goal

pub returns-in_default : goal.returns-in_default
unfolding ranges_of
returns-in_default c = rw c.in_default.is

pub returns-then-k-eq0 : goal.returns-then-k-eq0
unfolding ranges_of
returns-then-k-eq0 c = rw (c.in-Ok.is, sym c.first_ranged-k.ensures ∙ c.if-k-eq0.true)

pub overflow_add-k : goal.overflow_add-k
overflow_add-k c =
    let m = c.args.p.model in
    omega (arith, c.first_ranged-k.ensures, ranged-most (item_at m) m.count)

-- a number that is not 0 is told at its line
stops : (k : ℕ) (p : Progress) → (k ≡ 0 → ⊥) → stopped_by (refusal_on refusal.RangedItem (k + 3)) ≡ ranged_at k p
stops zero p h = absurd (h refl)
stops (suc k) p h = ap (λ n. stopped_by (refusal_on refusal.RangedItem n)) (omega arith)

-- where nothing was refused
ranged : (p : Progress) (k : ℕ) → p.verdict ≡ Ok tt → k ≡ first_ranged p.model.count (item_at p.model) → ranged_at k p ≡ ranges_of p
unfolding ranges_of
ranged p k v e = ap (λ n. ranged_at n p) e ∙ sym (ap (λ w. on_verdict w (ranged_at (first_ranged p.model.count (item_at p.model)) p) p) v)

pub returns : goal.returns
returns c =
    let p = c.args.p in
    let k = c.first_ranged-k.result in
    let e = rw c.number.ensures at c.stopped.ensures in
    e ∙ stops k p c.if-k-eq0.false ∙ ranged p k c.in-Ok.is c.first_ranged-k.ensures
