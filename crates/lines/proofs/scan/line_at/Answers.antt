use Rattle.std.proofs.Common.{◌≤◌, ◌<◌, length, sym, ◌∙◌, arith, add-one}
use native.Mathlib.Nat.{sub-zero}
use Rattle.lines.proofs.Places.{end-within, ends-past, ends-before, ends-none}
use Rattle.lines.proofs.scan.line_at.Goals as goal

pub loop-e-init : goal.loop-e-init
loop-e-init c = (omega arith, omega arith, rw sub-zero (omega arith))

pub returns-then-at-e : goal.returns-then-at-e
returns-then-at-e c =
    let n = ends-before _ c.loop-e.from c.args.at c.in-Some.e (sym c.first_line_end.ensures ∙ c.in-Some.is) c.if-at-e.true in
    omega (arith, n, c.loop-e.invariant.2)

-- where the end that was found stands
within : (c : goal.Else-at-e) → (c.loop-e.from ≤ c.in-Some.e) × (c.in-Some.e < length c.args.s.now)
within c = end-within _ c.loop-e.from _ (sym c.first_line_end.ensures ∙ c.in-Some.is)

pub loop-e-smaller : goal.loop-e-smaller
loop-e-smaller c = omega (arith, within c)

pub loop-e-preserved : goal.loop-e-preserved
loop-e-preserved c =
    let n = ends-past _ c.loop-e.from c.args.at c.in-Some.e (sym c.first_line_end.ensures ∙ c.in-Some.is) c.if-at-e.false in
    (omega (arith, within c), omega (arith, within c, c.loop-e.invariant.1), rw (add-one c.in-Some.e) (omega (arith, n, c.loop-e.invariant.2)))

pub returns : goal.returns
returns c =
    let n = ends-none _ c.loop-e.from c.args.at (sym c.first_line_end.ensures ∙ c.in_default.is) in
    omega (arith, n, c.loop-e.invariant.2)
