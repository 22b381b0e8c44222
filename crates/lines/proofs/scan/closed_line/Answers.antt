use Rattle.std.proofs.Common.{◌≡◌, suc, ℕ, List, ◌+◌, ◌-◌, ◌≤◌, ◌<◌, length, sym, ap, ◌∙◌, arith, add-one}
use Rattle.lines.specs.Places.{closed_line}
use Rattle.lines.proofs.Places.{end-within, closed_none, closed-last, closed-more}
use Rattle.lines.proofs.scan.closed_line.Goals as goal

pub returns-in_err-from : goal.returns-in_err-from
returns-in_err-from c =
    let e = sym c.first_line_end.ensures ∙ c.in_err-from.was in
    rw c.from_residual.ensures (sym (c.loop.invariant.1 ∙ closed_none (c.args.n - c.loop.counter) _ c.loop.from e))

-- where the end that was found stands
within : (c : goal.In_ok-from) → (c.loop.from ≤ c.in_ok-from.field-0) × (c.in_ok-from.field-0 < length c.args.s.now)
within c = end-within _ c.loop.from _ (sym c.first_line_end.ensures ∙ c.in_ok-from.was)

pub overflow_add-from : goal.overflow_add-from
overflow_add-from c = omega (arith, within c)

pub loop-preserved : goal.loop-preserved
loop-preserved c =
    let s = c.args.s.now in
    let k = c.args.n - (c.loop.counter + 1) in
    let q : c.args.n - c.loop.counter ≡ suc k = omega arith in
    let m = closed-more k s c.loop.from _ (sym c.first_line_end.ensures ∙ c.in_ok-from.was) in
    (omega (arith, within c), c.loop.invariant.1 ∙ ap (λ n. closed_line n s c.loop.from) q ∙ rw (add-one c.in_ok-from.field-0) m)

-- no line is left to pass
passed : (n : ℕ) (s : List ℕ) (k at : ℕ) → closed_line n s 0 ≡ closed_line (n - k) s at → n ≤ k → closed_line n s 0 ≡ closed_line 0 s at
passed n s k at h l = let q : n - k ≡ 0 = omega arith in h ∙ ap (λ m. closed_line m s at) q

pub returns-in_err-end : goal.returns-in_err-end
returns-in_err-end c =
    let e = closed_none 0 _ c.loop.from (sym c.first_line_end-2.ensures ∙ c.in_err-end.was) in
    rw c.from_residual-in_err-end.ensures (sym (passed c.args.n _ c.loop.counter c.loop.from c.loop.invariant.1 (omega arith) ∙ e))

pub returns : goal.returns
returns c =
    let e = closed-last _ c.loop.from _ (sym c.first_line_end-2.ensures ∙ c.in_ok-end.was) in
    sym (passed c.args.n _ c.loop.counter c.loop.from c.loop.invariant.1 (omega arith) ∙ e)
