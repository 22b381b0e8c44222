use Rattle.std.proofs.Common.{◌≤◌, ◌<◌, length, sym, ◌∙◌, arith}
use Rattle.lines.proofs.Places.{asked-within}
use Rattle.lines.proofs.scan.line_part.Goals as goal

-- where the line stands
within : (c : goal.In-Ok) → (c.in-Ok.a ≤ c.in-Ok.e) × (c.in-Ok.e < length c.args.s.now)
within c = asked-within _ c.args.line _ _ (sym c.asked_line.ensures ∙ c.in-Ok.is)

pub slice_bounds-result-count : goal.slice_bounds-result-count
slice_bounds-result-count c = omega (arith, within c)

pub slice_bounds-result-start : goal.slice_bounds-result-start
slice_bounds-result-start c = omega (arith, within c)

pub slice_bounds-result-end : goal.slice_bounds-result-end
slice_bounds-result-end c = omega (arith, within c)
