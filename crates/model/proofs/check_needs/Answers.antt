use Rattle.std.proofs.Common.{refl, sym, ◌∙◌, arith, add-one}
use Rattle.model.specs.Records.{needs_verdict}
use Rattle.model.proofs.Records.{needs-stop}
use Rattle.model.proofs.check_needs.Goals as goal

pub loop-j-init : goal.loop-j-init
unfolding needs_verdict
loop-j-init c = refl

pub returns-in_err-check_need : goal.returns-in_err-check_need
returns-in_err-check_need c = let h = c.in_err-check_need.was in let g = c.from_residual.ensures in let k = needs-stop c.held_of-j-end.result c.loop-j.j c.args.m c.in_err-check_need.field-0.0 (omega arith) c.loop-j.invariant (sym c.check_need.ensures ∙ c.in_err-check_need.was) in grind (arith, k)

pub loop-j-preserved : goal.loop-j-preserved
unfolding needs_verdict
loop-j-preserved c = rw (add-one, c.loop-j.invariant, ← c.check_need.ensures) c.in_ok-check_need.was
