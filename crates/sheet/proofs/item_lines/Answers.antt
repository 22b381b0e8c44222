use Rattle.std.proofs.Common.{refl, ap, ◌∙◌, add-one, arith}
use Rattle.sheet.specs.Sections.{step_of, lines_of}
use Rattle.sheet.specs.Reading.{item_form_by}
use Rattle.sheet.proofs.Steps.{step-item}
use Rattle.sheet.proofs.item_lines.Goals as goal

pub loop-init : goal.loop-init
unfolding lines_of
loop-init c = (omega arith, refl)

pub loop-preserved : goal.loop-preserved
unfolding lines_of
loop-preserved c =
    let f = item_form_by c.args.blanks in
    let e = c.item_step-r.ensures in (
      rw e (omega (arith, c.loop.invariant.0, step-item f c.args.s.now c.loop.r (λ i. refl))),
      rw add-one (e ∙ ap (step_of f c.args.s.now) c.loop.invariant.1),
    )
