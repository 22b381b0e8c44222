use Rattle.std.proofs.Common.{refl, ap, ◌∙◌, add-one, arith}
use Rattle.sheet.specs.Sections.{step_of, lines_of}
use Rattle.sheet.specs.Reading.{need_form}
use Rattle.sheet.proofs.Steps.{step-item, need-few}
use Rattle.sheet.proofs.need_lines.Goals as goal

pub loop-init : goal.loop-init
unfolding lines_of
loop-init c = (omega arith, c.requires.1, refl)

pub loop-preserved : goal.loop-preserved
unfolding lines_of
loop-preserved c =
    let s = c.args.s.now in
    let e = c.need_step-r.ensures in (
      rw e (omega (arith, c.loop.invariant.0, step-item need_form s c.loop.r (λ i. refl))),
      rw e (need-few s c.loop.r c.loop.invariant.1),
      rw add-one (e ∙ ap (step_of need_form s) c.loop.invariant.2),
    )
