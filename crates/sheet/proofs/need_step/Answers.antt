use Rattle.std.proofs.Common.{sym, ◌∙◌, arith}
use Rattle.model.proofs.NeedLines.{line-numbers}
use Rattle.lines.proofs.Shapes.{need-parts}
use Rattle.sheet.specs.Sections.{step_of}
use Rattle.sheet.specs.Reading.{need_form}
use Rattle.sheet.proofs.Sections.{step-on}
use Rattle.sheet.proofs.need_step.Goals as goal

pub returns-in_default : goal.returns-in_default
unfolding step_of
returns-in_default c = rw c.in_default.is

pub need_judged-requires : goal.need_judged-requires
need_judged-requires c =
    let n = line-numbers _ _ _ (need-parts _ _ _ _ _ _ (sym (rw c.line_before-before.ensures at c.need_at.ensures) ∙ c.in-Ok-need_at.is)).fair in
    let few = c.requires.1 in (
      c.requires.0,
      record {
        first-least = n.first-least;
        first-most = omega (arith, n.first-most);
        second-least = n.second-least;
        second-most = omega (arith, n.second-most);
        different = n.different;
      },
    )

pub returns-in-Err : goal.returns-in-Err
returns-in-Err c =
    let e = sym (rw c.line_before-before.ensures at c.need_at.ensures) ∙ c.in-Err.is in
    rw (step-on need_form c.args.s.now c.args.p c.in-Ok.is, e) c.refused.ensures

pub returns-in-Ok-need_at : goal.returns-in-Ok-need_at
returns-in-Ok-need_at c =
    let e = sym (rw c.line_before-before.ensures at c.need_at.ensures) ∙ c.in-Ok-need_at.is in
    rw (step-on need_form c.args.s.now c.args.p c.in-Ok.is, e) c.need_judged.ensures
