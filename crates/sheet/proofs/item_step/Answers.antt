use Rattle.std.proofs.Common.{sym, ◌∙◌}
use Rattle.sheet.specs.Sections.{step_of}
use Rattle.sheet.specs.Reading.{item_form_by}
use Rattle.sheet.proofs.Sections.{step-on}
use Rattle.sheet.proofs.item_step.Goals as goal

pub returns-in_default : goal.returns-in_default
unfolding step_of
returns-in_default c = rw c.in_default.is

pub returns-in-Err : goal.returns-in-Err
returns-in-Err c =
    rw (step-on (item_form_by c.args.blanks) c.args.s.now c.args.p c.in-Ok.is, sym c.item_at.ensures ∙ c.in-Err.is) c.refused.ensures

pub returns-in-Ok-item_at : goal.returns-in-Ok-item_at
returns-in-Ok-item_at c =
    rw (step-on (item_form_by c.args.blanks) c.args.s.now c.args.p c.in-Ok.is, sym c.item_at.ensures ∙ c.in-Ok-item_at.is) c.item_judged.ensures
