use Rattle.std.proofs.Common.{rules, sym, ◌∙◌, w64}
use mir.Facts.{to_z-of_z}
use mir.Val.{SFits}
use Rattle.sheet.specs.Sections.{step_of}
use Rattle.sheet.proofs.limit_line.Goals as goal

pub returns-in-Err : goal.returns-in-Err
unfolding step_of
returns-in-Err c = rw (sym c.closed_number.ensures ∙ c.in-Err.is) c.refused.ensures

pub returns-in-Ok-None-default : goal.returns-in-Ok-None-default
unfolding step_of
returns-in-Ok-None-default c = rw (sym c.closed_number.ensures ∙ c.in-Ok-None-default.is, c.in-Ok-None-default.field-0-0-is) c.refused-in-Ok-None-default.ensures

pub returns-in-Ok-Some-default : goal.returns-in-Ok-Some-default
unfolding step_of
returns-in-Ok-Some-default c =
    let b : SFits w64 c.in-Ok-Some-default.b = search rules in
    rw (sym c.closed_number.ensures ∙ c.in-Ok-Some-default.is, c.in-Ok-Some-default.field-0-0-is)
    (c.goes_on.ensures ∙ rw (c.with_capacity.ensures, c.empty_model.ensures, to_z-of_z b))
