use Rattle.std.proofs.Common.{sym, ◌∙◌, arith}
use Rattle.lines.proofs.Shapes.{count-parts}
use Rattle.sheet.specs.Sections.{section_of}
use Rattle.sheet.specs.Reading.{needs as needs_word, needs_section}
use Rattle.sheet.proofs.needs_section.Goals as goal

pub returns-in_default : goal.returns-in_default
unfolding needs_section section_of
returns-in_default c = rw c.in_default.is

pub need_lines-requires : goal.need_lines-requires
need_lines-requires c =
    let p = count-parts needs_word 0 16 _ _ _ _ (sym c.heading.ensures ∙ c.in-Ok-heading.is) in
    rw (c.goes_on.ensures, c.with_need_count.ensures) (omega (arith, p.most), c.requires)

pub returns-in-Err : goal.returns-in-Err
unfolding needs_section section_of
returns-in-Err c = rw (c.in-Ok.is, sym c.heading.ensures ∙ c.in-Err.is) c.refused.ensures

pub returns-in-Ok-heading : goal.returns-in-Ok-heading
unfolding needs_section section_of
returns-in-Ok-heading c =
    rw (c.in-Ok.is, sym c.heading.ensures ∙ c.in-Ok-heading.is, ← c.with_need_count.ensures, ← c.goes_on.ensures) c.need_lines.ensures
