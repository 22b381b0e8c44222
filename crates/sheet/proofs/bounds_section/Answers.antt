use Rattle.std.proofs.Common.{sym, ◌∙◌, arith}
use Rattle.lines.proofs.Shapes.{count-parts}
use Rattle.sheet.specs.Sections.{section_of}
use Rattle.sheet.specs.Reading.{bounds_section}
use Rattle.sheet.proofs.bounds_section.Goals as goal

pub returns-in_default : goal.returns-in_default
unfolding bounds_section section_of
returns-in_default c = rw c.in_default.is

pub bound_lines-requires : goal.bound_lines-requires
bound_lines-requires c =
    let p = count-parts _ _ _ _ _ _ _ (sym c.bounds_heading.ensures ∙ c.in-Ok-bounds_heading.is) in
    omega (arith, p.most)

pub returns-in-Err : goal.returns-in-Err
unfolding bounds_section section_of
returns-in-Err c = rw (c.in-Ok.is, sym c.bounds_heading.ensures ∙ c.in-Err.is) c.refused.ensures

pub returns-in-Ok-bounds_heading : goal.returns-in-Ok-bounds_heading
unfolding bounds_section section_of
returns-in-Ok-bounds_heading c = rw (c.in-Ok.is, sym c.bounds_heading.ensures ∙ c.in-Ok-bounds_heading.is) c.bound_lines.ensures
