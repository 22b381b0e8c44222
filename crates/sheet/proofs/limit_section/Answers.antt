use Rattle.std.proofs.Common.{◌≡◌, sym, ◌∙◌, arith}
use Rattle.lines.proofs.Shapes.{count-parts}
use Rattle.sheet.specs.Sections.{lines_of, section_of}
use Rattle.sheet.specs.Reading.{limit, limit_section}
use Rattle.sheet.proofs.limit_section.Goals as goal

pub returns-in-Err : goal.returns-in-Err
unfolding limit_section section_of
returns-in-Err c = rw (sym c.heading.ensures ∙ c.in-Err.is) c.refused.ensures

pub returns-in-Ok : goal.returns-in-Ok
unfolding limit_section section_of lines_of
returns-in-Ok c =
    let e = sym c.heading.ensures ∙ c.in-Ok.is in
    let p = count-parts limit 1 1 _ 0 _ _ e in
    let one : c.in-Ok.field-0-0 ≡ 1 = omega (arith, p.least, p.most) in
    rw (e, one) c.limit_line.ensures
