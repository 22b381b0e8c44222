use Rattle.std.proofs.Common.{sym, ◌∙◌, arith}
use Rattle.lines.proofs.Shapes.{count-parts}
use Rattle.sheet.specs.Sections.{section_of}
use Rattle.sheet.specs.Reading.{items, items_section}
use Rattle.sheet.proofs.items_section.Goals as goal

pub returns-in_default : goal.returns-in_default
unfolding items_section section_of
returns-in_default c = rw c.in_default.is

pub item_lines-requires : goal.item_lines-requires
item_lines-requires c =
    let p = count-parts items 1 16 _ _ _ _ (sym c.heading.ensures ∙ c.in-Ok-heading.is) in
    rw c.goes_on.ensures (omega (arith, p.most))

pub returns-in-Err : goal.returns-in-Err
unfolding items_section section_of
returns-in-Err c = rw (c.in-Ok.is, sym c.heading.ensures ∙ c.in-Err.is) c.refused.ensures

pub returns-in-Ok-heading : goal.returns-in-Ok-heading
unfolding items_section section_of
returns-in-Ok-heading c =
    rw (c.in-Ok.is, sym c.heading.ensures ∙ c.in-Ok-heading.is, ← c.with_count.ensures, ← c.goes_on.ensures) c.item_lines.ensures
