-- A section leaves the count, so each finds at most 16 items.
use Rattle.drawing.specs.Drawing.{drawn_problem}
use Rattle.drawing.proofs.Sections.{heading-few, items-sized, lowers-sized}
use Rattle.drawing.proofs.draw_problem.Goals as goal

pub draw_section-items-requires : goal.draw_section-items-requires
draw_section-items-requires c = rw c.draw_heading-heading.ensures (heading-few c.args.state)

pub draw_section-lower-requires : goal.draw_section-lower-requires
draw_section-lower-requires c = rw (c.draw_section-items.ensures, c.draw_heading-heading.ensures) (items-sized c.args.state).few

pub draw_section-requires : goal.draw_section-requires
draw_section-requires c = rw (c.draw_section-lower.ensures, c.draw_section-items.ensures, c.draw_heading-heading.ensures) (lowers-sized c.args.state).few

pub returns : goal.returns
unfolding drawn_problem
returns c = rw (c.draw_section.ensures, c.draw_section-lower.ensures, c.draw_section-items.ensures, c.draw_heading-heading.ensures)
