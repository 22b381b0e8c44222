use Rattle.sheet.specs.Reading.{head_of}
use Rattle.sheet.proofs.head.Goals as goal

pub returns : goal.returns
unfolding head_of
returns c = rw (← c.limit_section.ensures) c.items_section.ensures
