-- Every drawn problem is accepted.
use Rattle.model.proofs.Records.{admitted}
use Rattle.drawing.specs.Drawing.{drawn_problem}
use Rattle.drawing.proofs.Drawn.{drawn-admissible}
use Rattle.load.proofs.draw_sheet.Goals as goal

pub sheet_text-requires : goal.sheet_text-requires
sheet_text-requires c = rw c.draw_problem-d.ensures (admitted (drawn_problem c.args.state).problem (drawn-admissible c.args.state))
