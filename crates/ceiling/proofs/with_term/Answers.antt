use Rattle.arith.proofs.Parts.{within-add, within-mul, within-back}
use Rattle.ceiling.proofs.with_term.Goals as goal

pub returns : goal.returns
returns c =
    let term = within-mul c.requires.1.0 c.requires.1.1 in
    rw (within-back tt c.requires.0, within-back tt c.requires.1.0, within-back tt c.requires.1.1, within-back tt term)
    (within-back tt (within-add c.requires.0 term))
