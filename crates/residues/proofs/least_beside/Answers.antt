use Rattle.std.proofs.Common.{arith}
use Rattle.residues.proofs.least_beside.Goals as goal

pub returns-then-f-lt17-clause-takes_by : goal.returns-then-f-lt17-clause-takes_by
returns-then-f-lt17-clause-takes_by c = record { plainly = λ h. absurd (omega arith); modulo = λ h. c.least_modulo.ensures.takes }
