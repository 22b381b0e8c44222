use Rattle.std.proofs.Common.{◌+◌}
use Rattle.comparing.proofs.+below.Given as goal

abbrev pub decreases-below : goal.decreases-below
decreases-below l = l.d + l.e
