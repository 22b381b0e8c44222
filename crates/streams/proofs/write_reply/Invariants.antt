use Rattle.std.proofs.Common.{◌≤◌, length}
use Rattle.streams.specs.Carrying.{Turns}
use Rattle.streams.proofs.Carries.{ahead}
use Rattle.streams.proofs.write_reply.Given as goal

-- calls have led here, within the bytes
abbrev pub invariant-loop-output : goal.invariant-loop-output
invariant-loop-output g l = (l.p.at ≤ length l.buf) × Turns (length l.buf) l.p

abbrev pub decreases-loop-output : goal.decreases-loop-output
decreases-loop-output g l = ahead (length l.buf) l.p
