use Rattle.std.proofs.Common.{◌≤◌, ◌≡◌, length}
use Rattle.streams.specs.Carrying.{Turns}
use Rattle.streams.proofs.Carries.{ahead}
use Rattle.streams.proofs.read_sheet.Given as goal

-- calls have led here, within the buffer, which is as long as it was
abbrev pub invariant-loop-input : goal.invariant-loop-input
invariant-loop-input g l =
    (length l.buf ≡ length l.initial.buf) × ((l.p.at ≤ length l.initial.buf) × Turns (length l.initial.buf) l.p)

abbrev pub decreases-loop-input : goal.decreases-loop-input
decreases-loop-input g l = ahead (length l.initial.buf) l.p
