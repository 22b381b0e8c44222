-- The fault of a field. Paper 02, request 3. A line is read from the left and its first fault is told, so that is the leftmost.
--   in the field's place                                             heading word   number or bound
--   nothing: the field is empty or missing                           2              2
--   something else, or more bytes right behind what should stand     12             13
--   what should stand, but then a field too few or too many,         2              2
--   or no byte 10 at the line's end
-- A wrong mark is 2 (specs/Lines).
--   Read A               what was read and the place behind it, or the reason why it is refused
--   ends_field s at        a field ends at the place: by the sheet's end, a blank or byte 10
--   fault_at wrong s at    the fault where reading a field stopped: at its first byte, or right behind what should stand
use Rattle.std.specs.Prelude.{Bool, true, cond, List, ℕ, eqb, leb, length, Result}
use Rattle.model.specs.declared.refusals.Reason.{Reason}
use Rattle.model.specs.declared.refusals.Reason.TheVariants as refusal
use Rattle.lines.specs.Places.{byte_at}

abbrev pub Read : Type 0 → Type 0
Read A = Result (A × ℕ) Reason

abbrev pub ends_field : List ℕ → ℕ → Bool
ends_field s at = cond (leb (length s) at) true (cond (eqb (byte_at s at) 32) true (eqb (byte_at s at) 10))

abbrev pub fault_at : Reason → List ℕ → ℕ → Reason
fault_at wrong s at = cond (ends_field s at) refusal.Form wrong
