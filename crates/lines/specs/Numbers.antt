-- Numbers as a sheet writes them. Paper 01, "The sheet": `0`, or an optional minus, a digit 1 to 9 and further digits, of any length.
--   is_digit b           b is a digit; is_leading b: a digit 1 to 9
--   digit_run l          the digits that l begins with; what they write is read_after 0 of them (crate text)
--   RunFrom s at r      r is the run at a place: its value, which stops at 1,000,000,000, and the place behind it
--   Numeral             what stands in a number's place: none, or numeral z n with the place n behind it
--   signed_of m n        n, or its opposite where there is a minus
--   unsigned_at m s at   the number behind its sign
--   number_at s at       the number at a place, and the place behind it
--   from_to a b          the range of the numbers from a to b; only k: of the number k alone
--   ranged r z          z, if it lies in the range
--   inRange r x         a numeral as a figure of the range
--   closed_by b s at x   the figure as a field, if the byte b closes it, else the field's fault (specs/Faults)
--   field_at b r s at    the field in a number's place, which the byte b closes
--   Narrow r            a range that the code's saturated value lies beyond
use Rattle.std.specs.Prelude.{◌≡◌, Bool, true, false, cond, List, [], ◌∷◌, ℕ, ◌+◌, min, ltb, ℤ, pos, neg_ℤ, length, drop, Option, None, Some, Ok, Err}
use Rattle.std.specs.Int.Signed.{lt_z}
use Rattle.arith.specs.Within.{Within}
use Rattle.model.specs.declared.refusals.Reason.TheVariants as refusal
use Rattle.text.specs.Decimal.{read_after}
use Rattle.lines.specs.declared.number.Run.{Run}
use Rattle.lines.specs.declared.number.Range.{Range}
use Rattle.lines.specs.Places.{byte_at, after_byte, on_place}
use Rattle.lines.specs.Faults.{Read, fault_at}

abbrev pub is_digit : ℕ → Bool
is_digit b = cond (ltb b 48) false (ltb b 58)

-- a digit 1 to 9
abbrev pub is_leading : ℕ → Bool
is_leading b = cond (ltb b 49) false (ltb b 58)

unfoldable pub digit_run : List ℕ → List ℕ
digit_run [] = []
digit_run (b ∷ l) = cond (is_digit b) (b ∷ digit_run l) []

-- the run of digits at a place, as the code reads it
pub record RunFrom (s : List ℕ) (from : ℕ) (r : Run) : Type 0 where
  pub capped : r.value ≡ min (read_after 0 (digit_run (drop from s))) 1000000000
  pub behind : r.next ≡ from + length (digit_run (drop from s))

-- what stands in a number's place
pub data Numeral : Type 0 where
  none : Numeral
  numeral : ℤ → ℕ → Numeral

abbrev pub signed_of : Bool → ℕ → ℤ
signed_of true n = neg_ℤ (pos n)
signed_of false n = pos n

-- the number behind its sign
abbrev pub unsigned_at : Bool → List ℕ → ℕ → Numeral
unsigned_at negative s at =
    cond (is_leading (byte_at s at))
    (numeral (signed_of negative (read_after 0 (digit_run (drop at s)))) (at + length (digit_run (drop at s))))
    none

abbrev pub number_at : List ℕ → ℕ → Numeral
number_at s at =
    on_place (after_byte s at 48)
    (on_place (after_byte s at 45) (unsigned_at false s at) (λ n. unsigned_at true s n))
    (λ n. numeral (pos 0) n)

abbrev pub from_to : ℕ → ℕ → Range
from_to a b = record { lo = pos a; hi = pos b }

abbrev pub only : ℕ → Range
only k = from_to k k

abbrev pub ranged : Range → ℤ → Option ℤ
ranged r z = cond (lt_z z r.lo) None (cond (lt_z r.hi z) None (Some z))

abbrev pub in_range : Range → Numeral → Option (Option ℤ × ℕ)
in_range r none = None
in_range r (numeral z n) = Some (ranged r z, n)

abbrev pub closed_by : ℕ → List ℕ → ℕ → Option (Option ℤ × ℕ) → Read (Option ℤ)
closed_by b s at None = Err (fault_at refusal.Number s at)
closed_by b s at (Some (f, n)) = on_place (after_byte s n b) (Err (fault_at refusal.Number s n)) (λ m. Ok (f, m))

unfoldable pub field_at : ℕ → Range → List ℕ → ℕ → Read (Option ℤ)
field_at b r s at = closed_by b s at (in_range r (number_at s at))

-- a range whose ends the code's saturated value, 1,000,000,000, lies beyond
pub record Narrow (r : Range) : Type 0 where
  pub low : Within 999999999 r.lo
  pub high : Within 999999999 r.hi
