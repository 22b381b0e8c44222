-- Places in a text, its words and its lines. Paper 01, "The sheet".
--   byte_at s at        the byte at a place; 256, which is no byte, behind the last
--   after_byte s at b   the place behind the byte b, if b stands at the place
--   on_place p a f      f of the place, or a where there is none
--   after_word s at w   the place behind the word w, if w stands at the place
--   first_end at l      the place of the first byte 10 of l, whose first byte is at the place
--   ends l             how many bytes 10 there are
--   line_at s at        the number of the line that holds a place, from 1
--   closed_line n s at  where the line behind n line ends stands, from a place on
--   refusal_on n l           refusal n at line l
--   Asked               where the line that was asked for stands, up to its byte 10, or the refusal that is told
--   too_long            no line is asked for of a sheet that is too long, and there is no line 0
--   closed_or n x       the line, or refusal 2 at line n where the sheet closes none
--   asked_line s n      the line with number n, or the refusal where there is none
--   line_part s n       its bytes without the byte 10, by bytes_of; none where it is refused
--   check_line s n      whether there is one, by verdict_of
use Rattle.std.specs.Prelude.{cond, List, [], ◌∷◌, ℕ, zero, suc, ◌-◌, eqb, ltb, length, get_or, take, drop}
use Rattle.knapsack.specs.declared.Refusal.{Refusal}
use Rattle.knapsack.specs.Verdicts.{Verdict}
use Rattle.std.specs.Prelude.{Option, None, Some, Result, Ok, Err}
use Rattle.model.specs.declared.refusals.Reason.{Reason}
use Rattle.model.specs.declared.refusals.Reason.TheVariants as refusal
use Rattle.model.specs.Refusals.{number_of}

abbrev pub byte_at : List ℕ → ℕ → ℕ
byte_at s at = get_or s at 256

abbrev pub after_byte : List ℕ → ℕ → ℕ → Option ℕ
after_byte s at b = cond (eqb (byte_at s at) b) (Some (suc at)) None

abbrev pub on_place : {A : Type 0} → Option ℕ → A → (ℕ → A) → A
on_place None a f = a
on_place (Some n) a f = f n

unfoldable pub after_word : List ℕ → ℕ → List ℕ → Option ℕ
after_word s at [] = Some at
after_word s at (b ∷ w) = on_place (after_byte s at b) None (λ n. after_word s n w)

unfoldable pub first_end : ℕ → List ℕ → Option ℕ
first_end at [] = None
first_end at (b ∷ l) = cond (eqb b 10) (Some at) (first_end (suc at) l)

unfoldable pub ends : List ℕ → ℕ
ends [] = 0
ends (b ∷ l) = cond (eqb b 10) (suc (ends l)) (ends l)

abbrev pub line_at : List ℕ → ℕ → ℕ
line_at s at = suc (ends (take at s))

unfoldable pub closed_line : ℕ → List ℕ → ℕ → Option (ℕ × ℕ)
closed_line zero s at = on_place (first_end at (drop at s)) None (λ e. Some (at, e))
closed_line (suc n) s at = on_place (first_end at (drop at s)) None (λ e. closed_line n s (suc e))

abbrev pub refusal_on : Reason → ℕ → Refusal
refusal_on n l = record { number = number_of n; line = l }

abbrev pub Asked : Type 0
Asked = Result (ℕ × ℕ) Refusal

abbrev pub too_long : Asked
too_long = Err (refusal_on refusal.Overlong 0)

abbrev pub closed_or : ℕ → Option (ℕ × ℕ) → Asked
closed_or n None = Err (refusal_on refusal.Form n)
closed_or n (Some (a, e)) = Ok (a, e)

abbrev pub asked_line : List ℕ → ℕ → Asked
asked_line s n = cond (ltb 4096 (length s)) too_long (cond (eqb n 0) too_long (closed_or n (closed_line (n - 1) s 0)))

abbrev pub bytes_of : List ℕ → Asked → List ℕ
bytes_of s (Err r) = []
bytes_of s (Ok (a, e)) = take (e - a) (drop a s)

abbrev pub line_part : List ℕ → ℕ → List ℕ
line_part s n = bytes_of s (asked_line s n)

abbrev pub verdict_of : Asked → Verdict
verdict_of (Err r) = Err r
verdict_of (Ok (a, e)) = Ok tt

abbrev pub check_line : List ℕ → ℕ → Verdict
check_line s n = verdict_of (asked_line s n)
