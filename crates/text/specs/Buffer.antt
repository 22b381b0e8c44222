-- Texts in a buffer, by value or lent. Paper 01, "Text", and refusal 11: lent buffer shorter than the text.
--   put at text b             b with the text from a place on; what stands before and behind it stays
--   Put most at text b c r    what a function leaves that writes a text of no more than most bytes there, and its reply r
--   Spelled n d               d holds the digits of n
--   Shows text t              t holds the text by value
--   too_short text b           the buffer b is shorter than the text
--   noted f                   the reply that tells a refusal
--   told text b               the reply of a function that lists a text: how long the text is, or refusal 11
--   filled text b             the buffer afterwards: the text and the bytes behind it, or the buffer as it was
use Rattle.std.specs.Prelude.{◌≡◌, Bool, cond, List, ◌++◌, ℕ, ◌+◌, ◌≤◌, ltb, length, take, drop}
use Rattle.knapsack.specs.declared.Refusal.{Refusal}
use Rattle.model.specs.declared.refusals.Reason.TheVariants as refusal
use Rattle.model.specs.Refusals.{number_of}
use Rattle.text.specs.declared.Digits.{Digits}
use Rattle.text.specs.declared.Text.{Text}
use Rattle.std.specs.Prelude.{Ok, Err, Result}
use Rattle.text.specs.Decimal.{decimal}

unfoldable pub put : ℕ → List ℕ → List ℕ → List ℕ
put at text b = take at b ++ (text ++ drop (at + length text) b)

-- the reply r is the place behind the text
pub record Put (most at : ℕ) (text before after : List ℕ) (r : ℕ) : Type 0 where
  pub short : length text ≤ most
  pub next : r ≡ at + length text
  pub bytes : after ≡ put at text before

pub record Spelled (n : ℕ) (d : Digits) : Type 0 where
  pub sized : length d.bytes ≡ 20
  pub inside : d.first ≤ 20
  pub spelled : drop d.first d.bytes ≡ decimal n

-- counted follows from inside: it is what a program that lends the part `&bytes[..len]` is asked
pub record Shows (text : List ℕ) (t : Text) : Type 0 where
  pub size : t.len ≡ length text
  pub inside : t.len ≤ length t.bytes
  pub counted : t.len ≡ length (take t.len t.bytes)
  pub shown : take t.len t.bytes ≡ text

abbrev pub too_short : List ℕ → List ℕ → Bool
too_short text b = ltb (length b) (length text)

abbrev pub noted : Refusal → Result ℕ Refusal
noted f = Err f

unfoldable pub told : List ℕ → List ℕ → Result ℕ Refusal
told text b = cond (too_short text b) (noted (record { number = number_of refusal.ShortBuffer; line = 0 })) (Ok (length text))

unfoldable pub filled : List ℕ → List ℕ → List ℕ
filled text b = cond (too_short text b) b (text ++ drop (length text) b)
