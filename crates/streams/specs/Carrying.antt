-- Bytes carried from standard input or to standard output, call by call.
--   begun           nothing is carried yet, and a million interruptions may come
--   goes_on p n      a further call is made for n bytes
--   is_whole p n     all was read: to the end of the input, or as far as n bytes go
--   moved p k       a call moved k bytes; the interruptions that may come stay as many
--   closed p good   a call moved nothing: the input has ended, or the call has failed
--   stalled p k     a signal came before a byte moved: only k more may come
--   Turn n p q      one call leads from p to q
--   Turns n p       calls lead from the beginning to p
--   Carried n p     so they do, and no further call is made
use Rattle.std.specs.Prelude.{ℕ, ◌+◌, ◌≤◌, ◌≡◌, Bool, true, false, cond, ltb, eqb}
use Rattle.streams.specs.declared.Progress.{Progress}

abbrev pub begun : Progress
begun = record { at = 0; more = true; good = true; left = 1000000 }

abbrev pub goes_on : Progress → ℕ → Bool
goes_on p n = cond p.more (cond (ltb p.at n) (ltb 0 p.left) false) false

abbrev pub is_whole : Progress → ℕ → Bool
is_whole p n = cond p.good (cond p.more (eqb p.at n) true) false

abbrev pub moved : Progress → ℕ → Progress
moved p k = record { at = p.at + k; more = true; good = true; left = p.left }

abbrev pub closed : Progress → Bool → Progress
closed p good = record { at = p.at; more = false; good = good; left = p.left }

abbrev pub stalled : Progress → ℕ → Progress
stalled p k = record { at = p.at; more = true; good = true; left = k }

pub data Turn (n : ℕ) (p q : Progress) : Type 0 where
  piece : (k : ℕ) → 1 ≤ k → p.at + k ≤ n → q ≡ moved p k → Turn n p q
  ended : q ≡ closed p true → Turn n p q
  failed : q ≡ closed p false → Turn n p q
  interrupted : (k : ℕ) → p.left ≡ k + 1 → q ≡ stalled p k → Turn n p q

pub data Turns (n : ℕ) : Progress → Type 0 where
  first : (p : Progress) → p ≡ begun → Turns n p
  next : (p q : Progress) → Turns n p → goes_on p n ≡ true → Turn n p q → Turns n q

pub record Carried (n : ℕ) (p : Progress) : Type 0 where
  pub inside : p.at ≤ n
  pub came : Turns n p
  pub stops : goes_on p n ≡ false
