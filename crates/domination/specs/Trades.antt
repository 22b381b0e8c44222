-- Trades of two items by weights and prices without sign: r units of one item, weight a and price c each, given for t units of
-- another, weight b and price d each.
--   Trade a b c d r t      what is given is no lighter than what is taken, and cheaper
--   Sizes a b c d          magnitudes of the figures of two items that may be paired
--   partner c d r          the least t that is dearer than r units given
--   serves a b c d r       whether that t is light enough
--   serving turns a b c d r   the first that serves from r on, in so many turns
--   least_give a b c d      the first r, counting up from 1, that serves; r = b does where any does
use Rattle.std.specs.Prelude.{Bool, cond, ℕ, zero, suc, ◌+◌, ◌*◌, ◌-◌, ◌/◌, ◌≤◌, ◌<◌, leb}

pub record Trade (a b c d r t : ℕ) : Type 0 where
  pub light : b * t ≤ a * r
  pub dear : c * r < d * t

-- magnitudes of the figures of two items that may be paired
pub record Sizes (a b c d : ℕ) : Type 0 where
  pub a-least : 1 ≤ a
  pub a-most : a ≤ 1000
  pub b-least : 1 ≤ b
  pub b-most : b ≤ 1000
  pub c-least : 1 ≤ c
  pub c-most : c ≤ 10000
  pub d-least : 1 ≤ d
  pub d-most : d ≤ 10000

abbrev pub partner : ℕ → ℕ → ℕ → ℕ
partner c d r = c * r / d + 1

abbrev pub serves : ℕ → ℕ → ℕ → ℕ → ℕ → Bool
serves a b c d r = leb (b * partner c d r) (a * r)

-- the first that serves from r on, or r plus turns
unfoldable pub serving : ℕ → ℕ → ℕ → ℕ → ℕ → ℕ → ℕ
serving zero a b c d r = r
serving (suc turns) a b c d r = cond (serves a b c d r) r (serving turns a b c d (suc r))

unfoldable pub least_give : ℕ → ℕ → ℕ → ℕ → ℕ
least_give a b c d = serving (b - 1) a b c d 1
