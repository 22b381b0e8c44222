-- Moves between places: at each level the amounts lo .. hi are visited s, s + 1, .., hi, s - 1, s - 2, .., lo, from a start s.
--   at l k                 an entry of a list; 0 beyond its end
--   below_start lo s        the first amount of the run down
--   next_value lo hi s x    the amount after x at a level
--   next_segment lo s x     the first amount after the run of x (up from the start, or down from below it)
--   or_else o j r           the amount o at level j, or r where there is None
--   carry lo hi s x n      the deepest level below n that has a next amount, and that amount: past every place with x's first n amounts
--   carry_segment … d       the same past what is left of the run at level d
--   SettledIn m w          what a look has settled is within m levels
--   past_of w …             past what a look has settled: a run, or a prefix
use Rattle.std.specs.Prelude.{cond, Option, None, Some, List, ℕ, zero, suc, ◌≤◌, ◌<◌, ℤ, pos, ◌+ℤ◌, ◌-ℤ◌, get_or}
use Rattle.std.specs.Int.Signed.{lt_z}
use Rattle.places.specs.declared.Settled.{Settled}
use Rattle.places.specs.declared.Settled.TheVariants.{Run, Prefix}

abbrev pub at : List ℤ → ℕ → ℤ
at xs k = get_or xs k (pos 0)

-- the first of the run down
unfoldable pub below_start : (lo s : ℤ) → Option ℤ
below_start lo s = cond (lt_z lo s) (Some (s -ℤ pos 1)) None

-- the amount after x
unfoldable pub next_value : (lo hi s x : ℤ) → Option ℤ
next_value lo hi s x = cond (lt_z x s) (cond (lt_z lo x) (Some (x -ℤ pos 1)) None) (cond (lt_z x hi) (Some (x +ℤ pos 1)) (below_start lo s))

-- the first amount after the run of x
unfoldable pub next_segment : (lo s x : ℤ) → Option ℤ
next_segment lo s x = cond (lt_z x s) None (below_start lo s)

abbrev pub or_else : Option ℤ → ℕ → Option (ℕ × ℤ) → Option (ℕ × ℤ)
or_else None j r = r
or_else (Some v) j r = Some (j, v)

-- the deepest level below n that has a next amount, and that amount; None: the search ends
unfoldable pub carry : (lo hi s x : ℕ → ℤ) → ℕ → Option (ℕ × ℤ)
carry lo hi s x zero = None
carry lo hi s x (suc j) = or_else (next_value (lo j) (hi j) (s j) (x j)) j (carry lo hi s x j)

-- the same after the segment of level d
unfoldable pub carry_segment : (lo hi s x : ℕ → ℤ) → ℕ → Option (ℕ × ℤ)
carry_segment lo hi s x d = or_else (next_segment (lo d) (s d) (x d)) d (carry lo hi s x d)

-- what is settled is within m levels
abbrev pub SettledIn : ℕ → Settled → Type 0
SettledIn m (Run d) = d < m
SettledIn m (Prefix n) = n ≤ m

abbrev pub past_of : Settled → (lo hi s x : ℕ → ℤ) → Option (ℕ × ℤ)
past_of (Run d) lo hi s x = carry_segment lo hi s x d
past_of (Prefix n) lo hi s x = carry lo hi s x n
