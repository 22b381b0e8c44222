-- The box of a setting, with some of its levels fixed.
--   level_at s d       the item of level d
--   spanned e k l u   the box e with the ends l and u for item k
--   fixed_in e l P d   the box e with the items of the first d of the levels l fixed at P
--   fixed_by s P d     the setting's box with its first d levels fixed at P
--   Long e            the lists of a box have a place for each item
--   InsideTo s n x    the first n levels of the place x are within their ends
--   Inside s x        a place is in the box
use Rattle.std.specs.Prelude.{◌≡◌, List, ℕ, zero, suc, ◌<◌, ℤ, length, set, ◌≤ℤ◌}
use Rattle.greedy.specs.declared.Ends.{Ends}
use Rattle.greedy.specs.Fill.{at, place}
use Rattle.setting.specs.declared.Setting.{Setting}

abbrev pub level_at : Setting → ℕ → ℕ
level_at s d = place s.level d

abbrev pub spanned : Ends → ℕ → ℤ → ℤ → Ends
spanned e k l u = record { lo = set e.lo k l; hi = set e.hi k u }

-- the box e with the items of the first d levels l fixed at P
unfoldable pub fixed_in : Ends → List ℕ → (ℕ → ℤ) → ℕ → Ends
fixed_in e l P zero = e
fixed_in e l P (suc d) = spanned (fixed_in e l P d) (place l d) (P d) (P d)

abbrev pub fixed_by : Setting → (ℕ → ℤ) → ℕ → Ends
fixed_by s P d = fixed_in s.ends s.level P d

pub record Long (e : Ends) : Type 0 where
  pub lo-long : length e.lo ≡ 16
  pub hi-long : length e.hi ≡ 16

abbrev pub InsideTo : Setting → ℕ → (ℕ → ℤ) → Type 0
InsideTo s n x = (d : ℕ) → d < n → (at s.low d ≤ℤ x d) × (x d ≤ℤ at s.high d)

abbrev pub Inside : Setting → (ℕ → ℤ) → Type 0
Inside s x = InsideTo s s.levels x
