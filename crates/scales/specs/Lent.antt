-- What the code asks of the lists and cells that are lent, and what it leaves in the cells.
--   Priced cap a b             costs up to cap, with sums that fit
--   Shown cap n cells          n cells are there, and none is above cap
--   Passed cap n w a b lo hi old new   the new cells from lo to below hi are those of a pass over n old ones, the others are as before
--   Shows cap T K R n old new  n new cells are live, and show the table T as far as it matters for a capacity K and units to come that weigh R
--   total ws                   the sum of the weights
--   Listed cap ws us ts ls     four lists of equal length that show at most 17 items, light enough for the cells, of a heft that fits, with costs up to cap
use Rattle.std.specs.Prelude.{◌≡◌, List, ℕ, ◌*◌, ◌^◌, ◌≤◌, ◌<◌, length, get_or}
use Rattle.scales.specs.Tables.{Table, at, pass, Below, Agree}
use Rattle.scales.specs.Filling.{sum, heft, items_of}

pub record Priced (cap a b : ℕ) : Type 0 where
  pub small : cap < 2 ^ 63
  pub taken : a ≤ cap
  pub left : b ≤ cap

pub record Shown (cap n : ℕ) (cells : List ℕ) : Type 0 where
  pub room : n ≤ length cells
  pub below : Below cap (at cap n cells)

pub record Passed (cap n w a b lo hi : ℕ) (old new : List ℕ) : Type 0 where
  pub same : length new ≡ length old
  pub before : (y : ℕ) → y < lo → get_or new y 0 ≡ get_or old y 0
  pub inside : (y : ℕ) → lo ≤ y → y < hi → get_or new y 0 ≡ pass cap w a b (at cap n old) y
  pub behind : (y : ℕ) → hi ≤ y → get_or new y 0 ≡ get_or old y 0

pub record Shows (cap : ℕ) (T : Table) (K R n : ℕ) (old new : List ℕ) : Type 0 where
  pub same : length new ≡ length old
  pub below : Below cap (at cap n new)
  pub agrees : Agree K R (at cap n new) T

abbrev pub total : List ℕ → ℕ
total ws = sum (length ws) (λ j. get_or ws j 0)

pub record Listed (cap : ℕ) (ws us ts ls : List ℕ) : Type 0 where
  pub small : cap < 2 ^ 63
  pub few : length ws ≤ 17
  pub light : 4 * total ws < 65536
  pub fits : heft (items_of ws us ts ls) < 2 ^ 64
  pub ranges : length us ≡ length ws
  pub takens : length ts ≡ length ws
  pub lefts : length ls ≡ length ws
  pub taken : (j : ℕ) → j < length ws → get_or ts j 0 ≤ cap
  pub left : (j : ℕ) → j < length ws → get_or ls j 0 ≤ cap
