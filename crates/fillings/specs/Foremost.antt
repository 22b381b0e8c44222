-- The first filling, run after run.
--   Gone .. r₀ f₀ w₀ r f w     runs, each from where the one before it ended, from part f₀ and the ranges r₀ on, have come to part f and the ranges r,
--                              and have written w cells with the w₀ before them
--   GoneWrites p C cap s n     such runs from what the run s has found on, to the last part or to one that finds nothing, write n cells with those of s
--   FirstWrites p C cap n      the same after leaps
--   LeastWrites p C cap n      a run over all amounts, and from what it finds on such runs, write n cells
--   Keyable p cap              each part's keys fit costs up to cap
--   FirstAt p C c a            a shows the first of the fillings that cost c
--   first_cells, least_cells     the most cells that are written after leaps, and after a run over all amounts
--   Goes p C cap s r           from s on: r shows it for c = cap - 1, or says that nothing costs less than cap
--   FirstOf p C cap r          the same, whatever s
--   LeastOf p C cap r          r is the least cost, at most cap, with the first filling that has it
use Rattle.std.specs.Prelude.{◌≡◌, None, Some, List, ◌⊎◌, ◌≢◌, ℕ, suc, ◌+◌, ◌-◌, ◌*◌, ◌^◌, ◌≤◌, ◌<◌}
use Rattle.scales.specs.Filling.{cost, Within, Least}
use Rattle.fillings.specs.declared.Parts.{Parts}
use Rattle.fillings.specs.declared.Ranges.{Ranges}
use Rattle.fillings.specs.declared.Run.{Run}
use Rattle.fillings.specs.declared.First.{First}
use Rattle.fillings.specs.declared.Filled.{Filled}
use Rattle.fillings.specs.Ranges.{num, items_in}
use Rattle.fillings.specs.Runs.{Earlier, Fills, Runs, RunWrites, run_cells, Whole}
use Rattle.fillings.specs.Leaps.{Leapt}

pub data Gone (p : Parts) (C cap : ℕ) (r₀ : Ranges) (f₀ w₀ : ℕ) : Ranges → ℕ → ℕ → Type 0 where
  begun : Gone p C cap r₀ f₀ w₀ r₀ f₀ w₀
  onward : (r : Ranges) (f w : ℕ) (n : Run) → Gone p C cap r₀ f₀ w₀ r f w → f < 16 → Runs p r C cap f n → RunWrites p r C cap f n.written →
      n.cost ≢ cap → Gone p C cap r₀ f₀ w₀ n.ranges n.to (w + n.written)

pub data GoneWrites (p : Parts) (C cap : ℕ) (s : Run) : ℕ → Type 0 where
  found : (r : Ranges) (f w : ℕ) → Gone p C cap s.ranges s.to s.written r f w → 16 ≤ f → GoneWrites p C cap s w
  lacking : (r : Ranges) (f w : ℕ) (n : Run) → Gone p C cap s.ranges s.to s.written r f w → f < 16 → Runs p r C cap f n →
      RunWrites p r C cap f n.written → n.cost ≡ cap → GoneWrites p C cap s (w + n.written)

pub record FirstWrites (p : Parts) (C cap n : ℕ) : Type 0 where
  pub leapt : Run
  pub by-leaps : Leapt p C cap leapt
  pub runs : GoneWrites p C cap leapt n

-- a run over all amounts, and from what it has found on
pub data LeastWrites (p : Parts) (C cap : ℕ) : ℕ → Type 0 where
  barren : (r : Ranges) (n : Run) → Whole p r → Runs p r C cap 0 n → RunWrites p r C cap 0 n.written → n.cost ≡ cap → LeastWrites p C cap n.written
  fruitful : (r : Ranges) (n : Run) (w : ℕ) → Whole p r → Runs p r C cap 0 n → RunWrites p r C cap 0 n.written → n.cost < cap →
      GoneWrites p C (n.cost + 1) n w → LeastWrites p C cap w

-- every part has so few amounts that costs up to cap have room for their keys
abbrev pub Keyable : Parts → ℕ → Type 0
Keyable p cap = (j : ℕ) → j < 16 → cap * suc (num p.range j) < 2 ^ 63

-- the first of the fillings that cost c
pub record FirstAt (p : Parts) (C c : ℕ) (a : List ℕ) : Type 0 where
  pub amounts : ℕ → ℕ
  pub shown : (j : ℕ) → j < 16 → num a j ≡ amounts j
  pub within : Within (items_in p) amounts
  pub fills : Fills p C amounts
  pub costs : cost (items_in p) amounts ≡ c
  pub first : (y : ℕ → ℕ) → Within (items_in p) y → Fills p C y → cost (items_in p) y ≡ c → ((j : ℕ) → j < 16 → amounts j ≡ y j) ⊎ Earlier p 16 amounts y

-- the most cells: seven leaps, and a run for each part
abbrev pub first_cells : ℕ
first_cells = 2285459055

-- a run over all amounts, and one for each part
abbrev pub least_cells : ℕ
least_cells = 1689252345

pub record Goes (p : Parts) (C cap : ℕ) (s : Run) (r : First) : Type 0 where
  pub few : r.written ≤ s.written + 16 * run_cells
  pub writes : GoneWrites p C cap s r.written
  pub found : (a : List ℕ) → r.amounts ≡ Some a → FirstAt p C (cap - 1) a
  pub none : r.amounts ≡ None → (y : ℕ → ℕ) → Within (items_in p) y → Fills p C y → cap ≤ cost (items_in p) y

pub record FirstOf (p : Parts) (C cap : ℕ) (r : First) : Type 0 where
  pub few : r.written ≤ first_cells
  pub writes : FirstWrites p C cap r.written
  pub found : (a : List ℕ) → r.amounts ≡ Some a → FirstAt p C (cap - 1) a
  pub none : r.amounts ≡ None → (y : ℕ → ℕ) → Within (items_in p) y → Fills p C y → cap ≤ cost (items_in p) y

pub record LeastOf (p : Parts) (C cap : ℕ) (r : Filled) : Type 0 where
  pub few : r.written ≤ least_cells
  pub writes : LeastWrites p C cap r.written
  pub least : Least cap (items_in p) C r.least
  pub found : r.least < cap → FirstAt p C r.least r.amounts
