-- What the code asks of its lists, and what it makes of them. A load has 17 parts.
--   num xs k               what stands at k
--   Made n f xs            a list of 17 numbers, of which the first n are those of f
--   Fit ws us              17 weights, light enough for the cells, with ranges that can be counted
--   Tells A b              b says whether A holds
--   Chosen I from C f      item f is the first from one on that absorbs the others; 17 if none does
--   TakesBy cap I C f n    n cells are written for the items folded by item f; for the items as they are if there is none
use Rattle.std.specs.Prelude.{◌≡◌, Bool, true, false, List, ℕ, ◌^◌, ◌≤◌, ◌<◌, length, get_or}
use Rattle.scales.specs.Filling.{Items}
use Rattle.scales.specs.Lent.{total}
use Rattle.scales.specs.Counts.{Takes}
use Rattle.residues.specs.Folding.{folded, folded_capacity, Absorbs}

abbrev pub num : List ℕ → ℕ → ℕ
num xs k = get_or xs k 0

pub record Made (n : ℕ) (f : ℕ → ℕ) (xs : List ℕ) : Type 0 where
  pub long : length xs ≡ 17
  pub each : (k : ℕ) → k < n → num xs k ≡ f k

pub record Fit (ws us : List ℕ) : Type 0 where
  pub long : length ws ≡ 17
  pub light : total ws ≤ 16001
  pub ranges_in : (k : ℕ) → k < 17 → num us k < 2 ^ 43

pub record Tells (A : Type 0) (b : Bool) : Type 0 where
  pub does : b ≡ true → A
  pub does_not : b ≡ false → A → ⊥

pub record Chosen (I : Items) (from C f : ℕ) : Type 0 where
  pub among : f ≤ 17
  pub onward : f < 17 → from ≤ f
  pub absorbs : f < 17 → Absorbs I f C
  pub first : (k : ℕ) → from ≤ k → k < f → Absorbs I k C → ⊥

pub record TakesBy (cap : ℕ) (I : Items) (C f n : ℕ) : Type 0 where
  pub plainly : 17 ≤ f → Takes cap I C n
  pub modulo : f < 17 → Takes cap (folded f C I) (folded_capacity f I C) n
