-- Leaps: a run with the first parts at their first amounts, and the next one at some of them, finds the first of all fillings, or nothing.
--   Nears p cap r r'       the ranges r' are within r, and have all of it that costs less than cap
--   Keeps p C cap r r'     the same of the fillings of C
--   Caps p C q cap         the parts q differ from p in costs alone, and a filling of C costs less than cap there
--   Weighs p w             w has the weights of the parts as costs, and fillings of its capacity are below its caps
--   short_low b low wide v  the least of the first amounts, v and one: the highest ones if b, where they fall
--   Shortens p k v r r'    the ranges r' are those of r, but of part k the first amount and v more
--   Heads p C c r f l      the parts before f are fixed in r, and the fillings that cost c are within r or come later than all of r in the first l parts
--   Opens p C c r t s      the same with the parts before t fixed, and of part t one in s amounts
--   Sought p C c r f       heads of f parts, in ranges that have such a filling, or in all amounts
--   leap_to i, leap_share i  where i leaps are left: how many parts the next one fixes, and the share of the part after them
--   LeapWrites p C cap t s n   a run over such ranges writes n cells; none where nothing can fill C
--   TriedWrite p C cap i w   the leaps, of which i are left, write w cells
--   Leaps p C cap t s n    what a leap finds
--   Leapt p C cap n        what the first leap that finds anything has found, or all amounts
use Rattle.std.specs.Prelude.{◌≡◌, Bool, cond, ◌⊎◌, ◌≢◌, ℕ, ◌+◌, ◌-◌, ◌*◌, ◌/◌, ◌≤◌, ◌<◌, ltb}
use Rattle.scales.specs.Filling.{cost, Within}
use Rattle.fillings.specs.declared.Parts.{Parts}
use Rattle.fillings.specs.declared.Ranges.{Ranges}
use Rattle.fillings.specs.declared.Run.{Run}
use Rattle.fillings.specs.declared.Weighing.{Weighing}
use Rattle.fillings.specs.Ranges.{num, flag, items_in, Inside, Among, Fair}
use Rattle.fillings.specs.Runs.{Earlier, Fills, Filling, Runs, RunWrites, run_cells}

pub record Nears (p : Parts) (cap : ℕ) (r r' : Ranges) : Type 0 where
  pub inside : (y : ℕ → ℕ) → Inside r' y → Inside r y
  pub kept : (y : ℕ → ℕ) → Inside r y → cost (items_in p) y < cap → Inside r' y

pub record Keeps (p : Parts) (C cap : ℕ) (r r' : Ranges) : Type 0 where
  pub inside : (y : ℕ → ℕ) → Inside r' y → Inside r y
  pub kept : (y : ℕ → ℕ) → Inside r y → Fills p C y → cost (items_in p) y < cap → Inside r' y

-- parts of the same weights and ranges, in which a filling costs less than the cap
pub record Caps (p : Parts) (C : ℕ) (q : Parts) (cap : ℕ) : Type 0 where
  pub fair : Fair q
  pub ranges : q.range ≡ p.range
  pub below : (y : ℕ → ℕ) → Within (items_in p) y → Fills p C y → cost (items_in q) y < cap

pub record Weighs (p : Parts) (w : Weighing) : Type 0 where
  pub up : Caps p w.capacity w.up w.most
  pub down : Caps p w.capacity w.down w.spare

abbrev pub short_low : Bool → ℕ → ℕ → ℕ → ℕ
short_low b low wide v = low + cond b (wide - v) 0

pub record Shortens (p : Parts) (k v : ℕ) (r r' : Ranges) : Type 0 where
  pub low-here : num r'.low k ≡ short_low (flag p.falls k) (num r.low k) (num r.wide k) v
  pub wide-here : num r'.wide k ≡ v
  pub low-other : (j : ℕ) → j ≢ k → num r'.low j ≡ num r.low j
  pub wide-other : (j : ℕ) → j ≢ k → num r'.wide j ≡ num r.wide j

pub record Heads (p : Parts) (C c : ℕ) (r : Ranges) (f l : ℕ) : Type 0 where
  pub inside : f ≤ 16
  pub among : Among p r
  pub fixed : (j : ℕ) → j < f → num r.wide j ≡ 0
  pub kept : (y : ℕ → ℕ) → Within (items_in p) y → Fills p C y → cost (items_in p) y ≡ c → Inside r y ⊎ ((a : ℕ → ℕ) → Inside r a → Earlier p l a y)

pub record Opens (p : Parts) (C c : ℕ) (r : Ranges) (t s : ℕ) : Type 0 where
  pub heads : Heads p C c r t (t + 1)
  pub share : num r.wide t ≤ num p.range t / s

pub record Sought (p : Parts) (C c : ℕ) (r : Ranges) (f : ℕ) : Type 0 where
  pub heads : Heads p C c r f f
  pub whole : f ≡ 0 → (y : ℕ → ℕ) → Within (items_in p) y → Inside r y
  pub some : 0 < f → Filling p r C c

-- 12, 8 and 4 parts, and all amounts of the next one; then 3, 2, 1 and none, and a sixteenth
abbrev pub leap_to : ℕ → ℕ
leap_to i = cond (ltb 4 i) (4 * (i - 4)) (i - 1)

abbrev pub leap_share : ℕ → ℕ
leap_share i = cond (ltb 4 i) 1 16

pub data LeapWrites (p : Parts) (C cap t s : ℕ) : ℕ → Type 0 where
  shut : (h : Ranges) → Opens p C (cap - 1) h t s → ((y : ℕ → ℕ) → Inside h y → Fills p C y → ⊥) → LeapWrites p C cap t s 0
  ran : (h : Ranges) (n : ℕ) → Opens p C (cap - 1) h t s → RunWrites p h C cap t n → LeapWrites p C cap t s n

pub data TriedWrite (p : Parts) (C cap : ℕ) : ℕ → ℕ → Type 0 where
  untried : TriedWrite p C cap 7 0
  another : (i w n : ℕ) → 0 < i → TriedWrite p C cap i w → LeapWrites p C cap (leap_to i) (leap_share i) n → TriedWrite p C cap (i - 1) (w + n)

pub record Leaps (p : Parts) (C cap t s : ℕ) (n : Run) : Type 0 where
  pub head : Ranges
  pub opens : Opens p C (cap - 1) head t s
  pub runs : Runs p head C cap t n
  pub writes : LeapWrites p C cap t s n.written

-- with the cells of the leaps that were tried
pub record Leapt (p : Parts) (C cap : ℕ) (n : Run) : Type 0 where
  pub sought : Sought p C (cap - 1) n.ranges n.to
  pub few : n.written ≤ 7 * run_cells
  pub left : ℕ
  pub writes : TriedWrite p C cap left n.written
