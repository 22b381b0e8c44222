-- Parts of a load, and ranges of their amounts. A part is an item of a filling; the last one, of weight 1, is the slack.
--   flag xs k              what stands at k, as num xs k does (residues)
--   items_in p              the 17 parts as items
--   Inside r y             each amount of y is one of r: low, or up to wide more
--   Among p r              the ranges r are within those of the parts
--   offset_at p r k         what part k costs at least, within r;  offset_of p r: all parts together
--   boxed p r              the parts with the ranges of r alone, amounts counted from low on
--   near_wide, near_low      the amounts of a part that alone cost less than left: how many, and by low_near the least;  near_wide_of, nearLowOf: of part k
--   Narrows p left r r'    the ranges r' are those of r near the cheaper ends
--   Fair p                 17 parts, light enough for the cells, with ranges that can be counted
use Rattle.std.specs.Prelude.{Bool, false, cond, List, ℕ, ◌+◌, ◌-◌, ◌*◌, ◌/◌, ◌≤◌, ◌<◌, min, eqb, length, get_or}
use Rattle.scales.specs.Filling.{Items, sum, items_of}
pub use Rattle.residues.specs.Asked.{num, Made}
use Rattle.residues.specs.Asked.{Fit}
use Rattle.fillings.specs.declared.Parts.{Parts}
use Rattle.fillings.specs.declared.Ranges.{Ranges}

abbrev pub flag : List Bool → ℕ → Bool
flag xs k = get_or xs k false

abbrev pub items_in : Parts → Items
items_in p = items_of p.weight p.range p.taken p.left

abbrev pub Inside : Ranges → (ℕ → ℕ) → Type 0
Inside r y = (j : ℕ) → j < 17 → (num r.low j ≤ y j) × (y j ≤ num r.low j + num r.wide j)

abbrev pub Among : Parts → Ranges → Type 0
Among p r = (j : ℕ) → j < 17 → num r.low j + num r.wide j ≤ num p.range j

abbrev pub offset_at : Parts → Ranges → ℕ → ℕ
offset_at p r k = num p.taken k * num r.low k + num p.left k * (num p.range k - (num r.low k + num r.wide k))

unfoldable pub offset_of : Parts → Ranges → ℕ
offset_of p r = sum (length p.weight) (offset_at p r)

abbrev pub boxed : Parts → Ranges → Items
boxed p r = items_of p.weight r.wide p.taken p.left

-- of wide amounts those that alone cost less than left: by what a unit taken costs, or one left, where the other is free
abbrev pub near_wide : ℕ → ℕ → ℕ → ℕ → ℕ
near_wide left t l wide = cond (eqb l 0) (cond (eqb t 0) wide (min wide ((left - 1) / t))) (cond (eqb t 0) (min wide ((left - 1) / l)) wide)

-- the least of n and one amounts, the highest ones where taking is free
abbrev pub low_near : ℕ → ℕ → ℕ → ℕ → ℕ
low_near t low wide n = cond (eqb t 0) (low + (wide - n)) low

abbrev pub near_low : ℕ → ℕ → ℕ → ℕ → ℕ → ℕ
near_low left t l low wide = low_near t low wide (near_wide left t l wide)

abbrev pub near_wide_of : ℕ → Parts → Ranges → ℕ → ℕ
near_wide_of left p r k = near_wide left (num p.taken k) (num p.left k) (num r.wide k)

abbrev pub near_low_of : ℕ → Parts → Ranges → ℕ → ℕ
near_low_of left p r k = near_low left (num p.taken k) (num p.left k) (num r.low k) (num r.wide k)

pub record Narrows (p : Parts) (left : ℕ) (r r' : Ranges) : Type 0 where
  pub lows : Made 17 (near_low_of left p r) r'.low
  pub wides : Made 17 (near_wide_of left p r) r'.wide

-- 17 parts, light enough for the cells, with ranges that can be counted
abbrev pub Fair : Parts → Type 0
Fair p = Fit p.weight p.range
