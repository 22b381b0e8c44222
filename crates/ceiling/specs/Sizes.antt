-- What the arithmetic asks so that nothing overflows.
--   Modest p q E     the price p / q, and a scale
--   Cut c E cut      the scale is the weight of the item cut
--   Roomy cap cells  the most that a loss is counted to, and the cells that are lent
--   Narrow e E cut m  the item cut has few pieces
--   Spanned c e      so has every item, if it is cut
use Rattle.std.specs.Prelude.{◌≡◌, List, ℕ, ◌*◌, ◌≤◌, ◌<◌, nat_abs, ◌-ℤ◌, length}
use Rattle.greedy.specs.declared.Columns.{Columns}
use Rattle.greedy.specs.declared.Ends.{Ends}
use Rattle.greedy.specs.Fill.{at, weight_of}

pub record Modest (p q E : ℕ) : Type 0 where
  pub p-in : p ≤ 10000
  pub q-in : q ≤ 1000
  pub scale_in : E ≤ 1000
  pub scale≥1 : 1 ≤ E

-- the item cut has the weight of the scale
abbrev pub Cut : Columns → ℕ → ℕ → Type 0
Cut c E cut = cut < c.count → nat_abs (weight_of c cut) ≡ E

pub record Roomy (cap : ℕ) (cells : List ℕ) : Type 0 where
  pub cap-in : cap ≤ 10000000000
  pub long : 65535 ≤ length cells

-- what the reach of a problem leaves of an item
abbrev pub Narrow : Ends → ℕ → ℕ → ℕ → Type 0
Narrow e E cut m = cut < m → E * nat_abs (at e.hi cut -ℤ at e.lo cut) ≤ 900000000

abbrev pub Spanned : Columns → Ends → Type 0
Spanned c e = (k : ℕ) → k < c.count → nat_abs (weight_of c k) * nat_abs (at e.hi k -ℤ at e.lo k) ≤ 900000000
