-- The bound of a box.
--   Priced c e r            the critical item's price p for its weight q
--   PartLoss n q part parts k    where k is exact, it is n less q * part / parts
--   KnownLoss top q whole part parts k   where k is exact, it is what the value whole + part / parts loses
--   KnownBy top q known whole part parts k   the same, where the value is known
--   BoundWrites c e w known v r  r tells the cells that are written for all frames, at the critical item's price, from what v loses on
--   BestFrame c e w r x     the bound is the value of a point of the frame of x: its place shows the first one
--   Bounded c e w known v r      no value of the box is above (top - num / den) / q, and one is just that: v, or that of a point of frame `at`
use Rattle.std.specs.Prelude.{◌≡◌, None, Some, Bool, true, false, cond, List, ℕ, ◌+◌, ◌*◌, ◌≤◌, ◌<◌, ltb, ℤ, pos, nat_abs, ◌+ℤ◌, ◌-ℤ◌, ◌*ℤ◌}
use Rattle.arith.specs.Within.{Within}
use Rattle.arith.specs.declared.Mixed.{Mixed}
use Rattle.arith.proofs.Mixes.{over}
use Rattle.fillings.specs.Foremost.{least_cells}
use Rattle.knapsack.specs.declared.Mark.{Mark}
use Rattle.knapsack.proofs.Branch.{AtMost}
use Rattle.greedy.specs.declared.Columns.{Columns}
use Rattle.greedy.specs.declared.Ends.{Ends}
use Rattle.greedy.specs.Fill.{at, fill}
use Rattle.greedy.proofs.Relaxed.{box_of}
use Rattle.ceiling.specs.declared.Price.{Price}
use Rattle.ceiling.specs.declared.Known.{Known}
use Rattle.ceiling.specs.declared.Limit.{Limit}
use Rattle.ceiling.specs.declared.Shown.{Shown}
use Rattle.ceiling.specs.Least.{LossWrites, FirstIn}
use Rattle.ceiling.specs.Loss.{top_of}
use Rattle.ceiling.specs.Frames.{scale_of, Usable, Marked, FrameFloor, Counted}

pub record Priced (c : Columns) (e : Ends) (r : Price) : Type 0 where
  pub p-is : r.p ≡ cond (ltb (fill c e).at c.live) (nat_abs (at c.rate (fill c e).at)) 0
  pub q-is : r.q ≡ cond (ltb (fill c e).at c.live) (nat_abs (at c.size (fill c e).at)) 1
  pub p-in : r.p ≤ 10000
  pub q-in : r.q ≤ 1000
  pub q≥1 : 1 ≤ r.q

-- where k is exact, it is n less q * part / parts
pub record PartLoss (n q part parts : ℕ) (k : Known) : Type 0 where
  pub counted : Counted k.lost.num k.lost.den
  pub parts_are : k.exact ≡ true → k.lost.den ≡ parts
  pub num-is : k.exact ≡ true → k.lost.num + q * part ≡ n * parts
  pub deep : k.exact ≡ false → (k.lost.num ≡ 10000000) × (k.lost.den ≡ 1)

pub record KnownLoss (top : ℤ) (q : ℕ) (whole : ℤ) (part parts : ℕ) (k : Known) : Type 0 where
  pub counted : Counted k.lost.num k.lost.den
  pub parts_are : k.exact ≡ true → k.lost.den ≡ parts
  pub num-is : k.exact ≡ true → pos k.lost.num ≡ top *ℤ pos parts -ℤ pos q *ℤ (whole *ℤ pos parts +ℤ pos part)
  pub deep : k.exact ≡ false → (k.lost.num ≡ 10000000) × (k.lost.den ≡ 1)

pub record KnownBy (top : ℤ) (q : ℕ) (known : Bool) (whole : ℤ) (part parts : ℕ) (k : Known) : Type 0 where
  pub loss : KnownLoss top q whole part parts k
  pub told : k.exact ≡ true → known ≡ true

pub record BoundWrites (c : Columns) (e : Ends) (w : List Bool) (known : Bool) (v : Mixed) (r : Limit) : Type 0 where
  pub priced : Priced c e (record { p = r.p; q = r.q })
  pub from : Known
  pub known_by : KnownBy r.top r.q known v.whole v.part v.parts from
  pub frames : LossWrites r.p r.q c e w from.lost r.written

-- the best point is one of the frame of x, which is used
pub record BestFrame (c : Columns) (e : Ends) (w : List Bool) (r : Limit) (x : Shown) : Type 0 where
  pub at_in : x.at ≤ c.live
  pub usable : x.at < c.live → Usable c e w x.at
  pub den-is : r.lost.den ≡ scale_of c x.at
  pub deep : r.lost.num < 10000000000
  pub floor : FrameFloor r.p r.q c e w x.at r.lost.num
  pub first : FirstIn r.p r.q c e w x.at r.lost.num x.place

pub record Bounded (c : Columns) (e : Ends) (w : List Bool) (known : Bool) (v : Mixed) (r : Limit) : Type 0 where
  pub few : r.written ≤ 17 * least_cells
  pub writes : BoundWrites c e w known v r
  pub p-in : r.p ≤ 10000
  pub q-in : r.q ≤ 1000
  pub q≥1 : 1 ≤ r.q
  pub top-is : r.top ≡ top_of r.p r.q c e
  pub top_in : Within 100000000000000000 r.top
  pub most : (marks : ℕ → Mark) → Marked c w marks → AtMost (box_of c e marks) (r.top *ℤ pos r.lost.den -ℤ pos r.lost.num) (r.q * r.lost.den)
  pub kept : r.shown ≡ None → (known ≡ true) × ((marks : ℕ → Mark) → Marked c w marks → AtMost (box_of c e marks) (over v) v.parts)
  pub found : (x : Shown) → r.shown ≡ Some x → BestFrame c e w r x
