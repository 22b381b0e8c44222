-- An optimal place of a box, whatever a search has found.
--   Boxes c e level n         columns and ends of a box, in order; the first n items of `level` are its levels
--   Levels c level n marks    the integer items are those of the levels
--   Fixes e level n P f       the ends f are those of e with the levels fixed at P
--   Between e level n P       the place P is between the ends
--   Tried c e level n P v     P is feasible, and v what its filling is worth
--   BestAt c e marks f        the filling of the ends f is one, and worth its bound
--   Best c e level n P        the filling of P is an optimal point of the box
--   FirstPlace c e level n D P   P has the whole amounts of an optimal point over D, which comes first of those whose other items stand as its do
--   most_cells                 the most cells that are written for any box: those of 289 runs
--   SettleWrites c e level n known v f k   k cells are written for a box where the value v is known: those of its bound; f tells whether its point is one of
--                             the frame in which no item is cut
--   Settles c e level n r     the place of r is best, or nothing in the box is feasible; it is a first one if r says so; and few cells were written for it
use Rattle.std.specs.Prelude.{◌≡◌, None, Some, Bool, true, false, List, ◌≢◌, ℕ, ◌≤◌, ◌<◌, eqb, ℤ, pos, ◌*ℤ◌, ◌≤ℤ◌, ◌<ℤ◌}
use Rattle.arith.specs.Mixed.{Proper}
use Rattle.arith.specs.declared.Mixed.{Mixed}
use Rattle.arith.proofs.Mixes.{over}
use Rattle.knapsack.specs.declared.Mark.{Mark}
use Rattle.knapsack.specs.declared.Mark.TheVariants.{Integer, Continuous}
use Rattle.knapsack.proofs.Common.{valueᴰ, Feasibleᴰ, Optimalᴰ}
use Rattle.greedy.specs.declared.Columns.{Columns}
use Rattle.greedy.specs.declared.Ends.{Ends}
use Rattle.greedy.specs.Fill.{at, place, fill, bound, solution}
use Rattle.greedy.specs.Ordered.{Ordered}
use Rattle.greedy.specs.Sized.{Sized}
use Rattle.greedy.proofs.Relaxed.{box_of, InOrder}
use Rattle.ceiling.specs.declared.Limit.{Limit}
use Rattle.ceiling.specs.declared.Shown.{Shown}
use Rattle.ceiling.specs.Bound.{Bounded}
use Rattle.ceiling.specs.Frames.{Levelled}
use Rattle.ceiling.specs.Least.{NotAfter}
use Rattle.ceiling.specs.Sizes.{Spanned}
use Rattle.settling.specs.declared.Settled.{Settled}

pub record Boxes (c : Columns) (e : Ends) (level : List ℕ) (n : ℕ) : Type 0 where
  pub sized : Sized c e
  pub ordered : Ordered c
  pub in_order : InOrder c e
  pub spanned : Spanned c e
  pub few : n ≤ 16
  pub level_in : (d : ℕ) → d < n → place level d < c.count

pub record Levels (c : Columns) (level : List ℕ) (n : ℕ) (marks : ℕ → Mark) : Type 0 where
  pub integer : (d : ℕ) → d < n → marks (place level d) ≡ Integer
  pub of : (k : ℕ) → k < c.count → marks k ≡ Integer → (d : ℕ) × (d < n) × (place level d ≡ k)

pub record Fixes (e : Ends) (level : List ℕ) (n : ℕ) (P : ℕ → ℤ) (f : Ends) : Type 0 where
  pub own : (d : ℕ) → d < n → (at f.lo (place level d) ≡ P d) × (at f.hi (place level d) ≡ P d)
  pub other : (k : ℕ) → ((d : ℕ) → d < n → place level d ≢ k) → (at f.lo k ≡ at e.lo k) × (at f.hi k ≡ at e.hi k)

abbrev pub Between : Ends → List ℕ → ℕ → (ℕ → ℤ) → Type 0
Between e level n P = (d : ℕ) → d < n → (at e.lo (place level d) ≤ℤ P d) × (P d ≤ℤ at e.hi (place level d))

pub record Tried (c : Columns) (e : Ends) (level : List ℕ) (n : ℕ) (P : ℕ → ℤ) (v : Mixed) : Type 0 where
  pub between : Between e level n P
  pub ends : Ends
  pub fixes : Fixes e level n P ends
  pub roomy : pos 0 ≤ℤ (fill c ends).room
  pub value-is : v ≡ bound c (fill c ends)
  pub proper : Proper v

-- the filling of the ends f is an optimal point of the box, and worth its bound
pub record BestAt (c : Columns) (e : Ends) (marks : ℕ → Mark) (f : Ends) : Type 0 where
  pub roomy : pos 0 ≤ℤ (fill c f).room
  pub optimal : Optimalᴰ (box_of c e marks) (bound c (fill c f)).parts (solution c f (fill c f))
  pub value-is : valueᴰ (box_of c e marks) (solution c f (fill c f)) ≡ over (bound c (fill c f))

pub record Best (c : Columns) (e : Ends) (level : List ℕ) (n : ℕ) (P : ℕ → ℤ) : Type 0 where
  pub between : Between e level n P
  pub best : (f : Ends) → Fixes e level n P f → (marks : ℕ → Mark) → Levels c level n marks → BestAt c e marks f

-- of the optimal points whose continuous items stand as its do, the one with the whole amounts P comes first
pub record FirstPlace (c : Columns) (e : Ends) (level : List ℕ) (n D : ℕ) (P : ℕ → ℤ) : Type 0 where
  pub point : ℕ → ℤ
  pub at_place : (d : ℕ) → d < n → point (place level d) ≡ P d *ℤ pos D
  pub optimal : (marks : ℕ → Mark) → Levels c level n marks → Optimalᴰ (box_of c e marks) D point
  pub first : (marks : ℕ → Mark) → Levels c level n marks → (M : ℕ → ℤ) → Feasibleᴰ (box_of c e marks) D M
      → valueᴰ (box_of c e marks) point ≤ℤ valueᴰ (box_of c e marks) M → ((k : ℕ) → k < c.count → marks k ≡ Continuous → M k ≡ point k)
      → NotAfter c.count point M

-- for each of 17 frames one run, and one for each of 16 parts (proofs/Best, most-cells, settle-most)
abbrev pub most_cells : ℕ
most_cells = 28717289865

pub data SettleWrites (c : Columns) (e : Ends) (level : List ℕ) (n : ℕ) (known : Bool) (v : Mixed) : Bool → ℕ → Type 0 where
  empty : (fill c e).room <ℤ pos 0 → SettleWrites c e level n known v false 0
  kept : (w : List Bool) (b : Limit) → pos 0 ≤ℤ (fill c e).room → Levelled level n w → Bounded c e w known v b → b.shown ≡ None →
      SettleWrites c e level n known v false b.written
  framed : (w : List Bool) (b : Limit) (x : Shown) → pos 0 ≤ℤ (fill c e).room → Levelled level n w → Bounded c e w known v b → b.shown ≡ Some x →
      SettleWrites c e level n known v (eqb x.at c.live) b.written

pub record Settles (c : Columns) (e : Ends) (level : List ℕ) (n : ℕ) (r : Settled) : Type 0 where
  pub few : r.written ≤ most_cells
  pub found : (place : List ℤ) → r.place ≡ Some place → Best c e level n (at place)
  pub first : r.first ≡ true → (place : List ℤ) × (r.place ≡ Some place) × FirstPlace c e level n 1 (at place)
  pub none : r.place ≡ None → (marks : ℕ → Mark) (D : ℕ) (N : ℕ → ℤ) → 1 ≤ D → ¬ Feasibleᴰ (box_of c e marks) D N
