-- Frames: the arrangements of the continuous items that a filling can leave. In frame t those of the ranks below t stand at their heavy
-- ends, the item of rank t is cut, and the others stand at their light ends; in the last frame, t = live, no item is cut.
--   cut_of c t           the item that is cut; 16 if none is
--   scale_of c t         its weight without sign: into so many pieces a unit of it is cut
--   whole_at w k         item k is whole
--   frame_by b s x y     an end: x for an item that is free, y for one that stands;  frameEndBy: by the item cut
--   frame_lo, frame_hi    the ends of an item in frame t; w says which items are whole
--   Framed c e w t e'   the ends e' are those of frame t
--   Usable c e w t      the item that is cut is not whole and not fixed
--   Loses p q c e n d E N   N / E loses at least n / d
--   FrameBound .. n d t     so does each point of frame t
--   Ceiling .. n d      so does each feasible point of the box
--   Marked c w marks    the whole items are marked;  Unmarked: only they are
--   Altered n f xs ys   a list changed at its first n places
--   FrameEnds .. e'     the ends of a frame, in order
--   FrameFloor .. t r   no point of frame t loses less than r / scale
--   Counted n d         a loss that can be compared
--   Ranked c            ranks have items, and the live ones their sizes
--   Ready c e p q       what frames rely on
--   Levelled l n w      the whole items are those of the first n levels
use Rattle.std.specs.Prelude.{◌≡◌, Bool, true, false, cond, List, ◌≢◌, ℕ, ◌*◌, ◌≤◌, ◌<◌, ltb, eqb, ℤ, pos, nat_abs, ◌*ℤ◌, length, get_or, ◌≤ℤ◌}
use Rattle.knapsack.specs.declared.Mark.{Mark}
use Rattle.knapsack.specs.declared.Mark.TheVariants.{Integer}
use Rattle.knapsack.proofs.Common.{Feasibleᴰ}
use Rattle.greedy.specs.declared.Columns.{Columns}
use Rattle.greedy.specs.declared.Ends.{Ends}
use Rattle.greedy.specs.Fill.{at, place, item_of, stand}
use Rattle.greedy.specs.Ordered.{weight_at}
use Rattle.greedy.specs.Sized.{Sized, SizedEnds}
use Rattle.greedy.proofs.Relaxed.{box_of, InOrder}
use Rattle.ceiling.specs.Loss.{loss_of, Point}

abbrev pub whole_at : List Bool → ℕ → Bool
whole_at w k = get_or w k false

abbrev pub cut_of : Columns → ℕ → ℕ
cut_of c t = cond (ltb t c.live) (item_of c t) 16

abbrev pub scale_of : Columns → ℕ → ℕ
scale_of c t = cond (ltb t c.live) (nat_abs (at c.size t)) 1

-- a free item keeps its end, and another one stands
abbrev pub frame_by : Bool → Bool → ℤ → ℤ → ℤ
frame_by whole cut end stands = cond whole end (cond cut end stands)

abbrev pub frame_lo : Columns → Ends → List Bool → ℕ → ℕ → ℤ
frame_lo c e w t k = frame_by (whole_at w k) (eqb k (cut_of c t)) (at e.lo k) (stand c e t k)

abbrev pub frame_hi : Columns → Ends → List Bool → ℕ → ℕ → ℤ
frame_hi c e w t k = frame_by (whole_at w k) (eqb k (cut_of c t)) (at e.hi k) (stand c e t k)

pub record Framed (c : Columns) (e : Ends) (w : List Bool) (t : ℕ) (e' : Ends) : Type 0 where
  pub low : (k : ℕ) → k < c.count → at e'.lo k ≡ frame_lo c e w t k
  pub high : (k : ℕ) → k < c.count → at e'.hi k ≡ frame_hi c e w t k

pub record Usable (c : Columns) (e : Ends) (w : List Bool) (t : ℕ) : Type 0 where
  pub loose : whole_at w (item_of c t) ≡ false
  pub free : at e.lo (item_of c t) ≢ at e.hi (item_of c t)

unfoldable pub Loses : ℕ → ℕ → Columns → Ends → ℕ → ℕ → ℕ → (ℕ → ℤ) → Type 0
Loses p q c e n d E N = (pos n *ℤ pos E) ≤ℤ (pos d *ℤ loss_of p q c e E N)

pub record FrameBound (p q : ℕ) (c : Columns) (e : Ends) (w : List Bool) (n d t : ℕ) : Type 0 where
  pub bound : (e' : Ends) → Framed c e w t e' → (M : ℕ → ℤ) → Point c e' (scale_of c t) (cut_of c t) M → Loses p q c e n d (scale_of c t) M

-- the marks of the whole items
abbrev pub Marked : Columns → List Bool → (ℕ → Mark) → Type 0
Marked c w marks = (k : ℕ) → k < c.count → whole_at w k ≡ true → marks k ≡ Integer

-- only whole items are marked
abbrev pub Unmarked : Columns → List Bool → (ℕ → Mark) → Type 0
Unmarked c w marks = (k : ℕ) → k < c.count → marks k ≡ Integer → whole_at w k ≡ true

pub record Ceiling (p q : ℕ) (c : Columns) (e : Ends) (w : List Bool) (n d : ℕ) : Type 0 where
  pub all : (marks : ℕ → Mark) → Marked c w marks → (D : ℕ) (N : ℕ → ℤ) → 1 ≤ D → Feasibleᴰ (box_of c e marks) D N → Loses p q c e n d D N

-- ---- what the code computes

-- a list that holds f at its first n places, and is as before at the others
pub record Altered (n : ℕ) (f : ℕ → ℤ) (old new : List ℤ) : Type 0 where
  pub long : length new ≡ 16
  pub first : (k : ℕ) → k < n → at new k ≡ f k
  pub rest : (k : ℕ) → n ≤ k → at new k ≡ at old k

-- the ends of an item in the frame with the item cut
abbrev pub frame_end_by : Columns → Ends → List Bool → ℕ → ℕ → List ℤ → ℕ → ℤ
frame_end_by c e w cut t xs k = frame_by (whole_at w k) (eqb k cut) (at xs k) (stand c e t k)

-- the ends of a frame are in order, and small
pub record FrameEnds (c : Columns) (e : Ends) (w : List Bool) (t : ℕ) (e' : Ends) : Type 0 where
  pub framed : Framed c e w t e'
  pub sized : SizedEnds e'
  pub ordered : InOrder c e'

-- no point of frame t loses less than r
pub record FrameFloor (p q : ℕ) (c : Columns) (e : Ends) (w : List Bool) (t r : ℕ) : Type 0 where
  pub floor : (e' : Ends) → Framed c e w t e' → (M : ℕ → ℤ) → Point c e' (scale_of c t) (cut_of c t) M → pos r ≤ℤ loss_of p q c e (scale_of c t) M

-- a loss that can be compared: n / d
pub record Counted (n d : ℕ) : Type 0 where
  pub few : d ≤ 1000
  pub some : 1 ≤ d
  pub small : n ≤ 10000000 * d

-- ranks have items, and the live ones their sizes: any order of filling will do
pub record Ranked (c : Columns) : Type 0 where
  pub item_in : (u : ℕ) → u < c.count → item_of c u < c.count
  pub live_in : c.live ≤ c.count
  pub sizes : (u : ℕ) → u < c.live → at c.size u ≡ pos (nat_abs (weight_at c u))

-- what frames rely on: ranks, a box in order, and sizes
pub record Ready (c : Columns) (e : Ends) (p q : ℕ) : Type 0 where
  pub sized : Sized c e
  pub ranked : Ranked c
  pub in_order : InOrder c e
  pub p-in : p ≤ 10000
  pub q-in : q ≤ 1000

-- the whole items are those of the first n levels
pub record Levelled (levels : List ℕ) (n : ℕ) (w : List Bool) : Type 0 where
  pub long : length w ≡ 16
  pub level : (k : ℕ) → whole_at w k ≡ true → (d : ℕ) × (d < n) × (place levels d ≡ k)
  pub marked : (d : ℕ) → d < n → whole_at w (place levels d) ≡ true
