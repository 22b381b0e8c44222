-- What the code says of losses, of frames and of the least loss.
--   HasRoom c e r                   r is the room that is left where every item weighs least, or says that there is none
--   ByLeast, ByFirst                what is written for parts: by the least filling, and by the first one that loses so much
--   PiecesWrite W p q c e E cut n   n cells are written for the pieces of a box, those that W counts, or none where nothing fits
--   Agree, Earlier, NotAfter        the order of points over one divisor: by the first item that differs
--   FirstPoint .. r N               N is the first of the points that lose r
--   Floored p q c e E cut cap r     r is at most what any point loses, and at most cap; below cap it shows the pieces of the first point that loses just that
--   Firsts p q c e E cut r s        s shows the pieces of the first point that loses r, or says that none does
--   IsFrame p q c e w t f           f is frame t
--   FirstIn .. t r place            place shows the first point of frame t that loses r
--   FrameWrites W .. t cap n        n cells are written for frame t: those of its pieces, or none where the frame itself loses more than cap
--   FrameFloored .. t cap r         the same as Floored, of frame t: below cap it shows the first point
--   cap_at c t l                     the loss l counted in frame t, rounded up
--   LowerWrites .. t b r            r tells the cells of b, and those of frame t
--   Same b r                        the loss stays, with its point
--   AtFrame .. t r                  the loss of r is the least of frame t, and its place shows the first point that has it
--   Lowered .. t b r                r is the least of b and frame t;  Considered: where the frame can be needed
--   Found .. r                      the loss of r is that of its frame, which cuts no whole item
--   Gone .. known t b               b is what considering the frames before t one by one, from what is known on, has come to
--   LossWrites .. known n           n cells are told for all frames, the last one among them where no other can be needed
--   LeastLoss p q c e w known r     r is the least of what is known and all frames
--   Placed n f xs                   a list of 16 amounts, of which the first n are those of f
--   FrameFirst .. t r s             s shows the first point of frame t that loses r, or says that there is none
use Rattle.std.specs.Prelude.{◌≡◌, Option, None, Some, Bool, true, false, List, ◌≢◌, ◌⊎◌, ℕ, ◌+◌, ◌-◌, ◌*◌, ◌/◌, ◌≤◌, ◌<◌, ℤ, pos, nat_abs, ◌-ℤ◌, ◌*ℤ◌, length, ◌<ℤ◌}
use Rattle.fillings.specs.declared.Filled.{Filled}
use Rattle.fillings.specs.declared.First.{First}
use Rattle.fillings.specs.declared.Parts.{Parts}
use Rattle.fillings.specs.Ranges.{num}
use Rattle.fillings.specs.Foremost.{first_cells, least_cells, FirstWrites, LeastWrites}
use Rattle.greedy.specs.declared.Columns.{Columns}
use Rattle.greedy.specs.declared.Ends.{Ends}
use Rattle.greedy.specs.Fill.{at}
use Rattle.ceiling.specs.declared.Frame.{Frame}
use Rattle.ceiling.specs.declared.Lost.{Lost}
use Rattle.ceiling.specs.declared.Lowest.{Lowest}
use Rattle.ceiling.specs.declared.Least.{Least}
use Rattle.ceiling.specs.declared.Seen.{Seen}
use Rattle.ceiling.specs.Loss.{top_of, loss_of, Point, Floor}
use Rattle.ceiling.specs.Pieces.{amount_of, room_by, Pieces}
use Rattle.ceiling.specs.Frames.{cut_of, scale_of, Framed, Usable, FrameEnds, FrameBound, FrameFloor, Ceiling, Counted}

pub record HasRoom (c : Columns) (e : Ends) (r : Option ℕ) : Type 0 where
  pub left_is : (n : ℕ) → r ≡ Some n → pos n ≡ room_by c e
  pub small : (n : ℕ) → r ≡ Some n → n ≤ 4800100000000
  pub none : r ≡ None → room_by c e <ℤ pos 0

abbrev pub ByLeast : ℕ → Parts → ℕ → ℕ → Type 0
ByLeast cap ps room n = LeastWrites ps room cap n

abbrev pub ByFirst : ℕ → Parts → ℕ → ℕ → Type 0
ByFirst r ps room n = FirstWrites ps room (r + 1) n

pub data PiecesWrite (W : Parts → ℕ → ℕ → Type 0) (p q : ℕ) (c : Columns) (e : Ends) (E cut : ℕ) : ℕ → Type 0 where
  unfit : room_by c e <ℤ pos 0 → PiecesWrite W p q c e E cut 0
  fit : (room n : ℕ) (ps : Parts) → pos room ≡ room_by c e → Pieces p q c e E cut room c.count ps → W ps room n → PiecesWrite W p q c e E cut n

-- ---- the order of points

abbrev pub Agree : ℕ → (x y : ℕ → ℤ) → Type 0
Agree n x y = (j : ℕ) → j < n → x j ≡ y j

pub record Earlier (n : ℕ) (x y : ℕ → ℤ) : Type 0 where
  pub place : ℕ
  pub below : place < n
  pub same : (j : ℕ) → j < place → x j ≡ y j
  pub less : x place <ℤ y place

abbrev pub NotAfter : ℕ → (x y : ℕ → ℤ) → Type 0
NotAfter n x y = Agree n x y ⊎ Earlier n x y

pub record FirstPoint (p q : ℕ) (c : Columns) (e : Ends) (E cut r : ℕ) (N : ℕ → ℤ) : Type 0 where
  pub is-point : Point c e E cut N
  pub loses : loss_of p q c e E N ≡ pos r
  pub first : (M : ℕ → ℤ) → Point c e E cut M → loss_of p q c e E M ≡ pos r → NotAfter c.count N M

pub record Floored (p q : ℕ) (c : Columns) (e : Ends) (E cut cap : ℕ) (r : Filled) : Type 0 where
  pub few : r.written ≤ least_cells
  pub writes : PiecesWrite (ByLeast cap) p q c e E cut r.written
  pub capped : r.least ≤ cap
  pub floor : Floor p q c e E cut r.least
  pub found : r.least < cap → FirstPoint p q c e E cut r.least (amount_of c e E cut (num r.amounts))
  pub small : r.least < cap → (k : ℕ) → k < 16 → num r.amounts k ≤ 900000000

pub record Firsts (p q : ℕ) (c : Columns) (e : Ends) (E cut r : ℕ) (s : First) : Type 0 where
  pub few : s.written ≤ first_cells
  pub writes : PiecesWrite (ByFirst r) p q c e E cut s.written
  pub found : (a : List ℕ) → s.amounts ≡ Some a → FirstPoint p q c e E cut r (amount_of c e E cut (num a))
  pub small : (a : List ℕ) → s.amounts ≡ Some a → (k : ℕ) → k < 16 → num a k ≤ 900000000
  pub none : s.amounts ≡ None → (M : ℕ → ℤ) → Point c e E cut M → pos r <ℤ loss_of p q c e E M

-- ---- frames

pub record IsFrame (p q : ℕ) (c : Columns) (e : Ends) (w : List Bool) (t : ℕ) (f : Frame) : Type 0 where
  pub cut-is : f.cut ≡ cut_of c t
  pub scale-is : f.scale ≡ scale_of c t
  pub ends-are : FrameEnds c e w t f.ends
  pub less-is : f.less ≡ nat_abs (top_of p q c e -ℤ top_of p q c f.ends)

-- the first point of frame t that loses r, by its amounts but for the item cut
pub record FirstIn (p q : ℕ) (c : Columns) (e : Ends) (w : List Bool) (t r : ℕ) (place : List ℤ) : Type 0 where
  pub ends : Ends
  pub framed : Framed c e w t ends
  pub point : ℕ → ℤ
  pub is-point : Point c ends (scale_of c t) (cut_of c t) point
  pub loses : loss_of p q c e (scale_of c t) point ≡ pos r
  pub first : (M : ℕ → ℤ) → Point c ends (scale_of c t) (cut_of c t) M → loss_of p q c e (scale_of c t) M ≡ pos r → NotAfter c.count point M
  pub shown : (k : ℕ) → k < c.count → k ≢ cut_of c t → point k ≡ at place k *ℤ pos (scale_of c t)

pub data FrameWrites (W : ℕ → Parts → ℕ → ℕ → Type 0) (p q : ℕ) (c : Columns) (e : Ends) (w : List Bool) (t cap : ℕ) : ℕ → Type 0 where
  beyond : (f : Frame) → IsFrame p q c e w t f → cap < f.scale * f.less → FrameWrites W p q c e w t cap 0
  within : (f : Frame) (n : ℕ) → IsFrame p q c e w t f → f.scale * f.less ≤ cap →
      PiecesWrite (W (cap - f.scale * f.less)) p q c f.ends f.scale f.cut n → FrameWrites W p q c e w t cap n

pub record FrameFloored (p q : ℕ) (c : Columns) (e : Ends) (w : List Bool) (t cap : ℕ) (r : Lowest) : Type 0 where
  pub few : r.written ≤ least_cells
  pub writes : FrameWrites ByLeast p q c e w t cap r.written
  pub capped : r.least ≤ cap
  pub floor : FrameFloor p q c e w t r.least
  pub first : r.least < cap → FirstIn p q c e w t r.least r.place

-- ---- the least loss

abbrev pub cap_at : Columns → ℕ → Lost → ℕ
cap_at c t l = (scale_of c t * l.num + (l.den - 1)) / l.den

pub record LowerWrites (p q : ℕ) (c : Columns) (e : Ends) (w : List Bool) (t : ℕ) (b r : Least) : Type 0 where
  pub more : ℕ
  pub frame : FrameWrites ByLeast p q c e w t (cap_at c t b.lost) more
  pub sum : r.written ≡ b.written + more

abbrev pub Same : Least → Least → Type 0
Same b r = (r.lost ≡ b.lost) × (r.shown ≡ b.shown)

pub record AtFrame (p q : ℕ) (c : Columns) (e : Ends) (w : List Bool) (t : ℕ) (r : Least) : Type 0 where
  pub place : List ℤ
  pub shown-is : r.shown ≡ Some (record { at = t; place = place })
  pub den-is : r.lost.den ≡ scale_of c t
  pub deep : r.lost.num < 10000000000
  pub floor : FrameFloor p q c e w t r.lost.num
  pub first : FirstIn p q c e w t r.lost.num place

pub record Lowered (p q : ℕ) (c : Columns) (e : Ends) (w : List Bool) (t : ℕ) (b r : Least) : Type 0 where
  pub counted : Counted r.lost.num r.lost.den
  pub lower : r.lost.num * b.lost.den ≤ b.lost.num * r.lost.den
  pub bound : FrameBound p q c e w r.lost.num r.lost.den t
  pub exact : Same b r ⊎ AtFrame p q c e w t r
  pub any : r.any ≡ true
  pub few : r.written ≤ b.written + least_cells
  pub writes : LowerWrites p q c e w t b r

pub record Considered (p q : ℕ) (c : Columns) (e : Ends) (w : List Bool) (t : ℕ) (b r : Least) : Type 0 where
  pub counted : Counted r.lost.num r.lost.den
  pub lower : r.lost.num * b.lost.den ≤ b.lost.num * r.lost.den
  pub bound : Usable c e w t → FrameBound p q c e w r.lost.num r.lost.den t
  pub exact : Same b r ⊎ (Usable c e w t × AtFrame p q c e w t r)
  pub any : (Usable c e w t × (r.any ≡ true)) ⊎ ((Usable c e w t → ⊥) × (r.any ≡ b.any))
  pub few : r.written ≤ b.written + least_cells
  pub writes : (Usable c e w t × LowerWrites p q c e w t b r) ⊎ ((Usable c e w t → ⊥) × (r.written ≡ b.written))

-- the frame of the loss, one that is used
pub record Found (p q : ℕ) (c : Columns) (e : Ends) (w : List Bool) (r : Least) : Type 0 where
  pub at : ℕ
  pub at_in : at ≤ c.live
  pub usable : at < c.live → Usable c e w at
  pub frame : AtFrame p q c e w at r

pub data Gone (p q : ℕ) (c : Columns) (e : Ends) (w : List Bool) (known : Lost) : ℕ → Least → Type 0 where
  begun : Gone p q c e w known 0 (record { lost = known; shown = None; any = false; written = 0 })
  onward : (t : ℕ) (b r : Least) → Gone p q c e w known t b → Considered p q c e w t b r → Gone p q c e w known (t + 1) r

pub data LossWrites (p q : ℕ) (c : Columns) (e : Ends) (w : List Bool) (known : Lost) : ℕ → Type 0 where
  some : (b : Least) → Gone p q c e w known c.live b → b.any ≡ true → LossWrites p q c e w known b.written
  none : (b r : Least) → Gone p q c e w known c.live b → b.any ≡ false → Lowered p q c e w c.live b r → LossWrites p q c e w known r.written

pub record LeastLoss (p q : ℕ) (c : Columns) (e : Ends) (w : List Bool) (known : Lost) (r : Least) : Type 0 where
  pub counted : Counted r.lost.num r.lost.den
  pub ceiling : Ceiling p q c e w r.lost.num r.lost.den
  pub exact : ((r.shown ≡ None) × (r.lost ≡ known)) ⊎ Found p q c e w r
  pub few : r.written ≤ 17 * least_cells
  pub writes : LossWrites p q c e w known r.written

-- the first n amounts are those of f
pub record Placed (n : ℕ) (f : ℕ → ℤ) (xs : List ℤ) : Type 0 where
  pub long : length xs ≡ 16
  pub each : (k : ℕ) → k < n → at xs k ≡ f k

pub record FrameFirst (p q : ℕ) (c : Columns) (e : Ends) (w : List Bool) (t r : ℕ) (s : Seen) : Type 0 where
  pub few : s.written ≤ first_cells
  pub writes : FrameWrites ByFirst p q c e w t r s.written
  pub found : (place : List ℤ) → s.place ≡ Some place → FirstIn p q c e w t r place
  pub none : s.place ≡ None → (e' : Ends) → Framed c e w t e' → (M : ℕ → ℤ) → Point c e' (scale_of c t) (cut_of c t) M → pos r <ℤ loss_of p q c e (scale_of c t) M
