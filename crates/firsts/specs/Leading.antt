-- How the first of the optimal points is found.
--   Tying s c           a setting in order, and its columns in the order of filling of Tied
--   ends_at s P          the box with all levels fixed at P
--   OwnAmounts s c e f l   l has the amounts of the filling f, each over its item's own divisor: the whole items are those of the levels
--   Shows s c P l       l is the point of the filling at P
--   Fills s c P r       r has it, and what it is worth
--   OptimalAt s P       some optimal point has the integer amounts P
--   IsWorth s c v       v is what an optimal point is worth
--   Fair top q v        what v loses can be counted
--   IsLosing s c l      l is what optimal points lose
--   LossOf v l          that is the loss of v
--   InsideBy s xs       the amounts xs by item are a place of the box
--   Sooner s c x xs r   r is the first of x and of the filling at the place of xs
--   Led s c l t b       b is an optimal point that leads those of the frames before t
--   FirstBest s r       r is the optimal point that comes first
--   Cutting c e w       some frame can be needed in which an item is cut;  CutsSome c e w r: r tells whether
--   TryWrites c e w l t n m       n cells are written before frame t is looked at, and m after it: as many, where it cannot lose as much as the optimum
--   ConsiderWrites c e w l t n m  the same, or as many, where the frame cannot be needed
--   LeadWrites c e w l t n        n cells are written for the frames before t
--   LastWrites c e w l n m        the same of the last frame, which is needed where no other is
--   FramesWrite s P n             n cells are written for all frames of the box, by what the optimal place P loses
--   Still s                       no continuous item can change;  TellsStill s r: r tells whether.  Held e w k: item k is whole, or cannot
--   Known s first                 a place has the first point: it is said to come first, and no continuous item can change
--   PointWrites s P first n       n cells are written for the first point: none where the place P is known to have it, else those of the frames
use Rattle.std.specs.Prelude.{◌≡◌, Bool, true, false, List, ◌≢◌, ◌⊎◌, ℕ, ◌+◌, ◌*◌, ◌/◌, ◌%◌, ◌≤◌, ◌<◌, ℤ, pos, ◌-ℤ◌, ◌*ℤ◌, ◌≤ℤ◌, ◌<ℤ◌}
use Rattle.arith.specs.Mixed.{Proper}
use Rattle.arith.specs.Within.{Within}
use Rattle.arith.specs.declared.Fraction.{Fraction}
use Rattle.arith.specs.declared.Mixed.{Mixed}
use Rattle.arith.proofs.Mixes.{over}
use Rattle.knapsack.specs.declared.Mark.{Mark}
use Rattle.knapsack.proofs.Common.{valueᴰ, Feasibleᴰ, Optimalᴰ}
use Rattle.greedy.specs.declared.Columns.{Columns}
use Rattle.greedy.specs.declared.Ends.{Ends}
use Rattle.greedy.specs.declared.Fill.{Fill}
use Rattle.greedy.specs.Amounts.{Amounts}
use Rattle.greedy.specs.Fill.{at, fill, bound}
use Rattle.greedy.proofs.Relaxed.{box_of}
use Rattle.fillings.specs.Foremost.{first_cells}
use Rattle.ceiling.specs.declared.Seen.{Seen}
use Rattle.ceiling.specs.Bound.{Priced}
use Rattle.ceiling.specs.Frames.{whole_at, scale_of, Usable, Levelled}
use Rattle.ceiling.specs.Least.{FrameFirst}
use Rattle.ceiling.specs.Loss.{top_of, value_of}
use Rattle.ceiling.specs.Sizes.{Spanned}
use Rattle.foremost.specs.Order.{TiedOf}
use Rattle.foremost.proofs.Filling.{parts, filling}
use Rattle.foremost.proofs.Foremost.{Foremostᴰ}
use Rattle.foremost.proofs.Frames.{Frame, LeadsFrame}
use Rattle.foremost.proofs.Losses.{LosesJust, LosesMore}
use Rattle.setting.specs.declared.Setting.{Setting}
use Rattle.setting.specs.Box.{level_at, fixed_by, Inside, Long}
use Rattle.setting.specs.Ready.{ReadySetting, Marked}
use Rattle.firsts.specs.Order.{point_in, NoLater}
use Rattle.firsts.specs.declared.Filled.{Filled}
use Rattle.firsts.specs.declared.Optimum.{Optimum}
use Rattle.firsts.specs.declared.Lead.{Lead}

pub record Tying (s : Setting) (c : Columns) : Type 0 where
  pub ready : ReadySetting s
  pub long : Long s.ends
  pub spanned : Spanned s.cols s.ends
  pub tied : TiedOf s.cols c

abbrev pub ends_at : Setting → (ℕ → ℤ) → Ends
ends_at s P = fixed_by s P s.levels

-- ---- fillings

pub record OwnAmounts (s : Setting) (c : Columns) (e : Ends) (f : Fill) (l : List Fraction) : Type 0 where
  pub whole : List Bool
  pub levelled : Levelled s.level s.levels whole
  pub amounts : Amounts c e f whole l

abbrev pub Shows : Setting → Columns → (ℕ → ℤ) → List Fraction → Type 0
Shows s c P l = OwnAmounts s c (ends_at s P) (fill c (ends_at s P)) l

pub record Fills (s : Setting) (c : Columns) (P : ℕ → ℤ) (r : Filled) : Type 0 where
  pub shows : Shows s c P r.point
  pub value-is : r.value ≡ bound c (fill c (ends_at s P))

-- ---- what optimal points are worth, and lose

pub record OptimalAt (s : Setting) (P : ℕ → ℤ) : Type 0 where
  pub inside : Inside s P
  pub divisor : ℕ
  pub point : ℕ → ℤ
  pub some : 1 ≤ divisor
  pub at_place : (d : ℕ) → d < s.levels → point (level_at s d) ≡ P d *ℤ pos divisor
  pub optimal : (marks : ℕ → Mark) → Marked s marks → Optimalᴰ (box_of s.cols s.ends marks) divisor point

pub record IsWorth (s : Setting) (c : Columns) (v : Mixed) : Type 0 where
  pub proper : Proper v
  pub point : ℕ → ℤ
  pub value-is : value_of c point ≡ over v
  pub optimal : (marks : ℕ → Mark) → Marked s marks → Optimalᴰ (box_of c s.ends marks) v.parts point

-- what v loses of top at a price in parts of q is not below 0, and little
pub record Fair (top : ℤ) (q : ℕ) (v : Mixed) : Type 0 where
  pub above : pos 0 ≤ℤ (top *ℤ pos v.parts -ℤ pos q *ℤ over v)
  pub below : (top *ℤ pos v.parts -ℤ pos q *ℤ over v) <ℤ pos (10000000 * v.parts)

pub record IsLosing (s : Setting) (c : Columns) (l : Optimum) : Type 0 where
  pub priced : Priced s.cols s.ends (record { p = l.p; q = l.q })
  pub top-is : l.top ≡ top_of l.p l.q c s.ends
  pub top_in : Within 100000000000000000 l.top
  pub den≥1 : 1 ≤ l.den
  pub den-in : l.den ≤ 1000
  pub small : l.num < 10000000 * l.den
  pub all : (marks : ℕ → Mark) → Marked s marks → (E : ℕ) (X : ℕ → ℤ) → 1 ≤ E → Feasibleᴰ (box_of c s.ends marks) E X
      → LosesMore l.top l.q (valueᴰ (box_of c s.ends marks)) l.num l.den E X

pub record LossOf (v : Mixed) (l : Optimum) : Type 0 where
  pub den-is : l.den ≡ v.parts
  pub num-is : pos l.num ≡ l.top *ℤ pos v.parts -ℤ pos l.q *ℤ over v

-- ---- the first of two, and of all frames

abbrev pub InsideBy : Setting → List ℤ → Type 0
InsideBy s xs = Inside s (λ d. at xs (level_at s d))

pub record Sooner (s : Setting) (c : Columns) (point : List Fraction) (xs : List ℤ) (r : List Fraction) : Type 0 where
  pub place : ℕ → ℤ
  pub same : (d : ℕ) → d < s.levels → place d ≡ at xs (level_at s d)
  pub other : List Fraction
  pub shows : Shows s c place other
  pub which : ((r ≡ point) × NoLater c.count (point_in point) (point_in other)) ⊎ ((r ≡ other) × NoLater c.count (point_in other) (point_in point))

pub record Led (s : Setting) (c : Columns) (l : Optimum) (t : ℕ) (b : Lead) : Type 0 where
  pub place : ℕ → ℤ
  pub inside : Inside s place
  pub room : pos 0 ≤ℤ (fill c (ends_at s place)).room
  pub shows : Shows s c place b.point
  pub just : (marks : ℕ → Mark) → Marked s marks
      → LosesJust l.top l.q (valueᴰ (box_of c s.ends marks)) l.num l.den (parts c (ends_at s place)) (filling c (ends_at s place))
  pub leads : (marks : ℕ → Mark) → Marked s marks → (u : ℕ) → u < t → Frame c s.ends marks u
      → LeadsFrame c s.ends marks (parts c (ends_at s place)) (filling c (ends_at s place)) u
  pub few : b.written ≤ t * first_cells

pub record FirstBest (s : Setting) (r : Lead) : Type 0 where
  pub long : Long s.ends
  pub cols : Columns
  pub tied : TiedOf s.cols cols
  pub place : ℕ → ℤ
  pub inside : Inside s place
  pub room : pos 0 ≤ℤ (fill cols (ends_at s place)).room
  pub shows : Shows s cols place r.point
  pub first : (marks : ℕ → Mark) → Marked s marks → Foremostᴰ (box_of cols s.ends marks) (parts cols (ends_at s place)) (filling cols (ends_at s place))

-- some frame can be needed in which an item is cut
pub record Cutting (c : Columns) (e : Ends) (w : List Bool) : Type 0 where
  pub frame : ℕ
  pub below : frame < c.live
  pub usable : Usable c e w frame

pub record CutsSome (c : Columns) (e : Ends) (w : List Bool) (r : Bool) : Type 0 where
  pub some : r ≡ true → Cutting c e w
  pub none : r ≡ false → Cutting c e w → ⊥

-- ---- what is written

pub data TryWrites (c : Columns) (e : Ends) (w : List Bool) (l : Optimum) (t n : ℕ) : ℕ → Type 0 where
  apart : 0 < (scale_of c t * l.num) % l.den → TryWrites c e w l t n n
  asked : (x : Seen) → (scale_of c t * l.num) % l.den ≡ 0 → FrameFirst l.p l.q c e w t ((scale_of c t * l.num) / l.den) x →
      TryWrites c e w l t n (n + x.written)

abbrev pub ConsiderWrites : Columns → Ends → List Bool → Optimum → ℕ → ℕ → ℕ → Type 0
ConsiderWrites c e w l t n m = (Usable c e w t × TryWrites c e w l t n m) ⊎ ((Usable c e w t → ⊥) × (m ≡ n))

pub data LeadWrites (c : Columns) (e : Ends) (w : List Bool) (l : Optimum) : ℕ → ℕ → Type 0 where
  begun : LeadWrites c e w l 0 0
  onward : (t n m : ℕ) → LeadWrites c e w l t n → ConsiderWrites c e w l t n m → LeadWrites c e w l (t + 1) m

abbrev pub LastWrites : Columns → Ends → List Bool → Optimum → ℕ → ℕ → Type 0
LastWrites c e w l n m = (Cutting c e w × (m ≡ n)) ⊎ ((Cutting c e w → ⊥) × TryWrites c e w l c.live n m)

pub record FramesWrite (s : Setting) (P : ℕ → ℤ) (n : ℕ) : Type 0 where
  pub cols : Columns
  pub tied : TiedOf s.cols cols
  pub loss : Optimum
  pub losing : IsLosing s cols loss
  pub loss-is : LossOf (bound cols (fill cols (ends_at s P))) loss
  pub whole : List Bool
  pub levelled : Levelled s.level s.levels whole
  pub sofar : ℕ
  pub frames : LeadWrites cols s.ends whole loss cols.live sofar
  pub last : LastWrites cols s.ends whole loss sofar n

-- ---- a place that is known to come first

abbrev pub Still : Setting → Type 0
Still s = (k : ℕ) → k < s.cols.count → ((d : ℕ) → d < s.levels → level_at s d ≢ k) → at s.ends.lo k ≡ at s.ends.hi k

abbrev pub Held : Ends → List Bool → ℕ → Type 0
Held e w k = whole_at w k ≡ false → at e.lo k ≡ at e.hi k

pub record TellsStill (s : Setting) (r : Bool) : Type 0 where
  pub all : r ≡ true → Still s
  pub some : r ≡ false → Still s → ⊥

abbrev pub Known : Setting → Bool → Type 0
Known s first = (first ≡ true) × Still s

pub data PointWrites (s : Setting) (P : ℕ → ℤ) (first : Bool) : ℕ → Type 0 where
  known : Known s first → PointWrites s P first 0
  unknown : (n : ℕ) → (Known s first → ⊥) → FramesWrite s P n → PointWrites s P first n
