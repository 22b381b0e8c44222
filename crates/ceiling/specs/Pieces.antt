-- Items as pieces to fill the room with. A piece is a unit of an item, or of the item cut the part of it that weighs 1.
--   foot_by a l u           the end where an item weighs least;  foot_of c e k: of item k
--   size_by b a             what a piece weighs; b says that the item is cut;  size_of c cut k
--   span_by b E l u         how many there are;  span_of e E cut k
--   cost_by b E r           what a piece costs away from the good end, at the scale E
--   heavy_by a r            the good end is the one where the item weighs most
--   taken_by, left_by        the cost of a piece that is taken, of one that is left;  taken_of, left_of: of item k
--   falls_of c k            the amount falls where more pieces are taken
--   room_by c e             the capacity that is left where every item weighs least
--   amount_by b E a l u y   the amount that y pieces make, over the divisor E;  amount_of c e E cut y k: of item k
--   whole_by a l u y        the whole amount that y units make;  whole_of c e y k: of item k
--   Listing m f s xs       a list of 17 numbers: those of the first m items, none for the other places, and that of the slack
--   Blank s xs             no items yet
--   Flags m f xs           a list of 17 tests: those of the first m items
--   Pieces p q c e .. ps   ps shows the pieces of the first m items, and the slack: pieces that weigh 1
use Rattle.std.specs.Prelude.{◌≡◌, Bool, cond, not, List, ℕ, ◌*◌, ◌≤◌, ◌<◌, eqb, ℤ, pos, nat_abs, ◌+ℤ◌, ◌-ℤ◌, ◌*ℤ◌, length}
use Rattle.std.specs.Int.Signed.{lt_z}
use Rattle.arith.specs.Sum.{sum}
use Rattle.fillings.specs.declared.Parts.{Parts}
use Rattle.fillings.specs.Ranges.{num, flag}
use Rattle.greedy.specs.declared.Columns.{Columns}
use Rattle.greedy.specs.declared.Ends.{Ends}
use Rattle.greedy.specs.Fill.{at, weight_of}
use Rattle.ceiling.specs.Loss.{score_of}

abbrev pub foot_by : ℤ → ℤ → ℤ → ℤ
foot_by a l u = cond (lt_z a (pos 0)) u l

abbrev pub size_by : Bool → ℤ → ℕ
size_by b a = cond b 1 (nat_abs a)

abbrev pub span_by : Bool → ℕ → ℤ → ℤ → ℕ
span_by b E l u = cond b (E * nat_abs (u -ℤ l)) (nat_abs (u -ℤ l))

abbrev pub cost_by : Bool → ℕ → ℤ → ℕ
cost_by b E r = cond b (nat_abs r) (E * nat_abs r)

abbrev pub heavy_by : ℤ → ℤ → Bool
heavy_by a r = cond (lt_z a (pos 0)) (not (lt_z (pos 0) r)) (lt_z (pos 0) r)

abbrev pub taken_by : Bool → ℕ → ℤ → ℤ → ℕ
taken_by b E a r = cond (heavy_by a r) 0 (cost_by b E r)

abbrev pub left_by : Bool → ℕ → ℤ → ℤ → ℕ
left_by b E a r = cond (heavy_by a r) (cost_by b E r) 0

abbrev pub foot_of : Columns → Ends → ℕ → ℤ
foot_of c e k = foot_by (weight_of c k) (at e.lo k) (at e.hi k)

abbrev pub room_by : Columns → Ends → ℤ
room_by c e = c.capacity -ℤ sum c.count (λ k. weight_of c k *ℤ foot_of c e k)

abbrev pub amount_by : Bool → ℕ → ℤ → ℤ → ℤ → ℕ → ℤ
amount_by b E a l u y = cond (lt_z a (pos 0)) (u *ℤ pos E -ℤ pos (y * cond b 1 E)) (l *ℤ pos E +ℤ pos (y * cond b 1 E))

abbrev pub amount_of : Columns → Ends → ℕ → ℕ → (ℕ → ℕ) → ℕ → ℤ
amount_of c e E cut y k = amount_by (eqb k cut) E (weight_of c k) (at e.lo k) (at e.hi k) (y k)

abbrev pub whole_by : ℤ → ℤ → ℤ → ℕ → ℤ
whole_by a l u y = cond (lt_z a (pos 0)) (u -ℤ pos y) (l +ℤ pos y)

abbrev pub whole_of : Columns → Ends → (ℕ → ℕ) → ℕ → ℤ
whole_of c e y k = whole_by (weight_of c k) (at e.lo k) (at e.hi k) (y k)

pub record Listing (m : ℕ) (f : ℕ → ℕ) (slack : ℕ) (xs : List ℕ) : Type 0 where
  pub long : length xs ≡ 17
  pub items : (k : ℕ) → k < m → num xs k ≡ f k
  pub none : (k : ℕ) → m ≤ k → k < 16 → num xs k ≡ 0
  pub last : num xs 16 ≡ slack

abbrev pub Blank : ℕ → List ℕ → Type 0
Blank slack xs = Listing 0 (λ k. 0) slack xs

pub record Flags (m : ℕ) (f : ℕ → Bool) (xs : List Bool) : Type 0 where
  pub long : length xs ≡ 17
  pub items : (k : ℕ) → k < m → flag xs k ≡ f k

abbrev pub size_of : Columns → ℕ → ℕ → ℕ
size_of c cut k = size_by (eqb k cut) (weight_of c k)

abbrev pub span_of : Ends → ℕ → ℕ → ℕ → ℕ
span_of e E cut k = span_by (eqb k cut) E (at e.lo k) (at e.hi k)

abbrev pub taken_of : ℕ → ℕ → Columns → ℕ → ℕ → ℕ → ℕ
taken_of p q c E cut k = taken_by (eqb k cut) E (weight_of c k) (score_of p q c k)

abbrev pub left_of : ℕ → ℕ → Columns → ℕ → ℕ → ℕ → ℕ
left_of p q c E cut k = left_by (eqb k cut) E (weight_of c k) (score_of p q c k)

abbrev pub falls_of : Columns → ℕ → Bool
falls_of c k = lt_z (weight_of c k) (pos 0)

pub record Pieces (p q : ℕ) (c : Columns) (e : Ends) (E cut room m : ℕ) (ps : Parts) : Type 0 where
  pub weights : Listing m (size_of c cut) 1 ps.weight
  pub ranges : Listing m (span_of e E cut) room ps.range
  pub takens : Listing m (taken_of p q c E cut) (E * p) ps.taken
  pub lefts : Listing m (left_of p q c E cut) 0 ps.left
  pub falls : Flags m (falls_of c) ps.falls
