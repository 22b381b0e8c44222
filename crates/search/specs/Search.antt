-- The search over places: what each part of a step computes.
--   start_by s P d       where level d starts below P's first d amounts: its item's amount in the relaxation, rounded to the light end
--   by_side x v a b      a below v, b from v on
--   run_box, run_ends     the box of P's run at level d, which starts at v: what is left of its segment there, and all below
--   slope_of c f         the critical item's price for its weight, from the whole amounts' worth on
--   sparse_by c l f b    no value above b is found on the lattice l, within the room and the slope of the filling f
--   lowered t w         one less than w, if t
--   threshold_at lo y n d w  the value that a box of n items with these lower ends has to exceed, of the point y over d whose whole value is w
--   threshold_by c e best    the same of the incumbent
--   cut_by c l e best    the box e holds nothing, or nothing ahead of the incumbent
--   betters c e best    the filling of e is ahead of the incumbent
--   better_by c e best   the relaxation of e, a place with all levels fixed, is feasible and ahead of the incumbent
--   tried_by c e x best  the one of the two that is ahead, where the levels are fixed at x
--   Stays x r l u       x less r lies within l and u
--   Removable …         a pair's steps can be taken away from two amounts within their ends
--   AppliesAt s p x d j the domination pair of the items of levels d and j can be taken away from x within the box
--   Applies s p x d     so it is with some level j above d
--   Reflects P b        the test b says whether P holds
--   FirstPaired s p x r r is the first level that a pair discards, or the number of levels
use Rattle.std.specs.Prelude.{◌≡◌, Bool, true, false, cond, List, ◌≢◌, ℕ, ◌≤◌, ◌<◌, ltb, ℤ, pos, ◌-ℤ◌, ◌≤ℤ◌}
use Rattle.std.specs.Int.Signed.{lt_z}
use Rattle.greedy.specs.declared.Columns.{Columns}
use Rattle.greedy.specs.declared.Ends.{Ends}
use Rattle.greedy.specs.declared.Fill.{Fill}
use Rattle.greedy.specs.Fill.{at, fill, start}
use Rattle.lattice.specs.declared.Lattice.{Lattice}
use Rattle.lattice.specs.declared.Slope.{Slope}
use Rattle.lattice.specs.Lattice.{barren_by}
use Rattle.setting.specs.declared.Setting.{Setting}
use Rattle.setting.specs.declared.Pairs.{Pairs}
use Rattle.setting.specs.Box.{level_at, spanned, fixed_by}
use Rattle.setting.specs.Ready.{pair_index}
use Rattle.search.specs.declared.Incumbent.{Incumbent}
use Rattle.search.specs.Ahead.{corner_sooner, ahead_by, filled_by}

unfoldable pub start_by : Setting → (ℕ → ℤ) → ℕ → ℤ
start_by s P d = start s.cols (fixed_by s P d) (fill s.cols (fixed_by s P d)) (level_at s d)

abbrev pub by_side : ℤ → ℤ → ℤ → ℤ → ℤ
by_side x v a b = cond (lt_z x v) a b

-- up to the upper end from the start on, down to the lower end below it
abbrev pub run_box : Ends → ℕ → ℤ → ℤ → ℤ → ℤ → Ends
run_box e i l h x v = spanned e i (by_side x v l x) (by_side x v x h)

abbrev pub run_ends : Setting → (ℕ → ℤ) → ℤ → ℕ → Ends
run_ends s P v d = run_box (fixed_by s P d) (level_at s d) (at s.low d) (at s.high d) (P d) v

-- the critical item's price for its weight, from the whole amounts' worth on
abbrev pub slope_of : Columns → Fill → Slope
slope_of c f = record { worth = f.worth; rate = at c.rate f.at; size = at c.size f.at }

unfoldable pub sparse_by : Columns → Lattice → Fill → ℤ → Bool
sparse_by c l f b = cond (ltb f.at c.live) (barren_by l (slope_of c f) f.room b) false

abbrev pub lowered : Bool → ℤ → ℤ
lowered t w = cond t (w -ℤ pos 1) w

-- what is worth as much can be ahead only where the lower corner of the box comes before the point
unfoldable pub threshold_at : List ℤ → List ℤ → ℕ → ℕ → ℤ → ℤ
threshold_at lo y n d w = lowered (corner_sooner lo y n d) w

abbrev pub threshold_by : Columns → Ends → Incumbent → ℤ
threshold_by c e best = threshold_at e.lo best.point c.count best.value.parts best.value.whole

-- where the filling is ahead of the incumbent, the lattice may still say that no value above the threshold is found
unfoldable pub cut_by : Columns → Lattice → Ends → Incumbent → Bool
cut_by c l e best =
    cond (lt_z (fill c e).room (pos 0)) true
    (cond best.found (cond (ahead_by c e (fill c e) best) (sparse_by c l (fill c e) (threshold_by c e best)) true) false)

-- whether the filling of e is ahead of the incumbent
abbrev pub betters : Columns → Ends → Incumbent → Bool
betters c e best = cond best.found (ahead_by c e (fill c e) best) true

-- the relaxation of e is feasible, and ahead of the incumbent
unfoldable pub better_by : Columns → Ends → Incumbent → Bool
better_by c e best = cond (lt_z (fill c e).room (pos 0)) false (betters c e best)

unfoldable pub tried_by : Columns → Ends → List ℤ → Incumbent → Incumbent
tried_by c e x best = cond (lt_z (fill c e).room (pos 0)) best (cond (betters c e best) (filled_by c e x) best)

-- x less r lies within l and u
pub record Stays (x r l u : ℤ) : Type 0 where
  pub low : l ≤ℤ (x -ℤ r)
  pub high : (x -ℤ r) ≤ℤ u

-- steps of r and t, of which r is not 0, can be taken away from x and y within their ends
pub record Removable (r t x y l u m w : ℤ) : Type 0 where
  pub moves : r ≢ pos 0
  pub own : Stays x r l u
  pub other : Stays y t m w

-- the pair of the items of level d and of the level j above can be taken away from x within the box
abbrev pub AppliesAt : Setting → Pairs → (ℕ → ℤ) → ℕ → ℕ → Type 0
AppliesAt s p x d j = Removable (at p.first (pair_index (level_at s d) (level_at s j))) (at p.second (pair_index (level_at s d) (level_at s j))) (x d) (x j)
    (at s.low d) (at s.high d) (at s.low j) (at s.high j)

pub record Applies (s : Setting) (p : Pairs) (x : ℕ → ℤ) (d : ℕ) : Type 0 where
  pub above : ℕ
  pub is-above : above < d
  pub here : AppliesAt s p x d above

-- a test and what it decides
pub record Reflects (P : Type 0) (b : Bool) : Type 0 where
  pub holds : b ≡ true → P
  pub fails : b ≡ false → ¬ P

-- the first level that a pair discards, or the number of levels
pub record FirstPaired (s : Setting) (p : Pairs) (x : ℕ → ℤ) (r : ℕ) : Type 0 where
  pub most : r ≤ s.levels
  pub here : r < s.levels → Applies s p x r
  pub before : (d : ℕ) → d < r → ¬ Applies s p x d
