-- What the parts of a step ask and give.
--   LongPath p        the lists of a path have a place for each level
--   Dived s j p r     r is p with the levels from j on at their starts
--   SparseInRange     what the cut by a lattice asks
--   Started s t       the path's place is in the box, and its starts are the place's
--   ProperBest b      an incumbent can be compared
--   BoxInRange c e b  columns, box and incumbent are in their ranges, and the box in order
--   cut_at s t b d     the run of level d is cut
--   Passed s p t b d  the levels above d settle nothing
--   Cut s p t b d     the first level that settles something is d, and its run is cut
--   Discarded s p t b n  it is the last of the first n, and a pair discards them
--   Tries c e x b r   r is the incumbent after a trial of e, and whether it is a better one
--   Tried s p t b r n no level settles anything: the place is tried
--   kept b            the incumbent stays
--   LookedAs, Looked  what a look at a place settles, by the first level that settles something, and the incumbent after it
--   Looks s p t b n   what a look asks: the levels above n are known to settle nothing
--   Unpaired s p x n  no pair discards a level above n
--   nobody            no incumbent yet
--   moved_at t j v     the path with the amount v at level j
--   MoveInRange s t j v  what a move to v at level j asks
--   MovedTo s t j v r r is t with v at level j, and the starts at the deeper levels
--   fresh_by better j  the first level that may settle something after a move at level j
--   WentOn s q …      where a step goes: to its move's place, or to the end
--   counted_by n       one more, as long as it fits
--   Stepped s p q r   a step from q to r
--   origin            the path that a search begins from;  Begun s q: a search at its first place
--   Along s x r       r is the path at the place x;  Resumed s x b r: a search at that place, with the incumbent b
--   GoodBest s b      the incumbent, if there is one, is a feasible point of the box at its place, with its value
--   FilledBest s b    it is the filling at its place
--   Underway s p q    what a search relies on to go on from q
--   Ran s p q n r     n steps lead from q to r
--   RunsFor s p q n r r is where a search stops that goes on from q for at most n steps
--   Alike q r         two states with the same path and incumbent, and both at their end or not
--   RunsOn s p q r    r is where a search from q on stops that is run and resumed
--   Stops s p n r     as RunsFor, from the first place on; the steps told are those taken
use Rattle.std.specs.Prelude.{◌≡◌, Option, None, Some, Bool, true, false, cond, List, ◌⊎◌, ℕ, zero, suc, ◌+◌, ◌≤◌, ◌<◌, ltb, ℤ, pos, ◌*ℤ◌, length, set, replicate, ◌≤ℤ◌}
use Rattle.arith.specs.Limits.{most_room}
use Rattle.arith.specs.Within.{Within}
use Rattle.arith.proofs.Mixes.{over}
use Rattle.knapsack.specs.declared.Mark.{Mark}
use Rattle.knapsack.proofs.Common.{valueᴰ, Feasibleᴰ}
use Rattle.foremost.specs.Tied.{Tied, Rated}
use Rattle.greedy.specs.Fill.{at, fill}
use Rattle.greedy.specs.declared.Ends.{Ends}
use Rattle.greedy.specs.declared.Fill.{Fill}
use Rattle.greedy.specs.Sized.{Sized}
use Rattle.greedy.proofs.Relaxed.{box_of, InOrder}
use Rattle.greedy.specs.declared.Columns.{Columns}
use Rattle.lattice.specs.declared.Lattice.{Lattice}
use Rattle.lattice.specs.Lattice.{Tame, Steep, lattice_at}
use Rattle.places.specs.declared.Settled.{Settled}
use Rattle.places.specs.declared.Settled.TheVariants.{Run, Prefix}
use Rattle.places.specs.Moves.{past_of}
use Rattle.setting.specs.declared.Setting.{Setting}
use Rattle.setting.specs.declared.Pairs.{Pairs}
use Rattle.search.specs.declared.Incumbent.{Incumbent}
use Rattle.search.specs.declared.Path.{Path}
use Rattle.search.specs.declared.Sighting.{Sighting}
use Rattle.search.specs.declared.State.{State}
use Rattle.search.specs.declared.Comparison.{Comparison}
use Rattle.setting.specs.Box.{level_at, fixed_by, Long, Inside}
use Rattle.search.specs.Search.{start_by, run_ends, cut_by, better_by, tried_by, Applies}
use Rattle.setting.specs.Ready.{Marked}
use Rattle.search.specs.Tying.{ReadyTied, ReadySearch}
use Rattle.search.specs.Ahead.{filled_by, Comparable}

-- ---- going down

-- the lists of a path have a place for each level
pub record LongPath (p : Path) : Type 0 where
  pub place-long : length p.place ≡ 16
  pub starts-long : length p.starts ≡ 16

pub record Dived (s : Setting) (j : ℕ) (p r : Path) : Type 0 where
  pub kept : (i : ℕ) → i < j → (at r.place i ≡ at p.place i) × (at r.starts i ≡ at p.starts i)
  pub filled : (i : ℕ) → j ≤ i → i < s.levels → (at r.place i ≡ start_by s (at r.place) i) × (at r.starts i ≡ at r.place i)
  pub beyond : (i : ℕ) → s.levels ≤ i → (at r.place i ≡ at p.place i) × (at r.starts i ≡ at p.starts i)
  pub long : LongPath r

-- ---- looking

-- the lattice is asked whether a value above w is found, by a filling that ends at an item of that weight and price
pub record SparseInRange (l : Lattice) (f : Fill) (size rate w : ℤ) : Type 0 where
  pub steep : Steep (record { worth = f.worth; rate = rate; size = size })
  pub room_in : Within most_room f.room
  pub tame : Tame l
  pub whole_in : Within 201000000000000001 w

-- the path's place is in the box, and its starts are the place's
pub record Started (s : Setting) (t : Path) : Type 0 where
  pub long : Long s.ends
  pub inside : Inside s (at t.place)
  pub starts : (d : ℕ) → d < s.levels → at t.starts d ≡ start_by s (at t.place) d

-- an incumbent can be compared
abbrev pub ProperBest : Incumbent → Type 0
ProperBest b = b.found ≡ true → Comparable b

pub record BoxInRange (c : Columns) (e : Ends) (b : Incumbent) : Type 0 where
  pub sized : Sized c e
  pub tied : Tied c
  pub rated : Rated c
  pub in_order : InOrder c e
  pub proper : ProperBest b

-- the run of level d is cut
abbrev pub cut_at : Setting → Path → Incumbent → ℕ → Bool
cut_at s t b d = cut_by s.cols (lattice_at s.lattice d) (run_ends s (at t.place) (at t.starts d) d) b

-- the levels above d settle nothing
pub record Passed (s : Setting) (p : Pairs) (t : Path) (b : Incumbent) (d : ℕ) : Type 0 where
  pub uncut : (i : ℕ) → i < d → cut_at s t b i ≡ false
  pub unpaired : (i : ℕ) → i < d → ¬ Applies s p (at t.place) i

-- the first level that settles something has its run cut
pub record Cut (s : Setting) (p : Pairs) (t : Path) (b : Incumbent) (d : ℕ) : Type 0 where
  pub level_in : d < s.levels
  pub passed : Passed s p t b d
  pub cut : cut_at s t b d ≡ true

-- it is the last of the first n, and a pair discards them
pub record Discarded (s : Setting) (p : Pairs) (t : Path) (b : Incumbent) (n : ℕ) : Type 0 where
  pub level : ℕ
  pub level_in : level < s.levels
  pub last : n ≡ suc level
  pub passed : Passed s p t b level
  pub uncut : cut_at s t b level ≡ false
  pub paired : Applies s p (at t.place) level

-- r is the incumbent after a trial of e, and whether it is a better one
pub record Tries (c : Columns) (e : Ends) (x : List ℤ) (b : Incumbent) (r : Comparison) : Type 0 where
  pub best-is : r.best ≡ tried_by c e x b
  pub better-is : r.better ≡ better_by c e b

-- no level settles anything: the place is tried
pub record Tried (s : Setting) (p : Pairs) (t : Path) (b : Incumbent) (r : Comparison) (n : ℕ) : Type 0 where
  pub all : n ≡ s.levels
  pub passed : Passed s p t b s.levels
  pub tries : Tries s.cols (fixed_by s (at t.place) s.levels) t.place b r

-- the incumbent stays
abbrev pub kept : Incumbent → Comparison
kept b = record { best = b; better = false }

-- r is the incumbent after the look, and whether it is a better one
abbrev pub LookedAs : Setting → Pairs → Path → Incumbent → Comparison → Settled → Type 0
LookedAs s p t b r (Run d) = (r ≡ kept b) × Cut s p t b d
LookedAs s p t b r (Prefix n) = Tried s p t b r n ⊎ ((r ≡ kept b) × Discarded s p t b n)

abbrev pub Looked : Setting → Pairs → Path → Incumbent → Sighting → Type 0
Looked s p t b r = LookedAs s p t b (record { best = r.best; better = r.better }) r.settled

-- what a look asks: the levels above n settle nothing
pub record Looks (s : Setting) (p : Pairs) (t : Path) (b : Incumbent) (n : ℕ) : Type 0 where
  pub ready : ReadySearch s p
  pub started : Started s t
  pub proper : ProperBest b
  pub from_in : n ≤ s.levels
  pub passed : Passed s p t b n

-- no pair discards a level above n
pub record Unpaired (s : Setting) (p : Pairs) (x : List ℤ) (n : ℕ) : Type 0 where
  pub ready : ReadySearch s p
  pub inside : Inside s (at x)
  pub from_in : n ≤ s.levels
  pub unpaired : (i : ℕ) → i < n → ¬ Applies s p (at x) i

-- ---- going on

abbrev pub nobody : Incumbent
nobody = record { found = false; place = replicate 16 (pos 0); point = replicate 16 (pos 0); value = record { whole = pos 0; part = 0; parts = 1 } }

-- the path with the amount v at level j
abbrev pub moved_at : Path → ℕ → ℤ → Path
moved_at t j v = record { place = set t.place j v; starts = t.starts }

pub record MoveInRange (s : Setting) (t : Path) (j : ℕ) (v : ℤ) : Type 0 where
  pub ready : ReadyTied s
  pub started : Started s t
  pub level_in : j < s.levels
  pub low : at s.low j ≤ℤ v
  pub high : v ≤ℤ at s.high j

-- r is t with v at level j, and the starts at the deeper levels
pub record MovedTo (s : Setting) (t : Path) (j : ℕ) (v : ℤ) (r : Path) : Type 0 where
  pub above : (i : ℕ) → i < j → at r.place i ≡ at t.place i
  pub here : at r.place j ≡ v
  pub deeper : (i : ℕ) → j < i → i < s.levels → at r.place i ≡ start_by s (at r.place) i
  pub starts : (i : ℕ) → i < s.levels → at r.starts i ≡ start_by s (at r.place) i
  pub beyond : (i : ℕ) → s.levels ≤ i → (at r.place i ≡ at t.place i) × (at r.starts i ≡ at t.starts i)
  pub long : LongPath r

-- after a move at level j the levels above settle nothing, but for a better incumbent
abbrev pub fresh_by : Bool → ℕ → ℕ
fresh_by better j = cond better 0 j

abbrev pub WentOn : Setting → State → Bool → Option (ℕ × ℤ) → State → Type 0
WentOn s q better None r = (r.done ≡ true) × ((r.path ≡ q.path) × (r.from ≡ 0))
WentOn s q better (Some m) r = (r.done ≡ false) × (MovedTo s q.path m.0 m.1 r.path × (r.from ≡ fresh_by better m.0))

-- one more, as long as it fits
abbrev pub counted_by : ℕ → ℕ
counted_by n = cond (ltb n 18446744073709551615) (n + 1) n

pub record Stepped (s : Setting) (p : Pairs) (q r : State) : Type 0 where
  pub verdict : Settled
  pub better : Bool
  pub looked : LookedAs s p q.path q.best (record { best = r.best; better = better }) verdict
  pub went : WentOn s q better (past_of verdict (at s.low) (at s.high) (at q.path.starts) (at q.path.place)) r
  pub counted : r.steps ≡ counted_by q.steps

-- ---- a whole search

abbrev pub origin : Path
origin = record { place = replicate 16 (pos 0); starts = replicate 16 (pos 0) }

-- at the first place, with no step taken and nothing found
pub record Begun (s : Setting) (q : State) : Type 0 where
  pub first : Dived s 0 origin q.path
  pub nothing : q.best ≡ nobody
  pub no_steps : q.steps ≡ 0
  pub top : q.from ≡ 0
  pub going : q.done ≡ false

-- r is the path at the place x
pub record Along (s : Setting) (x : List ℤ) (r : Path) : Type 0 where
  pub place_is : r.place ≡ x
  pub starts : (d : ℕ) → d < s.levels → at r.starts d ≡ start_by s (at x) d
  pub beyond : (i : ℕ) → s.levels ≤ i → at r.starts i ≡ pos 0
  pub starts-long : length r.starts ≡ 16

-- r is the search at the place x, with the incumbent b
pub record Resumed (s : Setting) (x : List ℤ) (b : Incumbent) (r : State) : Type 0 where
  pub path-is : Along s x r.path
  pub best-is : r.best ≡ b
  pub no_steps : r.steps ≡ 0
  pub top : r.from ≡ 0
  pub going : r.done ≡ false

-- the incumbent's point is feasible at a place of the box, and its value is the point's; it need not be the filling there
pub record GoodBest (s : Setting) (b : Incumbent) : Type 0 where
  pub proper : ProperBest b
  pub inside : b.found ≡ true → Inside s (at b.place)
  pub at_place : b.found ≡ true → (d : ℕ) → d < s.levels → at b.point (level_at s d) ≡ at b.place d *ℤ pos b.value.parts
  pub feasible : b.found ≡ true → (marks : ℕ → Mark) → Marked s marks → Feasibleᴰ (box_of s.cols s.ends marks) b.value.parts (at b.point)
  pub value-is : b.found ≡ true → (marks : ℕ → Mark) → valueᴰ (box_of s.cols s.ends marks) (at b.point) ≡ over b.value

-- it is the filling at its place: so it is in a search from the first place on
pub record FilledBest (s : Setting) (b : Incumbent) : Type 0 where
  pub inside : b.found ≡ true → Inside s (at b.place)
  pub roomy : b.found ≡ true → pos 0 ≤ℤ (fill s.cols (fixed_by s (at b.place) s.levels)).room
  pub filling-is : b.found ≡ true → b ≡ filled_by s.cols (fixed_by s (at b.place) s.levels) b.place

-- what a search relies on to go on
pub record Underway (s : Setting) (p : Pairs) (q : State) : Type 0 where
  pub ready : ReadySearch s p
  pub started : Started s q.path
  pub good : GoodBest s q.best
  pub from_in : q.from ≤ s.levels
  pub passed : Passed s p q.path q.best q.from

-- two states that differ at most in what is known to settle nothing, and in how many steps are counted
pub record Alike (q r : State) : Type 0 where
  pub path-is : q.path ≡ r.path
  pub best-is : q.best ≡ r.best
  pub done-is : q.done ≡ r.done

-- n steps from q to r
unfoldable pub Ran : Setting → Pairs → State → ℕ → State → Type 0
Ran s p q zero r = r ≡ q
Ran s p q (suc n) r = (o : State) × (Ran s p q n o × ((o.done ≡ false) × Stepped s p o r))

-- a search that goes on from q stops at its end, or after n steps
pub record RunsFor (s : Setting) (p : Pairs) (q : State) (n : ℕ) (r : State) : Type 0 where
  pub count : ℕ
  pub ran : Ran s p q count r
  pub few : count ≤ n
  pub stops : (r.done ≡ true) ⊎ (count ≡ n)

-- r is where a search from q on stops that is run and resumed, each time for some steps, from a state like the one where it stopped
pub data RunsOn (s : Setting) (p : Pairs) (q : State) : State → Type 0 where
  begun : RunsOn s p q q
  onward : (o o' r : State) (n : ℕ) → RunsOn s p q o → Alike o o' → RunsFor s p o' n r → RunsOn s p q r

-- the same from the first place on, with the steps counted
pub record Stops (s : Setting) (p : Pairs) (n : ℕ) (r : State) : Type 0 where
  pub start : State
  pub begun : Begun s start
  pub runs : RunsFor s p start n r
  pub steps-are : r.steps ≡ runs.count
