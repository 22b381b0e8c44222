-- The answers that a search and a ray are made into.
--   Joinable v        the value v fits one number of parts
--   unfilled          no rank is raised
--   Cornered s d a    a shows the light ends of the box and the steps d, and no value
--   box_at s x         the box of the place x;  fill_at, value_at s c x: its filling with the columns c, and its value
--   Best s c x a      a shows the relaxation of the place x and its value in lowest terms, and no steps
--   TiedTo s r        the setting r is s with its columns tied
--   BestIn s c f x    if f, the filling at the place x is an optimal point of the box, and worth its bound; else nothing in the box is feasible
--   worth_of s f x     what the place x is worth, if f
--   Standing s x      the place x is in the box, and has room
--   most_work          the most cells that the scales write for a problem: those of 680 runs
--   WorkOf p s end k  k cells are written where the search of the box of s has come to `end`: none if that is done; else those of its best place, and of the
--                     first point
--   Answerable p s    s is p prepared, which has a feasible point and no ray
--   Walked most p named n
--                     n steps were taken by the search of p that may take `most` and discards by no pair with an item that is named
--   Started p a n     a starts where every item of p is lightest, and no step was taken for it
--   CountsAs most k p named a n, Counts most p named a n
--                     n steps were taken for an answer a of that kind, for the answer a
--   Scaled most p named k
--                     k cells are written for an optimum, after its search
--   CellsAs most k p named n, Cells most p named a n
--                     n cells are written for an answer of that kind, for the answer a
--   Answered most p named r
--                     r is an optimal answer of p, with its steps and cells
--   SolvesWithin most p r
--                     r is the answer of p, after at most so many steps;  Solves p r: at most 500
use Rattle.std.specs.Prelude.{◌≡◌, Bool, true, false, cond, List, ℕ, ◌+◌, ◌≤◌, ℤ, pos, ◌*ℤ◌, replicate, ◌≤ℤ◌}
use Rattle.arith.specs.Within.{Within}
use Rattle.arith.specs.Gcd.{lowest}
use Rattle.arith.specs.declared.Mixed.{Mixed}
use Rattle.arith.proofs.Mixes.{over}
use Rattle.arith.specs.Mixed.{Proper}
use Rattle.firsts.specs.Leading.{OwnAmounts}
use Rattle.foremost.specs.Order.{TiedOf}
use Rattle.greedy.specs.declared.Columns.{Columns}
use Rattle.greedy.specs.declared.Ends.{Ends}
use Rattle.greedy.specs.declared.Fill.{Fill}
use Rattle.greedy.specs.Fill.{at, fill, bound, solution}
use Rattle.greedy.proofs.Relaxed.{box_of}
use Rattle.knapsack.proofs.Common.{valueᴰ, Feasibleᴰ, Optimalᴰ}
use Rattle.knapsack.proofs.Reach.{NoRay}
use Rattle.knapsack.specs.Ranges.{InRange}
use Rattle.knapsack.specs.declared.Mark.{Mark}
use Rattle.knapsack.specs.Meaning.{nought, instance_of, Answers, ShownFirst}
use Rattle.knapsack.specs.declared.Answer.{Answer}
use Rattle.knapsack.specs.declared.Kind.{Kind}
use Rattle.knapsack.specs.declared.Kind.TheVariants as kind
use Rattle.knapsack.specs.declared.Problem.{Problem}
use Rattle.placed.specs.Placed.{ShownWrites}
use Rattle.prepare.specs.Pairs.{PairsOf}
use Rattle.prepare.specs.Narrowing.{span_of}
use Rattle.prepare.specs.Prepared.{PreparedAt, Prepared}
use Rattle.setting.specs.declared.Pairs.{Pairs}
use Rattle.setting.specs.declared.Setting.{Setting}
use Rattle.search.specs.declared.State.{State}
use Rattle.setting.specs.Box.{fixed_by, Inside, Long}
use Rattle.setting.specs.Ready.{Marked}
use Rattle.search.specs.Steps.{Stops}
use Rattle.search.specs.Tying.{with_cols}
use Rattle.settling.specs.Settling.{SettleWrites}
use Rattle.solver.specs.declared.Solved.{Solved}

pub record Joinable (v : Mixed) : Type 0 where
  pub whole_in : Within 201000000000000000 v.whole
  pub product-in : Within 500000000000000000 (v.whole *ℤ pos v.parts)
  pub part_in : v.part ≤ 1000
  pub parts_in : v.parts ≤ 1000

abbrev pub unfilled : Fill
unfilled = record { at = 0; room = pos 0; worth = pos 0 }

pub record Cornered (s : Setting) (d : List ℤ) (a : Answer) : Type 0 where
  pub kind-is : a.kind ≡ kind.Unbounded
  pub point-is : OwnAmounts s s.cols s.ends unfilled a.point
  pub steps-are : a.steps ≡ d
  pub value-is : a.value ≡ nought

-- the box of the place, what its filling is, and its value
abbrev pub box_at : Setting → List ℤ → Ends
box_at s x = fixed_by s (at x) s.levels

abbrev pub fill_at : Setting → Columns → List ℤ → Fill
fill_at s c x = fill c (box_at s x)

abbrev pub value_at : Setting → Columns → List ℤ → Mixed
value_at s c x = bound c (fill_at s c x)

pub record Best (s : Setting) (c : Columns) (x : List ℤ) (a : Answer) : Type 0 where
  pub kind-is : a.kind ≡ kind.Optimal
  pub long : Long s.ends
  pub point-is : OwnAmounts s c (box_at s x) (fill_at s c x) a.point
  pub steps-are : a.steps ≡ replicate 16 (pos 0)
  pub value-is : a.value ≡ lowest (over (value_at s c x)) (value_at s c x).parts

-- ---- the best place of a box

pub record TiedTo (s r : Setting) : Type 0 where
  pub long : Long s.ends
  pub same : r ≡ with_cols s r.cols
  pub tied : TiedOf s.cols r.cols

pub record BestIn (s : Setting) (c : Columns) (f : Bool) (x : List ℤ) : Type 0 where
  pub inside : f ≡ true → Inside s (at x)
  pub roomy : f ≡ true → pos 0 ≤ℤ (fill_at s c x).room
  pub optimal : f ≡ true → (marks : ℕ → Mark) → Marked s marks
      → Optimalᴰ (box_of s.cols s.ends marks) (value_at s c x).parts (solution c (box_at s x) (fill_at s c x))
  pub value-is : f ≡ true → (marks : ℕ → Mark) → Marked s marks
      → valueᴰ (box_of s.cols s.ends marks) (solution c (box_at s x) (fill_at s c x)) ≡ over (value_at s c x)
  pub proper : f ≡ true → Proper (value_at s c x)
  pub empty : f ≡ false → (marks : ℕ → Mark) → Marked s marks → (D : ℕ) (N : ℕ → ℤ) → 1 ≤ D → ¬ Feasibleᴰ (box_of s.cols s.ends marks) D N

abbrev pub worth_of : Setting → Bool → List ℤ → Mixed
worth_of s f x = cond f (value_at s s.cols x) (record { whole = pos 0; part = 0; parts = 1 })

pub record Standing (s : Setting) (x : List ℤ) : Type 0 where
  pub inside : Inside s (at x)
  pub roomy : pos 0 ≤ℤ (fill_at s s.cols x).room

-- the cells of a best place, and those of the first point: 289 runs and 391 (proofs/Cells)
abbrev pub most_work : ℕ
most_work = 67570093800

-- the scales go on from the search's incumbent
pub data WorkOf (p : Problem) (s : Setting) (end : State) : ℕ → Type 0 where
  ended : end.done ≡ true → WorkOf p s end 0
  stopped : (first : Bool) (k n : ℕ) → end.done ≡ false
      → SettleWrites s.cols s.ends s.level s.levels end.best.found (worth_of s end.best.found end.best.place) first k
      → ShownWrites p first n → WorkOf p s end (k + n)

pub record Answerable (p : Problem) (s : Setting) : Type 0 where
  pub range : InRange p
  pub prepared : PreparedAt (span_of p) p s
  pub no-ray : NoRay (instance_of p)
  pub point : ℕ → ℤ
  pub feasible : Feasibleᴰ (instance_of p) 1 point

-- ---- the answer of a problem, and the steps of its search

-- n steps were taken by a search of p's own setting, narrowed to its items' spans and with its columns tied, that may take `most`
pub record Walked (most : ℕ) (p : Problem) (named : List Bool) (n : ℕ) : Type 0 where
  pub setting : Setting
  pub prepared : PreparedAt (span_of p) p setting
  pub pairs : Pairs
  pub pairs-are : PairsOf p named pairs
  pub cols : Columns
  pub tied : TiedOf setting.cols cols
  pub end : State
  pub stops : Stops (with_cols setting cols) pairs most end
  pub steps-are : n ≡ end.steps

-- the start of a ray is one point of the problem: what needs come to from there hangs on it
pub record Started (p : Problem) (a : Answer) (n : ℕ) : Type 0 where
  pub setting : Setting
  pub prepared : Prepared p setting
  pub moves : List ℤ
  pub cornered : Cornered setting moves a
  pub none : n ≡ 0

-- an optimum is searched for; no other answer is
abbrev pub CountsAs : ℕ → Kind → Problem → List Bool → Answer → ℕ → Type 0
CountsAs most kind.Optimal p named a n = Walked most p named n
CountsAs most kind.Infeasible p named a n = n ≡ 0
CountsAs most kind.Unbounded p named a n = Started p a n
CountsAs most (kind.Refused f) p named a n = ⊥

abbrev pub Counts : ℕ → Problem → List Bool → Answer → ℕ → Type 0
Counts most p named a n = CountsAs most a.kind p named a n

pub record Scaled (most : ℕ) (p : Problem) (named : List Bool) (k : ℕ) : Type 0 where
  pub steps : ℕ
  pub walked : Walked most p named steps
  pub writes : WorkOf p walked.setting walked.end k

abbrev pub CellsAs : ℕ → Kind → Problem → List Bool → ℕ → Type 0
CellsAs most kind.Optimal p named n = Scaled most p named n
CellsAs most kind.Infeasible p named n = n ≡ 0
CellsAs most kind.Unbounded p named n = n ≡ 0
CellsAs most (kind.Refused f) p named n = ⊥

abbrev pub Cells : ℕ → Problem → List Bool → Answer → ℕ → Type 0
Cells most p named a n = CellsAs most a.kind p named n

pub record SolvesWithin (most : ℕ) (p : Problem) (r : Solved) : Type 0 where
  pub answers : Answers (instance_of p) r.answer
  pub first : ShownFirst (instance_of p) r.answer
  pub few-steps : r.steps ≤ most
  pub few-cells : r.cells ≤ most_work

pub record Answered (most : ℕ) (p : Problem) (named : List Bool) (r : Solved) : Type 0 where
  pub kind-is : r.answer.kind ≡ kind.Optimal
  pub solves : SolvesWithin most p r
  pub walked : Walked most p named r.steps
  pub scaled : Scaled most p named r.cells

abbrev pub Solves : Problem → Solved → Type 0
Solves p r = SolvesWithin 500 p r
