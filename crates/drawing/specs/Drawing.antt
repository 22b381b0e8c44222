-- A test load from a seed number: paper 02, requests 8, 9 and 11. The state starts at the seed, below 2^64; "after s" means by draws at next_state s and on.
--   next_state s          for each draw hexadecimal 9E3779B97F4A7C15 is added to the state, modulo 2 to the 64
--   mix_left k t, mix_right k t   t xor (t shifted left, right by k), in 64 bits
--   draw_at s             the draw: a copy t of the state becomes t xor (t shifted left 13), then likewise right 7, then left 17
--   span lo hi           how many numbers lie from lo to hi
--   picked t lo hi       over a range: lo plus the remainder of t by hi - lo + 1
--   choice_at s lo hi     drawn at the state s, from lo to hi, none below 0;  around_at s m: from -m to m
--   limit_at s, count_at s, mark_at s, weight_at s, price_at s, value_at s     a figure drawn at s, over its range in paper 01's table
--   bound_by b s          a bound by whether its first draw, at s, was 3: none, or the number of the next draw;  bound_from s: its first draw is at s
--   drawn_bound s         a bound after s: a first draw 0 to 3, 3 being none, then the number if present; and the state after
--   figures_at a b c      an item with its mark, weight, low and high equal, and price drawn at a, b, c, no bounds as yet
--   drawn_figures s       mark, weight and price after s; and the state after
--   mended i             a price 0 beside weight 0 becomes 1 (request 9)
--   drawn_item s          an item after s: drawn_figures s, mended; and the state after
--   drawn_side side b i   the item i with the drawn bound b
--   drawn_line σ i s      what a section draws for the item i after s
--   put_line d k x        a drawn item put at its place;  with_line σ d k: the section's line of the item at place k
--   lines σ n d          the lines of the first n items;  drawn_section σ d: of all
--   headed_by b n         a record of its limit and count: no needs, the items blank as yet
--   drawn_heading s       limit and count after s; and the state after
--   drawn_problem s       a problem after s, in sheet order: limit, count, items, all lower bounds, all upper bounds; and the state after
use Rattle.std.specs.Prelude.{ℕ, zero, suc, ◌+◌, ◌*◌, ◌/◌, ◌%◌, ◌^◌, Bool, true, false, cond, ℤ, pos, ◌+ℤ◌, ◌-ℤ◌, neg_ℤ, ◌==◌, bit_xor, unsigned_abs}
use Rattle.std.specs.Prelude.{None, Some}
use Rattle.knapsack.specs.declared.Mark.{Mark}
use Rattle.knapsack.specs.declared.Mark.TheVariants.{Integer, Continuous}
use Rattle.model.specs.declared.Model.{Model}
use Rattle.model.specs.declared.ModelItem.{ModelItem}
use Rattle.model.specs.declared.Side.{Side}
use Rattle.model.specs.declared.Side.TheVariants as side
use Rattle.model.specs.Records.{empty_model, item_at, is_blank}
use Rattle.model.specs.Setters.{with_capacity, with_count, with_item, bounded}
use Rattle.drawing.specs.declared.DrawnBound.{DrawnBound}
use Rattle.drawing.specs.declared.DrawnItem.{DrawnItem}
use Rattle.drawing.specs.declared.DrawnProblem.{DrawnProblem}
use Rattle.drawing.specs.declared.Section.{Section}
use Rattle.drawing.specs.declared.Section.TheVariants.{Items, Lower, Upper}

-- ---- a draw

-- 9E3779B97F4A7C15 is 11400714819323198485
unfoldable pub next_state : ℕ → ℕ
next_state s = (s + 11400714819323198485) % 2 ^ 64

abbrev pub mix_left : ℕ → ℕ → ℕ
mix_left k t = bit_xor t (t * 2 ^ k % 2 ^ 64)

abbrev pub mix_right : ℕ → ℕ → ℕ
mix_right k t = bit_xor t (t / 2 ^ k)

unfoldable pub draw_at : ℕ → ℕ
draw_at s = mix_left 17 (mix_right 7 (mix_left 13 s))

abbrev pub span : ℤ → ℤ → ℕ
span lo hi = unsigned_abs ((hi -ℤ lo) +ℤ pos 1)

unfoldable pub picked : ℕ → ℤ → ℤ → ℤ
picked t lo hi = lo +ℤ pos (t % span lo hi)

-- ---- a figure at a state

unfoldable pub choice_at : ℕ → ℤ → ℤ → ℕ
choice_at s lo hi = unsigned_abs (picked (draw_at s) lo hi)

unfoldable pub around_at : ℕ → ℤ → ℤ
around_at s m = picked (draw_at s) (neg_ℤ m) m

abbrev pub limit_at : ℕ → ℤ
limit_at s = around_at s (pos 100000000)

abbrev pub count_at : ℕ → ℕ
count_at s = choice_at s (pos 1) (pos 16)

abbrev pub mark_at : ℕ → Mark
mark_at s = cond (choice_at s (pos 0) (pos 1) == 0) Integer Continuous

abbrev pub weight_at : ℕ → ℤ
weight_at s = around_at s (pos 1000)

abbrev pub price_at : ℕ → ℤ
price_at s = around_at s (pos 10000)

-- the number of a bound
abbrev pub value_at : ℕ → ℤ
value_at s = around_at s (pos 10000)

-- ---- a bound, an item

abbrev pub bound_by : Bool → ℕ → DrawnBound
bound_by true s = record { bound = None; state = s }
bound_by false s = record { bound = Some (value_at (next_state s)); state = next_state s }

abbrev pub bound_from : ℕ → DrawnBound
bound_from s = bound_by (choice_at s (pos 0) (pos 3) == 3) s

unfoldable pub drawn_bound : ℕ → DrawnBound
drawn_bound s = bound_from (next_state s)

abbrev pub figures_at : ℕ → ℕ → ℕ → ModelItem
figures_at a b c = record { mark = mark_at a; low = weight_at b; high = weight_at b; price = price_at c; lower = None; upper = None }

unfoldable pub drawn_figures : ℕ → DrawnItem
drawn_figures s = record {
  item = figures_at (next_state s) (next_state (next_state s)) (next_state (next_state (next_state s)));
  state = next_state (next_state (next_state s));
}

unfoldable pub mended : ModelItem → ModelItem
mended i = cond (is_blank i) (record { mark = i.mark; low = i.low; high = i.high; price = pos 1; lower = i.lower; upper = i.upper }) i

unfoldable pub drawn_item : ℕ → DrawnItem
drawn_item s = record { item = mended (drawn_figures s).item; state = (drawn_figures s).state }

-- ---- a section, a problem

abbrev pub drawn_side : Side → DrawnBound → ModelItem → DrawnItem
drawn_side side b i = record { item = bounded side b.bound i; state = b.state }

unfoldable pub drawn_line : Section → ModelItem → ℕ → DrawnItem
drawn_line Items i s = drawn_item s
drawn_line Lower i s = drawn_side side.Lower (drawn_bound s) i
drawn_line Upper i s = drawn_side side.Upper (drawn_bound s) i

abbrev pub put_line : DrawnProblem → ℕ → DrawnItem → DrawnProblem
put_line d k x = record { problem = with_item d.problem k x.item; state = x.state }

unfoldable pub with_line : Section → DrawnProblem → ℕ → DrawnProblem
with_line σ d k = put_line d k (drawn_line σ (item_at d.problem k) d.state)

unfoldable pub lines : Section → ℕ → DrawnProblem → DrawnProblem
lines σ zero d = d
lines σ (suc n) d = with_line σ (lines σ n d) n

abbrev pub drawn_section : Section → DrawnProblem → DrawnProblem
drawn_section σ d = lines σ d.problem.count d

abbrev pub headed_by : ℤ → ℕ → Model
headed_by b n = with_count (with_capacity empty_model b) n

unfoldable pub drawn_heading : ℕ → DrawnProblem
drawn_heading s = record {
  problem = headed_by (limit_at (next_state s)) (count_at (next_state (next_state s)));
  state = next_state (next_state s);
}

unfoldable pub drawn_problem : ℕ → DrawnProblem
drawn_problem s = drawn_section Upper (drawn_section Lower (drawn_section Items (drawn_heading s)))
