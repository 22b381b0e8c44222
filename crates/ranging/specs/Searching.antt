-- How a fall is looked for: what each function of the crate is given and gives.
--   lowered_at p k d         the problem with the price of item k lowered by d
--   Lowerable p k d         d is a fall of the price of item k
--   WorthOf p x r           r is what the point x is worth in p
--   Passes s x y r          r says whether y is worth more than x
--   Passed p k a b low r    at the fall r, which is above low, the point of b is worth more than that of a
--   Watched p ns a          a shows a best point of p with the needs
--   StandsLow b x           x is not above the lower bound b, which there is
--   Spans p ns a k s        the span s of falls: after its low one the point of a is best, after its high one it is not, or that is past the last
--   Narrows p ns a k s r    r is a narrower one
--   FallsAre p ns a n l     l has the falls of the first n items, and 0 at all other places
use Rattle.std.specs.Prelude.{List, Bool, true, false, ◌≡◌, ℕ, ◌+◌, ◌≤◌, ◌<◌, pos, ◌-ℤ◌, get_or, length}
use Rattle.arith.specs.Fractions.{Frac, int, frac, ◌≤ᶠ◌, ◌≈ᶠ◌}
use Rattle.arith.specs.declared.Fraction.{Fraction}
use Rattle.knapsack.specs.Items.{with_item}
use Rattle.knapsack.specs.Meaning.{Instance, Point, instance_of, value, point_of}
use Rattle.knapsack.specs.Ranges.{item_at}
use Rattle.knapsack.specs.declared.Answer.{Answer}
use Rattle.std.specs.Prelude.{Option, ℤ, None, Some}
use Rattle.knapsack.specs.declared.Problem.{Problem}
use Rattle.foremost.proofs.Foremost.{priced_item}
use Rattle.comparing.specs.Comparing.{point_in}
use Rattle.model.specs.Needs.{ShownOptimalNeeds}
use Rattle.model.specs.Records.{FiguresInRange, needs_of}
use Rattle.model.specs.declared.Needs.{Needs}
use Rattle.planner.specs.Branching.{Needed}
use Rattle.ranging.specs.Ranging.{deepest, lowered, StaysBest, FallIs}
use Rattle.ranging.specs.declared.Span.{Span}

abbrev pub lowered_at : Problem → ℕ → ℕ → Problem
lowered_at p k d = with_item p k (priced_item (item_at p k) ((item_at p k).price -ℤ pos d))

pub record Lowerable (p : Problem) (k d : ℕ) : Type 0 where
  pub figures : FiguresInRange p
  pub inside : k < p.count
  pub most : d ≤ deepest (item_at p k).price

pub record WorthOf (p : Problem) (x : List Fraction) (r : Fraction) : Type 0 where
  pub divisor : 1 ≤ r.q
  pub exact : frac r.p r.q ≈ᶠ value (instance_of p) (point_in x)

pub record Passes (s : Instance) (x y : Point) (r : Bool) : Type 0 where
  pub ahead : r ≡ true → ¬ (value s y ≤ᶠ value s x)
  pub behind : r ≡ false → value s y ≤ᶠ value s x

pub record Passed (p : Problem) (k : ℕ) (a b : Answer) (low r : ℕ) : Type 0 where
  pub above : low < r
  pub ahead : ¬ (value (lowered (instance_of p) k r) (point_of b) ≤ᶠ value (lowered (instance_of p) k r) (point_of a))

pub record Watched (p : Problem) (ns : Needs) (a : Answer) : Type 0 where
  pub needed : Needed p ns
  pub best : ShownOptimalNeeds (instance_of p) (needs_of ns) a

abbrev pub StandsLow : Option ℤ → Frac → Type 0
StandsLow None x = ⊥
StandsLow (Some l) x = x ≤ᶠ int l

pub record Spans (p : Problem) (ns : Needs) (a : Answer) (k : ℕ) (s : Span) : Type 0 where
  pub order : s.low < s.high
  pub most : s.high ≤ deepest (item_at p k).price + 1
  pub kept : StaysBest (instance_of p) (needs_of ns) (point_of a) k s.low
  pub lost : s.high ≤ deepest (item_at p k).price → ¬ StaysBest (instance_of p) (needs_of ns) (point_of a) k s.high

pub record Narrows (p : Problem) (ns : Needs) (a : Answer) (k : ℕ) (s r : Span) : Type 0 where
  pub spans : Spans p ns a k r
  pub less : r.high + s.low < s.high + r.low

pub record FallsAre (p : Problem) (ns : Needs) (a : Answer) (n : ℕ) (l : List ℕ) : Type 0 where
  pub long : length l ≡ 16
  pub falls : (k : ℕ) → k < n → FallIs (instance_of p) (needs_of ns) (point_of a) k (get_or l k 0)
  pub small : (k : ℕ) → get_or l k 0 ≤ 20000
