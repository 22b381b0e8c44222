-- What a fall of a price does to a best point: paper 02, request 13, "Which price to watch". It comes on top of knapsack's Meaning and model's Needs.
--   deepest c               how far the price c can fall: to -10,000
--   lowered s k d           s with the price of item k lowered by d, all else kept
--   StaysBest s ns x k d    x is optimal with the needs after that fall
--   LeastFall s ns x k d    d is the least fall after which x is no longer optimal; the price is then not below -10,000
--   FallIs s ns x k r       r is that fall, or 0 (02: none) where x is optimal still at the price -10,000
--   fall_at w k              the fall of the item at place k, from 0
--   no_falls a               another answer, which has no falls
--   FallsOf m w             the planner's sure answer to the record m, and the falls of its best point
-- An unbounded problem has no optimal point, so it counts as a fall (proofs/Ranging, unbounded-falls). falls-once: there is one such r.
use Rattle.std.specs.Prelude.{List, ◌≢◌, ◌≡◌, ℕ, ◌≤◌, ◌<◌, ℤ, pos, neg_ℤ, nat_abs, ◌+ℤ◌, get_or, replicate}
use Rattle.arith.specs.Sum.{bump}
use Rattle.knapsack.specs.Meaning.{Instance, Point, instance_of, prices, point_of}
use Rattle.knapsack.specs.declared.Answer.{Answer}
use Rattle.knapsack.specs.declared.Kind.TheVariants as kind
use Rattle.foremost.proofs.Foremost.{priced}
use Rattle.model.specs.Needs.{OptimalNeeds}
use Rattle.model.specs.Promises.{Planned}
use Rattle.model.specs.Records.{plain_of, needs_of}
use Rattle.model.specs.declared.Model.{Model}
use Rattle.model.specs.declared.Need.{Need}
use Rattle.model.specs.declared.Sense.TheVariants.{Sure}
use Rattle.ranging.specs.declared.Falls.{Falls}

abbrev pub deepest : ℤ → ℕ
deepest c = nat_abs (c +ℤ pos 10000)

abbrev pub lowered : Instance → ℕ → ℕ → Instance
lowered s k d = priced s (bump (prices s) k (neg_ℤ (pos d)))

abbrev pub StaysBest : Instance → List Need → Point → ℕ → ℕ → Type 0
StaysBest s ns x k d = OptimalNeeds (lowered s k d) ns x

pub record LeastFall (s : Instance) (ns : List Need) (x : Point) (k d : ℕ) : Type 0 where
  pub some : 1 ≤ d
  pub most : d ≤ deepest (prices s k)
  pub kept : (e : ℕ) → e < d → StaysBest s ns x k e
  pub lost : ¬ StaysBest s ns x k d

pub record FallIs (s : Instance) (ns : List Need) (x : Point) (k r : ℕ) : Type 0 where
  pub none : r ≡ 0 → StaysBest s ns x k (deepest (prices s k))
  pub least : r ≢ 0 → LeastFall s ns x k r

abbrev pub fall_at : Falls → ℕ → ℕ
fall_at w k = get_or w.of k 0

abbrev pub no_falls : Answer → Falls
no_falls a = record { answer = a; of = replicate 16 0 }

pub record FallsOf (m : Model) (w : Falls) : Type 0 where
  pub planned : Planned Sure m w.answer
  pub falls : w.answer.kind ≡ kind.Optimal → (k : ℕ) → k < m.count →
      FallIs (instance_of (plain_of Sure m)) (needs_of m.needs) (point_of w.answer) k (fall_at w k)
  pub others : w.answer.kind ≢ kind.Optimal → w ≡ no_falls w.answer
  pub small : (k : ℕ) → fall_at w k ≤ 20000
