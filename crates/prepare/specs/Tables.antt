-- What the loops make: arrays by item, by rank and by level.
--   Tabled n f l      l holds f u at the first n places u, and 0 beyond
--   Listing p l n     the first n entries of l are places of items of the accepted problem p
--   listed p l u      the item at the place that l has at u
--   Leading n t r     the test t holds at the first r of n places, and not at the next
--   Permuted n l      the first n entries of l are the first n places in some order
--   Inverted n l r    r leads from a place to where l has it
--   Keyed b p r       the items of r are the keys of the items of p
use Rattle.std.specs.Prelude.{◌≡◌, Bool, true, false, cond, List, ℕ, ◌≤◌, ◌<◌, ltb, ℤ, pos}
use Rattle.greedy.specs.Fill.{at, place}
use Rattle.knapsack.specs.Ranges.{item_at, InRange}
use Rattle.knapsack.specs.declared.Item.{Item}
use Rattle.knapsack.specs.declared.Problem.{Problem}
use Rattle.ordering.proofs.Permutations.{Once}
use Rattle.prepare.specs.Figures.{key_of}
use Rattle.prepare.specs.declared.tables.Key.{Key}

abbrev pub Tabled : ℕ → (ℕ → ℤ) → List ℤ → Type 0
Tabled n f l = (u : ℕ) → at l u ≡ cond (ltb u n) (f u) (pos 0)

pub record Listing (p : Problem) (l : List ℕ) (n : ℕ) : Type 0 where
  pub accepted : InRange p
  pub few : n ≤ 16
  pub below : (u : ℕ) → u < n → place l u < p.count

abbrev pub listed : Problem → List ℕ → ℕ → Item
listed p l u = item_at p (place l u)

pub record Leading (n : ℕ) (test : ℕ → Bool) (r : ℕ) : Type 0 where
  pub most : r ≤ n
  pub pass : (u : ℕ) → u < r → test u ≡ true
  pub stop : r < n → test r ≡ false

pub record Permuted (n : ℕ) (l : List ℕ) : Type 0 where
  pub few : n ≤ 16
  pub below : (u : ℕ) → u < n → place l u < n
  pub once : Once n (place l)

abbrev pub Inverted : ℕ → List ℕ → List ℕ → Type 0
Inverted n l r = (u : ℕ) → u < n → place r (place l u) ≡ u

pub record Keyed (by : Key) (p r : Problem) : Type 0 where
  pub count : r.count ≡ p.count
  pub keys : (k : ℕ) → k < p.count → item_at r k ≡ key_of by (item_at p k)
