-- Laws of tables and of lists of places.
-- tabled-below, tabled-within, tabled-places: what a table holds, how large it is, and one by all places in turn.
-- places-listing, sorted-listing, sorted-permuted: the lists by which tables are made. one_more: a list that is being made.
use mathlib.Core.Path.{◌≡◌, refl, ap, ◌∙◌}
use mathlib.Core.Bool.{Bool, true, false, cond}
use mathlib.Core.List.{List}
use Prim.Native.Nat.{ℕ, ◌+◌, ◌≤◌, ◌<◌}
use native.Mathlib.Decide.{ℕ_discrete}
use native.Mathlib.Omega.{arith}
use borrow.Author.Tests.{lt-ltb, ltb-true}
use lib.Dec.{ltb}
use lib.IntN.{ℤ, pos}
use lib.ListN.{length, set}
use lib.Seq.{get_or-set_same, get_or-set_other}
use Rattle.arith.specs.Within.{Within}
use Rattle.greedy.specs.Fill.{at, place}
use Rattle.knapsack.specs.Ranges.{item_at, InRange}
use Rattle.knapsack.specs.declared.Item.{Item}
use Rattle.knapsack.specs.declared.Problem.{Problem}
use Rattle.ordering.proofs.Insertion.{sorted-low, sorted-order}
use Rattle.ordering.specs.Ranking.{Sorted}
use Rattle.prepare.proofs.Ranges.{zero-within}
use Rattle.prepare.specs.Figures.{figure_of}
use Rattle.prepare.specs.Tables.{Tabled, Listing, listed, Permuted}
use Rattle.prepare.specs.declared.tables.Figure.{Figure}

module _ (n : ℕ) (f : ℕ → ℤ) (l : List ℤ) (t : Tabled n f l) where
  pub tabled-below : (u : ℕ) → u < n → at l u ≡ f u
  tabled-below u h = t u ∙ ap (λ b. cond b (f u) (pos 0)) (lt-ltb u n h)

  pub tabled-within : (m : ℕ) → ((u : ℕ) → u < n → Within m (f u)) → (u : ℕ) → Within m (at l u)
  tabled-within m w u = rw (t u) (go (ltb u n) refl)
    where
      go : (b : Bool) → ltb u n ≡ b → Within m (cond b (f u) (pos 0))
      go true e = w u (ltb-true u n e)
      go false e = zero-within

  -- only the first n entries matter
  pub tabled-cong : (g : ℕ → ℤ) → ((u : ℕ) → u < n → f u ≡ g u) → Tabled n g l
  tabled-cong g e u = t u ∙ go (ltb u n) refl
    where
      go : (b : Bool) → ltb u n ≡ b → cond b (f u) (pos 0) ≡ cond b (g u) (pos 0)
      go true h = e u (ltb-true u n h)
      go false h = refl

module _ (p : Problem) (r : InRange p) where
  -- all places in turn
  module _ (l : List ℕ) (a : (k : ℕ) → k < 16 → place l k ≡ k) where
    pub places-listing : Listing p l p.count
    places-listing = record { accepted = r; few = r.few-items; below = λ u h. omega (arith, a u (omega (arith, r.few-items))) }

    pub tabled-places : (f : Figure) (t : List ℤ) → Tabled p.count (λ u. figure_of f (listed p l u)) t → Tabled p.count (λ k. figure_of f (item_at p k)) t
    tabled-places f t h = tabled-cong p.count (λ u. figure_of f (listed p l u)) t h (λ k. figure_of f (item_at p k))
        (λ u m. ap (λ k. figure_of f (item_at p k)) (a u (omega (arith, r.few-items))))

  -- an order of the items
  module _ (f : ℕ → Item) (l : List ℕ) (s : Sorted f p.count l) where
    pub sorted-listing : Listing p l p.count
    sorted-listing = record { accepted = r; few = r.few-items; below = sorted-low f p.count l s }

    pub sorted-permuted : Permuted p.count l
    sorted-permuted = record { few = r.few-items; below = sorted-low f p.count l s; once = (sorted-order f p.count l s).once }

pub shorter-listing : (p : Problem) (l : List ℕ) (m n : ℕ) → m ≤ n → Listing p l n → Listing p l m
shorter-listing p l m n h s = record { accepted = s.accepted; few = omega (arith, s.few); below = λ u g. s.below u (omega arith) }

-- ---- one place more of a list that is being made

pub one_more : (to : List ℤ) (k : ℕ) (x : ℤ) (f : ℕ → ℤ) → k < length to → x ≡ f k → ((j : ℕ) → j < k → at to j ≡ f j) → (j : ℕ) → j < k + 1
    → at (set to k x) j ≡ f j
one_more to k x f l e h j m = go (ℕ_discrete j k)
  where
    go : Dec (j ≡ k) → at (set to k x) j ≡ f j
    go (yes q) = rw (q, get_or-set_same to k x (pos 0) l) e
    go (no q) = get_or-set_other to k j x (pos 0) q ∙ h j (omega arith)
