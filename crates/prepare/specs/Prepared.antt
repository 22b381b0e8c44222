-- What a search is given of an accepted problem.
--   Columned p c     the columns c of the problem p: its figures by item and by rank, 0 beyond the count, and the order of filling
--   Boxed p e        its ends: an absent bound is the farthest amount away (knapsack, proofs/Reach)
--   by_price          the order for branching where no item is critical
--   critical_key c f  how the items are ordered for branching where the filling f stops: by their reduced prices at the critical
--                    item's price per weight; by price alone where there is none
--   column n f       what a table of n entries holds
--   lattice_by p l n first d  the lattice of the items from level d on, or nothing where only the first items are fixed
--   Latticing p l n r  r holds the lattices of the levels l: of what the items from a level on change; nothing is known where a
--                    continuous item is free
--   Arranged p s     columns, levels and lattices of s are those of p, with the levels in the order of branching
--   PreparedAt r p s the setting s is that of p, and in order; item k's absent bounds are r k away
--   Prepared p s     the same at the farthest amount
use Rattle.std.specs.Prelude.{◌≡◌, cond, List, ℕ, ◌<◌, ltb, ℤ, pos, neg_ℤ}
use Rattle.std.specs.Int.Signed.{lt_z}
use Rattle.arith.specs.Limits.{farthest}
use Rattle.greedy.specs.Fill.{at, weight_of, price_of, fill}
use Rattle.greedy.specs.declared.Columns.{Columns}
use Rattle.greedy.specs.declared.Ends.{Ends}
use Rattle.greedy.specs.declared.Fill.{Fill}
use Rattle.knapsack.specs.Ranges.{item_at}
use Rattle.knapsack.specs.declared.Problem.{Problem}
use Rattle.lattice.specs.Building.{lattice_of}
use Rattle.lattice.specs.Lattice.{unknown, lattice_at}
use Rattle.lattice.specs.declared.Lattice.{Lattice}
use Rattle.ordering.specs.Ranking.{Sorted}
use Rattle.setting.specs.Ready.{ReadySetting, Marked}
use Rattle.setting.specs.declared.Setting.{Setting}
use Rattle.prepare.specs.Figures.{end_or, figure_of, fixed, passes, key_of}
use Rattle.prepare.specs.Tables.{Tabled, listed, Leading, Inverted}
use Rattle.prepare.specs.declared.tables.Figure.TheVariants.{Weight, Price, Low, High, Size, Rate}
use Rattle.prepare.specs.declared.tables.Key.TheVariants.{Filling, Branching}
use Rattle.prepare.specs.declared.tables.Key.{Key}
use Rattle.prepare.specs.declared.tables.Test.TheVariants.{Live, Level}

pub record Columned (p : Problem) (c : Columns) : Type 0 where
  pub count : c.count ≡ p.count
  pub capacity : c.capacity ≡ p.capacity
  pub weights : Tabled p.count (λ k. figure_of Weight (item_at p k)) c.weight
  pub prices : Tabled p.count (λ k. figure_of Price (item_at p k)) c.price
  pub order : Sorted (λ k. key_of Filling (item_at p k)) p.count c.order
  pub rank : Inverted p.count c.order c.rank
  pub sizes : Tabled p.count (λ u. figure_of Size (listed p c.order u)) c.size
  pub rates : Tabled p.count (λ u. figure_of Rate (listed p c.order u)) c.rate
  pub live : Leading p.count (λ u. passes Live (listed p c.order u)) c.live

pub record Boxed (p : Problem) (e : Ends) : Type 0 where
  pub lows : Tabled p.count (λ k. figure_of Low (item_at p k)) e.lo
  pub highs : Tabled p.count (λ k. figure_of High (item_at p k)) e.hi

abbrev pub by_price : Key
by_price = Branching (pos 0) (pos 1)

abbrev pub critical_key : Columns → Fill → Key
critical_key c f = cond (lt_z f.room (pos 0)) by_price (cond (ltb f.at c.live) (Branching (at c.rate f.at) (at c.size f.at)) by_price)

-- what a table of n entries holds
abbrev pub column : ℕ → (ℕ → ℤ) → ℕ → ℤ
column n f u = cond (ltb u n) (f u) (pos 0)

-- where only the first items are fixed nothing is known
abbrev pub lattice_by : Problem → List ℕ → ℕ → ℕ → ℕ → Lattice
lattice_by p l n first d = cond (ltb first p.count) unknown (lattice_of (column n (λ u. (listed p l u).weight)) (column n (λ u. (listed p l u).price)) n d)

pub record Latticing (p : Problem) (l : List ℕ) (n : ℕ) (r : List Lattice) : Type 0 where
  pub first : ℕ
  pub leads : Leading p.count (λ u. fixed (item_at p u)) first
  pub are : (d : ℕ) → d < 16 → lattice_at r d ≡ lattice_by p l n first d

pub record Arranged (p : Problem) (s : Setting) : Type 0 where
  pub columned : Columned p s.cols
  pub box : Ends
  pub boxed : Boxed p box
  pub sorted : Sorted (λ k. key_of (critical_key s.cols (fill s.cols box)) (item_at p k)) p.count s.level
  pub leads : Leading p.count (λ u. passes Level (listed p s.level u)) s.levels
  pub latticing : Latticing p s.level s.levels s.lattice

pub record PreparedAt (r : ℕ → ℕ) (p : Problem) (s : Setting) : Type 0 where
  pub count : s.cols.count ≡ p.count
  pub capacity : s.cols.capacity ≡ p.capacity
  pub weights : (k : ℕ) → k < p.count → weight_of s.cols k ≡ (item_at p k).weight
  pub prices : (k : ℕ) → k < p.count → price_of s.cols k ≡ (item_at p k).price
  pub lows : (k : ℕ) → k < p.count → at s.ends.lo k ≡ end_or (item_at p k).lower (neg_ℤ (pos (r k)))
  pub highs : (k : ℕ) → k < p.count → at s.ends.hi k ≡ end_or (item_at p k).upper (pos (r k))
  pub ready : ReadySetting s
  pub marked : Marked s (λ k. (item_at p k).mark)
  pub arranged : Arranged p s

-- at the reach that is enough for every problem
abbrev pub Prepared : Problem → Setting → Type 0
Prepared p s = PreparedAt (λ k. farthest) p s
