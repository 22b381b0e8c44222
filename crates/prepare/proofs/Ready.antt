-- prepared: a setting that is made of a problem's columns, box, levels and lattices is that of the problem, and ready for a search.
use mathlib.Core.Path.{◌≡◌, refl, sym, ◌∙◌, subst}
use mathlib.Core.Bool.{Bool, true, false}
use mathlib.Core.Logic.{◌≢◌}
use Prim.Native.Nat.{ℕ, ◌≤◌, ◌<◌}
use native.Mathlib.Omega.{arith}
use lib.IntN.{ℤ, pos, neg_ℤ, nat_abs}
use lib.Signed.{◌≤ℤ◌}
use Rattle.arith.specs.Limits.{farthest}
use Rattle.arith.proofs.Integers.{split, zed}
use Rattle.arith.proofs.Parts.{zs}
use Rattle.greedy.specs.Fill.{at, fill}
use Rattle.greedy.specs.Sized.{SizedEnds}
use Rattle.greedy.specs.declared.Ends.{Ends}
use Rattle.knapsack.specs.Ranges.{item_at, BoundInRange, BoundsInOrder, InRange}
use Rattle.std.specs.Prelude.{Option, None, Some}
use Rattle.knapsack.specs.declared.Problem.{Problem}
use Rattle.ordering.specs.Ranking.{Sorted}
use Rattle.lattice.specs.Lattice.{lattice_at}
use Rattle.setting.specs.Ready.{Changes, Marked}
use Rattle.setting.specs.Box.{level_at}
use Rattle.setting.specs.declared.Setting.{Setting}
use Rattle.prepare.proofs.Ranges.{low-within, high-within}
use Rattle.prepare.specs.Figures.{end_or, low_end, high_end, figure_of, is_integer, passes, key_of}
use Rattle.prepare.specs.Tables.{Tabled, listed, Leading}
use Rattle.prepare.specs.declared.tables.Figure.TheVariants.{Low, High}
use Rattle.prepare.specs.declared.tables.Key.{Key}
use Rattle.prepare.specs.declared.tables.Test.TheVariants.{Level}
use Rattle.prepare.specs.Prepared.{Columned, Boxed, critical_key, Latticing, Prepared}
use Rattle.prepare.proofs.Lattices.{fixed-ends, LatticesTrue, lattices-true}
use Rattle.prepare.proofs.Levels.{Tells, critical-tells, level_in, level-once, level-integer, level-of, is-integer}
use Rattle.prepare.proofs.Lists.{tabled-below, tabled-within}
use Rattle.prepare.proofs.Order.{weight_is, price-is, columns-ordered, columns-sized}

-- ---- the box

above-reach : (v : ℤ) → nat_abs v ≤ 10000 → neg_ℤ (pos farthest) ≤ℤ v
above-reach = split _ (λ a b. simp zed (omega arith))

below-reach : (v : ℤ) → nat_abs v ≤ 10000 → v ≤ℤ pos farthest
below-reach = split _ (λ a b. simp zed (omega arith))

ends-in-order : (l u : Option ℤ) → BoundInRange l → BoundInRange u → BoundsInOrder l u → end_or l (neg_ℤ (pos farthest)) ≤ℤ end_or u (pos farthest)
ends-in-order None None h g o = omega (arith, zs)
ends-in-order None (Some u) h g o = above-reach u g
ends-in-order (Some l) None h g o = below-reach l h
ends-in-order (Some l) (Some u) h g o = o

module _ (p : Problem) (r : InRange p) (e : Ends) (b : Boxed p e) where
  pub low-is : (k : ℕ) → k < p.count → at e.lo k ≡ low_end (item_at p k)
  low-is = tabled-below p.count (λ k. figure_of Low (item_at p k)) e.lo b.lows

  pub high_is : (k : ℕ) → k < p.count → at e.hi k ≡ high_end (item_at p k)
  high_is = tabled-below p.count (λ k. figure_of High (item_at p k)) e.hi b.highs

  pub box-sized : SizedEnds e
  box-sized = record {
    lo-in = tabled-within p.count (λ k. figure_of Low (item_at p k)) e.lo b.lows farthest (λ k h. low-within (item_at p k) (r.items-in k h));
    hi-in = tabled-within p.count (λ k. figure_of High (item_at p k)) e.hi b.highs farthest (λ k h. high-within (item_at p k) (r.items-in k h));
  }

  box-in-order : (k : ℕ) → k < p.count → at e.lo k ≤ℤ at e.hi k
  box-in-order k h = let i =
      r.items-in k h in rw (low-is k h, high_is k h) (ends-in-order (item_at p k).lower (item_at p k).upper i.lower_in i.upper_in i.in_order)

-- ---- the setting

-- what its parts hold
pub record Made (p : Problem) (by : Key) (s : Setting) : Type 0 where
  pub columned : Columned p s.cols
  pub boxed : Boxed p s.ends
  pub by-is : by ≡ critical_key s.cols (fill s.cols s.ends)
  pub sorted : Sorted (λ k. key_of by (item_at p k)) p.count s.level
  pub leading : Leading p.count (λ u. passes Level (listed p s.level u)) s.levels
  pub lows : Tabled s.levels (λ u. figure_of Low (listed p s.level u)) s.low
  pub highs : Tabled s.levels (λ u. figure_of High (listed p s.level u)) s.high
  pub latticing : Latticing p s.level s.levels s.lattice

module _ (p : Problem) (r : InRange p) (by : Key) (s : Setting) (m : Made p by s) where
  tells : Tells by
  tells = subst Tells (sym m.by-is) (critical-tells s.cols (fill s.cols s.ends))

  few : s.levels ≤ 16
  few = omega (arith, m.leading.most, r.few-items)

  inside : (d : ℕ) → d < s.levels → level_at s d < p.count
  inside = level_in p by tells s.level s.levels m.sorted m.leading

  marked : Marked s (λ k. (item_at p k).mark)
  marked = record {
    integer = level-integer p by tells s.level s.levels m.sorted m.leading;
    level = λ k h e. level-of p by tells s.level s.levels m.sorted m.leading k (omega (arith, m.columned.count)) e;
  }

  low-at : (d : ℕ) → d < s.levels → at s.low d ≡ at s.ends.lo (level_at s d)
  low-at d h = tabled-below s.levels (λ u. figure_of Low (listed p s.level u)) s.low m.lows d h
      ∙ sym (low-is p r s.ends m.boxed (level_at s d) (inside d h))

  high-at : (d : ℕ) → d < s.levels → at s.high d ≡ at s.ends.hi (level_at s d)
  high-at d h = tabled-below s.levels (λ u. figure_of High (listed p s.level u)) s.high m.highs d h
      ∙ sym (high_is p r s.ends m.boxed (level_at s d) (inside d h))

  -- an item of no level is not integer
  no-level : (k : ℕ) → k < p.count → ((j : ℕ) → j < s.levels → level_at s j ≢ k) → is_integer (item_at p k).mark ≡ false
  no-level k h n = go (is_integer (item_at p k).mark) refl
    where
      found : (d : ℕ) × (d < s.levels) × (level_at s d ≡ k) → ⊥
      found (d, l, e) = n d l e

      go : (b : Bool) → is_integer (item_at p k).mark ≡ b → is_integer (item_at p k).mark ≡ false
      go true e = absurd (found (marked.level k (omega (arith, m.columned.count)) (is-integer (item_at p k).mark e)))
      go false e = e

  latticed : LatticesTrue p s.level s.levels s.lattice
  latticed = lattices-true p s.level s.levels (record { accepted = r; few = few; below = inside }) s.lattice m.latticing

  changes : (d : ℕ) → d < s.levels → (lattice_at s.lattice d).stride ≢ pos 0 → Changes s d
  changes d l nz = record {
    fixed = λ k h n. let j : k < p.count = omega (arith, m.columned.count) in
        low-is p r s.ends m.boxed k j ∙ fixed-ends (item_at p k) (r.items-in k j).in_order (latticed.fixed-all d (omega (arith, few)) nz k j)
        (no-level k j n) ∙ sym (high_is p r s.ends m.boxed k j);
    on = λ j a b. rw (weight_is p s.cols r m.columned (level_at s j) (inside j b), price-is p s.cols r m.columned (level_at s j) (inside j b))
        (latticed.on d l nz j a b);
  }

  pub prepared : Prepared p s
  prepared = record {
    count = m.columned.count;
    capacity = m.columned.capacity;
    weights = weight_is p s.cols r m.columned;
    prices = price-is p s.cols r m.columned;
    lows = low-is p r s.ends m.boxed;
    highs = high_is p r s.ends m.boxed;
    ready = record {
      sized = record { columns = columns-sized p s.cols r m.columned; ends = box-sized p r s.ends m.boxed };
      ordered = columns-ordered p s.cols r m.columned;
      in_order = λ k h. box-in-order p r s.ends m.boxed k (omega (arith, m.columned.count));
      few = few;
      level_in = λ d h. omega (arith, m.columned.count, inside d h);
      distinct = level-once p by tells s.level s.levels m.sorted m.leading;
      low-is = low-at;
      high_is = high-at;
      tame = latticed.tame;
      changes = changes;
    };
    marked = marked;
    arranged = record {
      columned = m.columned;
      box = s.ends;
      boxed = m.boxed;
      sorted = subst (λ b. Sorted (λ k. key_of b (item_at p k)) p.count s.level) m.by-is m.sorted;
      leads = m.leading;
      latticing = m.latticing;
    };
  }
