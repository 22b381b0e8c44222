-- The lattices of the levels are true of them, and used only where every continuous item has one amount: lattices-true.
-- fixed-ends: an item that is fixed and not integer has equal ends. tabled-column, leading-places: how they are made.
use mathlib.Core.Path.{◌≡◌, refl, sym, ap, ◌∙◌, subst, subst₂}
use mathlib.Core.Bool.{Bool, true, false, not, cond}
use mathlib.Core.List.{List}
use mathlib.Core.Logic.{◌≢◌}
use Prim.Native.Nat.{ℕ, ◌≤◌, ◌<◌}
use native.Mathlib.Omega.{arith}
use borrow.Author.Tests.{lt-ltb, ltb-true, ltb-false}
use lib.Dec.{ltb}
use lib.IntN.{ℤ, pos}
use lib.Signed.{lt_z}
use Rattle.arith.specs.Within.{Within}
use Rattle.arith.proofs.Integers.{≤ℤ-antisym}
use Rattle.arith.proofs.Parts.{impossible}
use Rattle.arith.proofs.Words.{no_lt}
use Rattle.greedy.specs.Fill.{place}
use Rattle.knapsack.specs.Ranges.{item_at, BoundsInOrder}
use Rattle.std.specs.Prelude.{Option, None, Some}
use Rattle.knapsack.specs.declared.Item.{Item}
use Rattle.knapsack.specs.declared.Problem.{Problem}
use Rattle.lattice.proofs.Levels.{unknown-tame, lattice-known}
use Rattle.lattice.specs.Building.{entry, Items, Known, lattice_of}
use Rattle.lattice.specs.Lattice.{On, Tame, unknown, lattice_at}
use Rattle.lattice.specs.declared.Lattice.{Lattice}
use Rattle.prepare.proofs.Ranges.{zero-within, weight-within, price-within}
use Rattle.prepare.specs.Figures.{low_end, high_end, end_or, is_integer, meet, fixed, passes}
use Rattle.prepare.specs.Tables.{Tabled, Listing, listed, Leading}
use Rattle.prepare.specs.declared.tables.Test.TheVariants.{Fixed}
use Rattle.prepare.specs.Prepared.{column, lattice_by, Latticing}

-- ---- items with one amount

not-not : (b : Bool) → not b ≡ true → b ≡ false
not-not true h = absurd (impossible h)
not-not false h = refl

meet-ends : (l u : Option ℤ) (a b : ℤ) → meet l u ≡ true → BoundsInOrder l u → end_or l a ≡ end_or u b
meet-ends None u a b h o = absurd (impossible h)
meet-ends (Some l) None a b h o = absurd (impossible h)
meet-ends (Some l) (Some u) a b h o = ≤ℤ-antisym o (no_lt (not-not (lt_z l u) h))

pub fixed-ends : (i : Item) → BoundsInOrder i.lower i.upper → fixed i ≡ true → is_integer i.mark ≡ false → low_end i ≡ high_end i
fixed-ends i o h e = meet-ends i.lower i.upper _ _ (rw e at h) o

-- ---- the lattices are true of the levels

pub record LatticesTrue (p : Problem) (l : List ℕ) (n : ℕ) (r : List Lattice) : Type 0 where
  pub tame : (d : ℕ) → d < 16 → Tame (lattice_at r d)
  pub fixed-all : (d : ℕ) → d < 16 → (lattice_at r d).stride ≢ pos 0 → (k : ℕ) → k < p.count → fixed (item_at p k) ≡ true
  pub on : (d : ℕ) → d < n → (lattice_at r d).stride ≢ pos 0 → (j : ℕ) → d ≤ j → j < n → On (lattice_at r d) (listed p l j).weight (listed p l j).price

module _ (p : Problem) (l : List ℕ) (n : ℕ) (h : Listing p l n) where
  abbrev w : ℕ → ℤ
  w = column n (λ u. (listed p l u).weight)

  abbrev c : ℕ → ℤ
  c = column n (λ u. (listed p l u).price)

  column-within : (m : ℕ) (f : ℕ → ℤ) → ((u : ℕ) → u < n → Within m (f u)) → (u : ℕ) → Within m (column n f u)
  column-within m f g u = go (ltb u n) refl
    where
      go : (b : Bool) → ltb u n ≡ b → Within m (cond b (f u) (pos 0))
      go true e = g u (ltb-true u n e)
      go false e = zero-within

  pub items-in : Items w c n
  items-in = record {
    few = h.few;
    weights-in = column-within 1000 (λ u. (listed p l u).weight) (λ u m. weight-within (listed p l u) (h.accepted.items-in (place l u) (h.below u m)));
    prices-in = column-within 10000 (λ u. (listed p l u).price) (λ u m. price-within (listed p l u) (h.accepted.items-in (place l u) (h.below u m)));
  }

  -- what is true of a lattice, by whether a continuous item is free
  pub record TrueOf (d : ℕ) (x : Lattice) : Type 0 where
    pub tame : Tame x
    pub fixed-all : x.stride ≢ pos 0 → (k : ℕ) → k < p.count → fixed (item_at p k) ≡ true
    pub on : x.stride ≢ pos 0 → (j : ℕ) → d ≤ j → j < n → On x (listed p l j).weight (listed p l j).price

  true_of : (first : ℕ) → Leading p.count (λ u. fixed (item_at p u)) first → (d : ℕ) → TrueOf d (lattice_by p l n first d)
  true_of first g d = go (ltb first p.count) refl
    where
      known : Known w c n d (lattice_of w c n d)
      known = lattice-known w c n items-in d

      below : (f : ℕ → ℤ) (j : ℕ) → j < n → column n f j ≡ f j
      below f j m = ap (λ b. cond b (f j) (pos 0)) (lt-ltb j n m)

      go : (b : Bool) → ltb first p.count ≡ b → TrueOf d (cond b unknown (lattice_of w c n d))
      go true e = record { tame = unknown-tame; fixed-all = λ nz. absurd (nz refl); on = λ nz. absurd (nz refl) }
      go false e = record {
        tame = known.tame;
        fixed-all = λ nz k m. g.pass k (omega (arith, ltb-false first p.count e));
        on = λ nz j a b. subst₂ (On (lattice_of w c n d)) (below (λ u. (listed p l u).weight) j b) (below (λ u. (listed p l u).price) j b) (known.on nz j a b);
      }

  pub lattices-true : (r : List Lattice) → Latticing p l n r → LatticesTrue p l n r
  lattices-true r g = record {
    tame = λ d m. (at_level d m).tame;
    fixed-all = λ d m. (at_level d m).fixed-all;
    on = λ d m. (at_level d (omega (arith, h.few))).on;
  }
    where
      at_level : (d : ℕ) → d < 16 → TrueOf d (lattice_at r d)
      at_level d m = subst (TrueOf d) (sym (g.are d m)) (true_of g.first g.leads d)

-- ---- the lattices are made

-- tables are columns
pub tabled-column : (n : ℕ) (f : ℕ → ℤ) (t : List ℤ) → Tabled n f t → entry t ≡ column n f
tabled-column n f t h = λ i u. h u i

pub leading-places : (p : Problem) (few : p.count ≤ 16) (items : List ℕ) (a : (k : ℕ) → k < 16 → place items k ≡ k) (lead : ℕ)
    → Leading p.count (λ u. passes Fixed (listed p items u)) lead → Leading p.count (λ u. fixed (item_at p u)) lead
leading-places p few items a lead h = record {
  most = h.most;
  pass = λ u m. sym (ap (λ k. fixed (item_at p k)) (a u (omega (arith, h.most)))) ∙ h.pass u m;
  stop = λ m. sym (ap (λ k. fixed (item_at p k)) (a lead (omega arith))) ∙ h.stop m;
}
