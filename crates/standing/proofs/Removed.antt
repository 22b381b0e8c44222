-- The record without an item.
-- other, gone: the places of other items, and that of item k. rank-before, rank-after: where the places before and behind it go.
-- lowered-before, lowered-after, lowered-rank: the new numbers.
-- removed-none, removed-next, spared-next: an item more, a line more.
-- removed-count, removed-before, removed-after: what stands in it. spares-others, others-spare: a need stays exactly if it does not name the item.
-- removed-line, line-removed: a line of it is an old one that stays, by the new numbers, and each such one stands there.
-- removed-accepted (end theorem): it is accepted as a record.
use mathlib.Core.Bool.{Bool, true, false, cond, not}
use mathlib.Core.Path.{◌≡◌, refl, ap, ap₂, ◌∙◌, subst}
use Prim.Native.Nat.{ℕ, zero, suc, ◌-◌, ◌≤◌, ◌<◌}
use native.Mathlib.Omega.{arith}
use native.Mathlib.Decide.{ℕ_discrete, dec_lt}
use borrow.Author.Tests.{eqb-false, eq-eqb, ne_eqb, lt-ltb, le-ltb}
use lib.Dec.{eqb}
use lib.ListN.{set}
use Rattle.std.specs.Prelude.{Ok}
use Rattle.model.specs.declared.Blanks.TheVariants as blanks
use Rattle.model.specs.declared.Model.{Model}
use Rattle.model.specs.declared.Need.{Need}
use Rattle.model.specs.declared.Sense.TheVariants.{Sure}
use Rattle.model.specs.declared.Needs.{Needs}
use Rattle.model.specs.Needs.{no_need}
use Rattle.model.specs.Records.{no_item, empty_model, item_at, need_at, placed, names_item, verdict, Numbers, Admissible}
use Rattle.model.specs.Setters.{with_capacity, appended, with_needs, appended_need}
use Rattle.model.proofs.Records.{accepted, admitted}
use Rattle.model.proofs.Tests.{neither}
use Rattle.dropping.proofs.Dropped.{not-true}
use Rattle.dropping.proofs.Kept.{place, rank-kept, rank_left, rank-all, rank_most, packed-at, place_in, place_kept, place-goes, place-rises}
use Rattle.dropping.proofs.Needed.{Stays}
use Rattle.dropping.proofs.Thinned.{Thins, thinned-admissible}
use Rattle.dropping.specs.Dropping.{renumber, renumbered}
use Rattle.dropping.specs.Kept.{rank, packed}
use Rattle.standing.specs.Changes.{others, lowered, lowered_need, spared, spared_to, removed_to, removed}

-- ---- places and numbers

module _ (k : ℕ) where
  pub other : (j : ℕ) → (suc j ≡ k → ⊥) → others k j ≡ true
  other j h = ap not (ne_eqb (suc j) k h)

  pub gone : (j : ℕ) → suc j ≡ k → others k j ≡ false
  gone j h = ap not (eq-eqb (suc j) k h)

  pub rank-before : (j : ℕ) → j < k → rank (others k) j ≡ j
  rank-before j h = rank-all (others k) j (λ i l. other i (λ e. omega arith))

  pub rank-after : (j : ℕ) → 1 ≤ k → k ≤ j → suc (rank (others k) j) ≡ j
  rank-after zero s h = absurd (omega arith)
  rank-after (suc j) s h = go (ℕ_discrete (suc j) k) (λ l. rank-after j s l)
    where
      go : Dec (suc j ≡ k) → (k ≤ j → suc (rank (others k) j) ≡ j) → suc (rank (others k) (suc j)) ≡ suc j
      go (yes e) ih = omega (arith, rank_left (others k) j (gone j e), rank-before j (omega arith))
      go (no d) ih = omega (arith, rank-kept (others k) j (other j d), ih (omega arith))

  pub lowered-before : (j : ℕ) → j ≤ k → lowered k j ≡ j
  lowered-before j h = rw (le-ltb k j h)

  pub lowered-after : (j : ℕ) → k < j → lowered k j ≡ j - 1
  lowered-after j h = rw (lt-ltb k j h)

  lowered-rank : (j : ℕ) → 1 ≤ k → 1 ≤ j → (j ≡ k → ⊥) → lowered k j ≡ renumber (others k) j
  lowered-rank j s l d = go (dec_lt k j)
    where
      go : Dec (k < j) → lowered k j ≡ suc (rank (others k) (j - 1))
      go (yes h) = omega (arith, lowered-after j h, rank-after (j - 1) s (omega arith))
      go (no h) = omega (arith, lowered-before j (omega arith), rank-before (j - 1) (omega arith))

-- ---- an item more, a line more

pub removed-none : (m : Model) (k : ℕ) → removed_to m k 0 0 ≡ with_capacity empty_model m.capacity
unfolding rank packed
removed-none m k = refl

pub removed-next : (m : Model) (k n : ℕ) → cond (eqb (suc n) k) (removed_to m k n 0) (appended (removed_to m k n 0) (item_at m n)) ≡ removed_to m k (suc n) 0
unfolding rank packed
removed-next m k n = go (eqb (suc n) k)
  where
    go : (b : Bool) → cond b (removed_to m k n 0) (appended (removed_to m k n 0) (item_at m n)) ≡ record {
      items = cond (not b) (set (packed no_item (others k) (item_at m) n) (rank (others k) n) (item_at m n)) (packed no_item (others k) (item_at m) n);
      count = cond (not b) (suc (rank (others k) n)) (rank (others k) n);
      capacity = m.capacity;
      needs = (removed_to m k n 0).needs;
    }
    go true = refl
    go false = refl

pub spared-next : (q : Model) (k : ℕ) (ns : Needs) (t : ℕ)
    → cond (names_item (need_at ns t) k) (with_needs q (spared_to k ns t)) (appended_need (with_needs q (spared_to k ns t)) (lowered_need k (need_at ns t)))
    ≡ with_needs q (spared_to k ns (suc t))
unfolding rank packed
spared-next q k ns t = go (names_item (need_at ns t) k)
  where
    old : Model
    old = with_needs q (spared_to k ns t)

    new : Need
    new = lowered_need k (need_at ns t)

    go : (b : Bool) → cond b old (appended_need old new) ≡ with_needs q (record {
      lines = cond (not b) (set (spared_to k ns t).lines (rank (spared k ns) t) new) (spared_to k ns t).lines;
      count = cond (not b) (suc (rank (spared k ns) t)) (rank (spared k ns) t);
    })
    go true = refl
    go false = refl

-- ---- what stands in it

-- a need stays exactly if neither of its items is k
pub spares-others : (m : Model) (k j : ℕ) → spared k m.needs j ≡ true → ((need_at m.needs j).item ≡ k → ⊥) × ((need_at m.needs j).cover ≡ k → ⊥)
spares-others m k j e = let h = neither (eqb n.item k) (eqb n.cover k) (not-true (names_item n k) e) in
    (eqb-false n.item k h.0, eqb-false n.cover k h.1)
  where
    n : Need
    n = need_at m.needs j

pub others-spare : (m : Model) (k j : ℕ) → ((need_at m.needs j).item ≡ k → ⊥) → ((need_at m.needs j).cover ≡ k → ⊥) → spared k m.needs j ≡ true
others-spare m k j i c =
    let h : names_item (need_at m.needs j) k ≡ false = rw (ne_eqb (need_at m.needs j).item k i) (ne_eqb (need_at m.needs j).cover k c) in
    ap not h

module _ (m : Model) (k : ℕ) (few : m.count ≤ 16) (least : 1 ≤ k) (most : k ≤ m.count) where
  pub removed-count : suc (removed m k).count ≡ m.count
  removed-count = rank-after k m.count least most

  moved : (j : ℕ) → j < m.count → others k j ≡ true → item_at (removed m k) (rank (others k) j) ≡ item_at m j
  moved j l e = packed-at (others k) no_item (item_at m) m.count j few l e

  -- an item before it stays, by places
  pub removed-before : (j : ℕ) → suc j < k → item_at (removed m k) j ≡ item_at m j
  removed-before j h =
      subst (λ i. item_at (removed m k) i ≡ item_at m j) (rank-before k j (omega arith)) (moved j (omega arith) (other k j (λ e. omega arith)))

  -- an item behind it moves down by one
  pub removed-after : (j : ℕ) → k ≤ suc j → suc j < m.count → item_at (removed m k) j ≡ item_at m (suc j)
  removed-after j h l =
      let e : rank (others k) (suc j) ≡ j = omega (arith, rank-after k (suc j) least h) in
      subst (λ i. item_at (removed m k) i ≡ item_at m (suc j)) e (moved (suc j) l (other k (suc j) (λ d. omega arith)))

  module _ (short : m.needs.count ≤ 16) where
    -- the old line of line i
    abbrev pub old_line : ℕ → ℕ
    old_line i = place (spared k m.needs) m.needs.count i

    -- a line that stays stands in its turn
    pub line-removed : (j : ℕ) → j < m.needs.count → spared k m.needs j ≡ true
        → need_at (removed m k).needs (rank (spared k m.needs) j) ≡ lowered_need k (need_at m.needs j)
    line-removed j l e = packed-at (spared k m.needs) no_need (λ i. lowered_need k (need_at m.needs i)) m.needs.count j short l e

    -- and there are no others
    pub removed-line : (i : ℕ) → i < (removed m k).needs.count → need_at (removed m k).needs i ≡ lowered_need k (need_at m.needs (old_line i))
    removed-line i h =
        let keep = spared k m.needs in
        let t = m.needs.count in
        subst (λ j. need_at (removed m k).needs j ≡ lowered_need k (need_at m.needs (old_line i))) (place-goes keep t i h)
        (line-removed (old_line i) (place_in keep t i h) (place_kept keep t i h))

-- ---- it is accepted

module _ (m : Model) (k : ℕ) (a : Admissible m) (least : 1 ≤ k) (most : k ≤ m.count) where
  lowered-need : (n : Need) → Numbers m.count n.item n.cover → (n.item ≡ k → ⊥) → (n.cover ≡ k → ⊥) → lowered_need k n ≡ renumbered (others k) n
  lowered-need n h i c =
      ap₂ {C = Need} (λ x y. record { item = x; cover = y })
      (lowered-rank k n.item least h.first-least i)
      (lowered-rank k n.cover least h.second-least c)

  stays_put : (n : Need) → Numbers m.count n.item n.cover → (n.item ≡ k → ⊥) → (n.cover ≡ k → ⊥) → Stays (others k) m.count (placed n)
  stays_put n h i c = record {
    item_in = omega (arith, h.first-least, h.first-most);
    item-kept = other k (n.item - 1) (λ e. i (omega (arith, h.first-least)));
    cover-in = omega (arith, h.second-least, h.second-most);
    cover-kept = other k (n.cover - 1) (λ e. c (omega (arith, h.second-least)));
  }

  thins : Thins (others k) m (removed m k)
  thins = record {
    capacity = refl;
    count = refl;
    moved = moved m k (a.figures Sure).few-items least most;
    few-lines = omega (arith, rank_most keep t, a.few-needs);
    source = place keep t;
    source_in = place_in keep t;
    rising = λ j l. place-rises keep t j (suc j) (omega arith) l;
    stays = λ j l. let s = spare j l in stays_put (old j) (numbers j l) s.0 s.1;
    line = λ j l. let s = spare j l in
        removed-line m k (a.figures Sure).few-items least most a.few-needs j l ∙ lowered-need (old j) (numbers j l) s.0 s.1;
  }
    where
      keep : ℕ → Bool
      keep = spared k m.needs

      t : ℕ
      t = m.needs.count

      old : ℕ → Need
      old j = need_at m.needs (place keep t j)

      numbers : (j : ℕ) → j < rank keep t → Numbers m.count (old j).item (old j).cover
      numbers j l = (a.needs (place keep t j) (place_in keep t j l)).numbers

      spare : (j : ℕ) → j < rank keep t → ((old j).item ≡ k → ⊥) × ((old j).cover ≡ k → ⊥)
      spare j l = spares-others m k (place keep t j) (place_kept keep t j l)

  pub removed-admissible : (m.count ≡ 1 → ⊥) → Admissible (removed m k)
  removed-admissible d =
      let n = removed-count m k (a.figures Sure).few-items least most in
      thinned-admissible (others k) m (removed m k) thins blanks.Refused a (omega (arith, n)) (λ j l e. a.unbarred j l)

-- End theorem: removing an item never makes a record refused.
pub removed-accepted : (m : Model) (k : ℕ) → verdict m ≡ Ok tt → 1 ≤ k → k ≤ m.count → (m.count ≡ 1 → ⊥) → verdict (removed m k) ≡ Ok tt
removed-accepted m k e least most d = admitted (removed m k) (removed-admissible m k (accepted m e) least most d)
