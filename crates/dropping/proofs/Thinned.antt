-- A record with some items left out, the later ones moved down, and with it the needs that name a left-out item, or more.
--   Thins keep m o     o has the kept items of m, and lines of needs that come from lines of m of kept items, in their order
-- thinned-each: what holds of the kept items holds of all items of o.
-- rises-later: of two lines of needs the later rises above the earlier.
-- thinned-admissible (end theorem): if m is admissible, some item is kept and no kept one is blank, o is admissible.
use mathlib.Core.Bool.{Bool, true, false}
use mathlib.Core.Logic.{inl, inr}
use mathlib.Core.Path.{◌≡◌, sym, ap, ap₂, ◌∙◌, subst}
use Prim.Native.Nat.{ℕ, zero, suc, ◌-◌, ◌≤◌, ◌<◌}
use native.Mathlib.Omega.{arith}
use native.Mathlib.Decide.{ℕ_discrete}
use lib.Signed.{◌≤ℤ◌, ◌<ℤ◌}
use Rattle.arith.specs.Sum.{Each}
use Rattle.knapsack.specs.Meaning.{Instance, instance_of}
use Rattle.knapsack.specs.Ranges.{item_at as plain_item}
use Rattle.model.specs.declared.Blanks.{Blanks}
use Rattle.model.specs.declared.Model.{Model}
use Rattle.model.specs.declared.ModelItem.{ModelItem}
use Rattle.model.specs.declared.Need.{Need}
use Rattle.model.specs.declared.Needs.{Needs}
use Rattle.model.specs.declared.Sense.{Sense}
use Rattle.model.specs.declared.Sense.TheVariants.{Sure}
use Rattle.model.specs.Needs.{Named, NotNegative}
use Rattle.model.specs.Records.{item_at, need_at, item_in, plain_of, placed, is_blank, line_before}
use Rattle.model.specs.Records.{ItemFigures, Rises, GoodLine, AdmissibleBy, Admissible}
use Rattle.model.proofs.NeedLines.{before-next}
use Rattle.model.proofs.Plain.{plain-item}
use Rattle.dropping.proofs.Kept.{rank-strict, rank-injective, rank_most, at-rank, Source}
use Rattle.dropping.proofs.Needed.{moved_need, Stays}
use Rattle.dropping.specs.Dropping.{renumber, renumbered}
use Rattle.dropping.specs.Kept.{rank}

pub record Thins (keep : ℕ → Bool) (m o : Model) : Type 0 where
  pub capacity : o.capacity ≡ m.capacity
  pub count : o.count ≡ rank keep m.count
  pub moved : (k : ℕ) → k < m.count → keep k ≡ true → item_at o (rank keep k) ≡ item_at m k
  pub few-lines : o.needs.count ≤ 16
  pub source : ℕ → ℕ
  pub source_in : Each o.needs.count (λ j. source j < m.needs.count)
  pub rising : (j : ℕ) → suc j < o.needs.count → source j < source (suc j)
  pub stays : Each o.needs.count (λ j. Stays keep m.count (placed (need_at m.needs (source j))))
  pub line : Each o.needs.count (λ j. need_at o.needs j ≡ renumbered keep (need_at m.needs (source j)))

-- the record as the solver's instance
abbrev asked : Sense → Model → Instance
asked sense m = instance_of (plain_of sense m)

-- a renumbered need, by places
pub renumbered-placed : (keep : ℕ → Bool) (n : Need) → placed (renumbered keep n) ≡ moved_need keep (placed n)
renumbered-placed keep n = ap₂ {C = Need} (λ i c. record { item = i; cover = c }) (omega arith) (omega arith)

rises-trans : (a b c : Need) → Rises a b → Rises b c → Rises a c
rises-trans a b c (inl h) (inl l) = inl (omega arith)
rises-trans a b c (inl h) (inr (e, l)) = inl (omega arith)
rises-trans a b c (inr (d, h)) (inl l) = inl (omega arith)
rises-trans a b c (inr (d, h)) (inr (e, l)) = inr (d ∙ e, omega arith)

pub rises-later : (ns : Needs) (t : ℕ) → Each t (λ j. Rises (line_before ns j) (need_at ns j)) → (i j : ℕ) → i < j → j < t → Rises (need_at ns i) (need_at ns j)
rises-later ns t h i zero l n = absurd (omega arith)
rises-later ns t h i (suc j) l n = go (ℕ_discrete i j) (λ o. rises-later ns t h i j o (omega arith))
  where
    next : Rises (need_at ns j) (need_at ns (suc j))
    next = rw (before-next ns j) at (h (suc j) n)

    go : Dec (i ≡ j) → (i < j → Rises (need_at ns i) (need_at ns j)) → Rises (need_at ns i) (need_at ns (suc j))
    go (yes e) ih = rw e next
    go (no d) ih = rises-trans (need_at ns i) (need_at ns j) (need_at ns (suc j)) (ih (omega arith)) next

module _ (keep : ℕ → Bool) (m o : Model) (d : Thins keep m o) where
  pub thinned-each : (P : ModelItem → Type 0) → Each m.count (λ k. keep k ≡ true → P (item_at m k)) → Each o.count (λ j. P (item_at o j))
  thinned-each P h j l = at (at-rank keep m.count j (omega (arith, d.count)))
    where
      at : Source keep m.count j → P (item_at o j)
      at c = subst (λ i. P (item_at o i)) c.goes (rw (d.moved c.from c.from_in c.from-kept) (h c.from c.from_in c.from-kept))

  -- so it is in every sense
  pub thinned-plain : (sense : Sense) (k : ℕ) → k < m.count → keep k ≡ true → plain_item (plain_of sense o) (rank keep k) ≡ plain_item (plain_of sense m) k
  thinned-plain sense k l e = plain-item sense o (rank keep k) ∙ ap (item_in sense) (d.moved k l e) ∙ sym (plain-item sense m k)

  named-moved : (sense : Sense) (k : ℕ) → keep k ≡ true → Named (asked sense m) k → Named (asked sense o) (rank keep k)
  named-moved sense k e n =
      let i = thinned-plain sense k n.inside e in
      record {
        inside = omega (arith, d.count, rank-strict keep m.count k n.inside e);
        whole = rw i n.whole;
        above = rw i n.above;
        below = rw i n.below;
      }

  line-rises : (x y : Need) → Stays keep m.count (placed x) → 1 ≤ x.item → 1 ≤ x.cover → Rises x y → Rises (renumbered keep x) (renumbered keep y)
  line-rises x y s i c (inl l) = inl (omega (arith, rank-strict keep (y.item - 1) (x.item - 1) (omega arith) s.item-kept))
  line-rises x y s i c (inr (e, l)) =
      inr (ap (renumber keep) e, omega (arith, rank-strict keep (y.cover - 1) (x.cover - 1) (omega arith) s.cover-kept))

  module _ (b : Blanks) (a : AdmissibleBy b m) where
    -- the line that line j of o comes from
    abbrev old : ℕ → Need
    old j = need_at m.needs (d.source j)

    rises : (j : ℕ) → j < o.needs.count → Rises (line_before o.needs j) (need_at o.needs j)
    rises zero l = rw (d.line 0 l) (inl (omega arith))
    rises (suc j) l =
        let n = (a.needs (d.source j) (d.source_in j (omega arith))).numbers in
        let before = rises-later m.needs m.needs.count (λ i h. (a.needs i h).rises) in
        let r = before (d.source j) (d.source (suc j)) (d.rising j l) (d.source_in (suc j) l) in
        rw (before-next o.needs j, d.line j (omega arith), d.line (suc j) l)
        (line-rises (old j) (old (suc j)) (d.stays j (omega arith)) n.first-least n.second-least r)

    good : (j : ℕ) → j < o.needs.count → GoodLine o j
    good j l =
        let g = a.needs (d.source j) (d.source_in j l) in
        let n = g.numbers in
        let s = d.stays j l in
        let x = old j in
        let i = rank-strict keep m.count (x.item - 1) s.item_in s.item-kept in
        let c = rank-strict keep m.count (x.cover - 1) s.cover-in s.cover-kept in
        record {
          numbers = rw (d.line j l) (record {
            first-least = omega arith;
            first-most = omega (arith, i, d.count);
            second-least = omega arith;
            second-most = omega (arith, c, d.count);
            different = λ e.
                let same = rank-injective keep (x.item - 1) (x.cover - 1) s.item-kept s.cover-kept (omega arith) in
                n.different (omega (arith, same, n.first-least, n.second-least));
          });
          rises = rises j l;
          allowed = λ sense. rw (ap placed (d.line j l) ∙ renumbered-placed keep x) (record {
            item = named-moved sense (x.item - 1) s.item-kept (g.allowed sense).item;
            cover = named-moved sense (x.cover - 1) s.cover-kept (g.allowed sense).cover;
          });
        }

    pub thinned-admissible : 1 ≤ o.count → Each m.count (λ k. keep k ≡ true → is_blank (item_at m k) ≡ false) → Admissible o
    thinned-admissible some full = record {
      figures = λ sense. record {
        some-items = some;
        few-items = omega (arith, d.count, rank_most keep m.count, (a.figures Sure).few-items);
        capacity-in = rw d.capacity (a.figures sense).capacity-in;
        items-in = λ j l. subst ItemFigures (sym (plain-item sense o j))
            (thinned-each (λ i. ItemFigures (item_in sense i)) (λ k h e. subst ItemFigures (plain-item sense m k) ((a.figures sense).items-in k h)) j l);
      };
      ordered = thinned-each (λ i. i.low ≤ℤ i.high) (λ k l e. a.ordered k l);
      unbarred = thinned-each (λ i. is_blank i ≡ false) full;
      few-needs = d.few-lines;
      needs = good;
      ranged = thinned-each (λ i. i.low <ℤ i.high → NotNegative i.lower) (λ k l e. a.ranged k l);
    }
