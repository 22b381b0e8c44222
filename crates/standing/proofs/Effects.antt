-- What a change leaves alone, and what plays no part in it.
-- change-alone (end theorem): a change that its own rows let through changes one item, and of the needs only what goes with it.
-- agree-changed, agree-verdict (end theorem): places beyond the counts play no part: records that agree up to them agree after a change, and are told the
-- same. So an added item stands in the first unused place, whatever that held.
use mathlib.Core.Bool.{Bool, not}
use mathlib.Core.List.{List}
use mathlib.Core.Path.{◌≡◌, refl, sym, ap, ap₂, ◌∙◌}
use Prim.Native.Nat.{ℕ, suc, ◌-◌, ◌<◌}
use native.Mathlib.Omega.{arith}
use native.Mathlib.Decide.{ℕ_discrete}
use lib.Dec.{ltb, eqb}
use lib.ListN.{length, get_or}
use lib.Seq.{get_or-set_same, get_or-set_other}
use Rattle.arith.specs.Sum.{Each}
use Rattle.std.specs.Prelude.{Option, ℤ}
use Rattle.knapsack.specs.Verdicts.{Verdict}
use Rattle.std.specs.Prelude.{Ok, Err}
use Rattle.model.specs.declared.Blanks.TheVariants as blanks
use Rattle.model.specs.declared.Model.{Model}
use Rattle.model.specs.declared.ModelItem.{ModelItem}
use Rattle.model.specs.declared.Need.{Need}
use Rattle.model.specs.declared.Side.TheVariants.{Upper}
use Rattle.model.specs.Needs.{no_need}
use Rattle.model.specs.Records.{no_item, item_at, need_at, wrong_number, names_item, refused_for, or_else, verdict, Agree}
use Rattle.model.specs.declared.refusals.Reason.TheVariants as refusal
use Rattle.model.specs.Setters.{appended, bounded, with_bound}
use Rattle.model.proofs.BeyondCount.{beyond-verdict}
use Rattle.dropping.proofs.Dropped.{not-true}
use Rattle.dropping.proofs.Kept.{place, place-rank, rank-strict, rank-cong, packed-cong, place_in, place_kept, place-rises}
use Rattle.dropping.specs.Kept.{rank, packed}
use Rattle.standing.specs.Changes.{Change, Adding, Removing, Bounding, others, lowered_need, spared, removed, changed}
use Rattle.standing.specs.Changes.{missing_verdict, only_verdict, own_verdict, change_verdict}
use Rattle.standing.specs.Effects.{Adds, Removes, Bounds, Alone}
use Rattle.standing.proofs.Removed.{removed-count, removed-before, removed-after, removed-line}
use Rattle.standing.proofs.Rows.{in_a_row, room, There, there-is, there-more}

adds : (m : Model) (x : ModelItem) → length m.items ≡ 16 → m.count < 16 → Adds m x (appended m x)
adds m x full l = record {
  count = refl;
  capacity = refl;
  needs = refl;
  rest = λ j h. get_or-set_other m.items m.count j x no_item (λ e. omega arith);
  last = get_or-set_same m.items m.count x no_item (omega arith);
}

bounds : (m : Model) (k : ℕ) (u : Option ℤ) → length m.items ≡ 16 → There m k → Bounds m k u (with_bound m Upper (k - 1) u)
bounds m k u full t = record {
  count = refl;
  capacity = refl;
  needs = refl;
  rest = λ j h. get_or-set_other m.items (k - 1) j (bounded Upper u (item_at m (k - 1))) no_item (λ e. h (omega (arith, t.least)));
  own = get_or-set_same m.items (k - 1) (bounded Upper u (item_at m (k - 1))) no_item (omega (arith, t.least, t.most, t.few));
}

removes : (m : Model) (k : ℕ) → There m k → Removes m k (removed m k)
removes m k t = record {
  count = removed-count m k t.few t.least t.most;
  capacity = refl;
  before = removed-before m k t.few t.least t.most;
  after = removed-after m k t.few t.least t.most;
  old = place keep n;
  old-in = place_in keep n;
  old-spared = λ i l. not-true (names_item (need_at m.needs (place keep n i)) k) (place_kept keep n i l);
  lines = removed-line m k t.few t.least t.most t.short;
  in_order = place-rises keep n;
  all-spared = λ j l e. (rank keep j, (rank-strict keep n j l (ap not e), place-rank keep n j l (ap not e)));
}
  where
    keep : ℕ → Bool
    keep = spared k m.needs

    n : ℕ
    n = m.needs.count

-- the rows of a removal, as check_removal tells them
removal-there : (m : Model) (k : ℕ) → or_else (verdict m) (own_verdict (Removing k) m) ≡ Ok tt → There m k
removal-there m k h = (there-more m k (in_a_row (verdict m) (missing_verdict m k) (only_verdict m) ∙ h)).0

pub change-alone : (c : Change) (m : Model) → length m.items ≡ 16 → or_else (verdict m) (own_verdict c m) ≡ Ok tt → Alone c m (changed c m)
change-alone (Adding x) m full h = adds m x full (room m h)
change-alone (Removing k) m full h = removes m k (removal-there m k h)
change-alone (Bounding k u) m full h = bounds m k u full (there-is m k h)

-- ---- places beyond the counts

module _ (m o : Model) (e : Agree m o) where
  agree-added : (x : ModelItem) → Adds m x (appended m x) → Adds o x (appended o x) → Agree (appended m x) (appended o x)
  agree-added x a b = record {
    count = ap suc e.count;
    capacity = e.capacity;
    items = λ j l. at j l (ℕ_discrete j m.count);
    need-count = e.need-count;
    needs = e.needs;
  }
    where
      at : (j : ℕ) → j < suc m.count → Dec (j ≡ m.count) → item_at (appended m x) j ≡ item_at (appended o x) j
      at j l (yes d) =
          ap (item_at (appended m x)) d ∙ a.last ∙ sym b.last ∙ ap (item_at (appended o x)) (sym (d ∙ e.count))
      at j l (no d) = a.rest j (omega arith) ∙ e.items j (omega arith) ∙ sym (b.rest j (omega (arith, e.count)))

  agree-bounded : (k : ℕ) (u : Option ℤ) → There m k → Bounds m k u (with_bound m Upper (k - 1) u) → Bounds o k u (with_bound o Upper (k - 1) u)
      → Agree (with_bound m Upper (k - 1) u) (with_bound o Upper (k - 1) u)
  agree-bounded k u t a b = record {
    count = e.count;
    capacity = e.capacity;
    items = λ j l. at j l (ℕ_discrete (suc j) k);
    need-count = e.need-count;
    needs = e.needs;
  }
    where
      new : Model → Model
      new p = with_bound p Upper (k - 1) u

      at : (j : ℕ) → j < m.count → Dec (suc j ≡ k) → item_at (new m) j ≡ item_at (new o) j
      at j l (yes d) =
          let p : j ≡ k - 1 = omega arith in
          let i = e.items (k - 1) (omega (arith, t.least, t.most)) in
          ap (item_at (new m)) p ∙ a.own ∙ ap (bounded Upper u) i ∙ sym b.own ∙ ap (item_at (new o)) (sym p)
      at j l (no d) = a.rest j d ∙ e.items j l ∙ sym (b.rest j d)

  agree-removed : (k : ℕ) → Agree (removed m k) (removed o k)
  agree-removed k = record {
    count = ap (rank (others k)) e.count;
    capacity = e.capacity;
    items = λ j l. ap (λ (is : List ModelItem). get_or is j no_item) items;
    need-count = rank-cong keep held n same ∙ ap (rank held) e.need-count;
    needs = λ j l. ap (λ (ls : List Need). get_or ls j no_need) lines;
  }
    where
      n : ℕ
      n = m.needs.count

      keep : ℕ → Bool
      keep = spared k m.needs

      held : ℕ → Bool
      held = spared k o.needs

      same : Each n (λ j. keep j ≡ held j)
      same j l = ap (λ (x : Need). not (names_item x k)) (e.needs j l)

      items : (removed m k).items ≡ (removed o k).items
      items = packed-cong no_item (others k) (others k) (item_at m) (item_at o) m.count (λ j l. refl) e.items
          ∙ ap (packed no_item (others k) (item_at o)) e.count

      new : Model → ℕ → Need
      new p j = lowered_need k (need_at p.needs j)

      lines : (removed m k).needs.lines ≡ (removed o k).needs.lines
      lines = packed-cong no_need keep held (new m) (new o) n same (λ j l. ap (lowered_need k) (e.needs j l)) ∙ ap (packed no_need held (new o)) e.need-count

  own_same : (c : Change) → own_verdict c m ≡ own_verdict c o
  own_same (Adding x) = ap (λ n. refused_for (ltb 15 n) refusal.FullRecord) e.count
  own_same (Removing k) = ap (λ n. or_else (refused_for (wrong_number n k) refusal.MissingItem) (refused_for (eqb n 1) refusal.OnlyItem)) e.count
  own_same (Bounding k u) = ap (λ n. refused_for (wrong_number n k) refusal.MissingItem) e.count

  module _ (c : Change) (lm : length m.items ≡ 16) (lo : length o.items ≡ 16) where
    rows : or_else (verdict m) (own_verdict c m) ≡ or_else (verdict o) (own_verdict c o)
    rows = ap₂ or_else (beyond-verdict m o e blanks.Refused) (own_same c)

    pub agree-changed : or_else (verdict m) (own_verdict c m) ≡ Ok tt → Agree (changed c m) (changed c o)
    agree-changed h = go c (change-alone c m lm h) (change-alone c o lo (sym rows ∙ h)) h
      where
        go : (c : Change) → Alone c m (changed c m) → Alone c o (changed c o) → or_else (verdict m) (own_verdict c m) ≡ Ok tt
            → Agree (changed c m) (changed c o)
        go (Adding x) a b h = agree-added x a b
        go (Removing k) a b h = agree-removed k
        go (Bounding k u) a b h = agree-bounded k u (there-is m k h) a b

    pub agree-verdict : change_verdict c m ≡ change_verdict c o
    agree-verdict = go (or_else (verdict m) (own_verdict c m)) refl
      where
        go : (v : Verdict) → or_else (verdict m) (own_verdict c m) ≡ v → change_verdict c m ≡ change_verdict c o
        go (Ok _) h =
            ap (λ w. or_else w (verdict (changed c m))) h ∙ beyond-verdict (changed c m) (changed c o) (agree-changed h) blanks.Refused
            ∙ sym (ap (λ w. or_else w (verdict (changed c o))) (sym rows ∙ h))
        go (Err f) h = ap (λ w. or_else w (verdict (changed c m))) h ∙ sym (ap (λ w. or_else w (verdict (changed c o))) (sym rows ∙ h))
