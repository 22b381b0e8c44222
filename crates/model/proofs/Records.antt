-- Laws of records.
-- some-found, some_more, none-fails: a test over the first items.
-- both-accept: verdicts in a row.
-- unfaulted, unrefused: a record is accepted exactly if none of its tests holds; accepted-iff: exactly if it is admissible.
-- figures-of: a problem in range has its figures in range. plain-in-range: and back, if no bounds cross.
use mathlib.Core.Path.{◌≡◌, refl, sym, ◌∙◌, subst}
use mathlib.Core.Bool.{Bool, true, false, cond}
use mathlib.Core.Logic.{◌↔◌}
use Prim.Native.Nat.{ℕ, zero, suc, ◌≤◌, ◌<◌}
use native.Mathlib.Omega.{arith}
use native.Mathlib.Decide.{ℕ_discrete}
use Rattle.arith.proofs.Parts.{impossible}
use Rattle.arith.proofs.Words.{yes_lt, no_lt, lt_yes, le-no}
use lib.Dec.{ltb, eqb}
use lib.IntN.{ℤ, nat_abs}
use lib.Signed.{◌<ℤ◌, lt_z}
use borrow.Author.Tests.{ltb-false, eqb-false, le-ltb, ne_eqb}
use Rattle.arith.specs.Sum.{Each}
use Rattle.std.specs.Prelude.{Option, None, Some}
use Rattle.knapsack.specs.declared.Problem.{Problem}
use Rattle.knapsack.specs.declared.Refusal.{Refusal}
use Rattle.knapsack.specs.Verdicts.{Verdict}
use Rattle.std.specs.Prelude.{Ok, Err}
use Rattle.knapsack.specs.Ranges.{BoundInRange, InRange}
use Rattle.model.specs.declared.Blanks.{Blanks}
use Rattle.model.specs.declared.Model.{Model}
use Rattle.model.specs.declared.ModelItem.{ModelItem}
use Rattle.model.specs.declared.Sense.{Sense}
use Rattle.model.specs.declared.Sense.TheVariants.{Sure, Possible}
use Rattle.model.specs.Needs.{NotNegative}
use Rattle.model.specs.declared.refusals.Reason.{Reason}
use Rattle.model.specs.declared.refusals.Reason.TheVariants as refusal
use Rattle.model.specs.Records.{item_at, need_at, item_in, outside, bad_bound, bad_weights, bad_figure, is_reversed, is_ranged_below, below_zero, barred, some_item, bad_count, held, bad_line, unfit_line, line_before, refused_for, or_else, item_verdict, count_verdict, figure_verdict, kind_verdict, need_verdict, needs_verdict, verdict_by, ItemFigures, FiguresInRange, Uncrossed, AdmissibleBy}
use Rattle.model.proofs.Tests.{neither}
use Rattle.model.proofs.Plain.{plain-item}
use Rattle.model.proofs.NeedLines.{is-above, above-is, good-line, line-good}

pub some_more : {A : Type 0} (k : ℕ) (f : ℕ → A) (test : A → Bool) → some_item k f test ≡ false → test (f k) ≡ false → some_item (suc k) f test ≡ false
unfolding some_item
some_more k f test h e = rw h e

pub some-found : {A : Type 0} (n k : ℕ) (f : ℕ → A) (test : A → Bool) → k < n → test (f k) ≡ true → some_item n f test ≡ true
unfolding some_item
some-found zero k f test l e = absurd (omega arith)
some-found (suc n) k f test l e = go (ℕ_discrete k n) (some_item n f test) refl (λ m. some-found n k f test m e)
  where
    go : Dec (k ≡ n) → (b : Bool) → some_item n f test ≡ b → (k < n → some_item n f test ≡ true) → cond (some_item n f test) true (test (f n)) ≡ true
    go d true h ih = rw h
    go (yes d) false h ih = rw (h, ← d) e
    go (no d) false h ih = rw (ih (omega arith))

pub none-fails : {A : Type 0} (n : ℕ) (f : ℕ → A) (test : A → Bool) → some_item n f test ≡ false → (k : ℕ) → k < n → test (f k) ≡ false
none-fails n f test h k l = go (test (f k)) refl
  where
    go : (b : Bool) → test (f k) ≡ b → test (f k) ≡ false
    go true e = absurd (impossible (sym h ∙ some-found n k f test l e))
    go false e = e

-- ---- a record is accepted exactly if it is admissible

abbrev Taken : Verdict → Type 0
Taken (Ok _) = Unit {0}
Taken (Err f) = ⊥

-- two verdicts in a row accept exactly if both do
pub both-accept : (v w : Verdict) → or_else v w ≡ Ok tt → (v ≡ Ok tt) × (w ≡ Ok tt)
both-accept (Ok _) w h = (refl, h)
both-accept (Err f) w h = absurd (subst Taken (sym h) tt)

-- a row accepts exactly if its test does not hold
pub row-clear : (t : Bool) (n : Reason) → refused_for t n ≡ Ok tt → t ≡ false
row-clear true n h = absurd (subst Taken (sym h) tt)
row-clear false n h = refl

inside : (n : ℕ) (z : ℤ) → outside n z ≡ false → nat_abs z ≤ n
inside n z h = ltb-false n (nat_abs z) h

not-outside : (n : ℕ) (z : ℤ) → nat_abs z ≤ n → outside n z ≡ false
not-outside n z h = le-ltb n (nat_abs z) h

bound-in : (b : Option ℤ) → bad_bound b ≡ false → BoundInRange b
bound-in None h = tt
bound-in (Some v) h = inside 10000 v h

in-bound : (b : Option ℤ) → BoundInRange b → bad_bound b ≡ false
in-bound None h = refl
in-bound (Some v) h = not-outside 10000 v h

item_in_lem : (i : ModelItem) → bad_figure i ≡ false → (s : Sense) → ItemFigures (item_in s i)
item_in_lem i h s =
    let w = neither (bad_weights i) _ h in
    let a = neither (outside 1000 i.low) _ w.0 in
    let c = neither (outside 10000 i.price) _ w.1 in
    let b = neither (bad_bound i.lower) _ c.1 in
    record {
      weight-in = weight s (inside 1000 i.low a.0) (inside 1000 i.high a.1);
      price-in = inside 10000 i.price c.0;
      lower_in = bound-in i.lower b.0;
      upper_in = bound-in i.upper b.1;
    }
  where
    weight : (s : Sense) → nat_abs i.low ≤ 1000 → nat_abs i.high ≤ 1000 → nat_abs (item_in s i).weight ≤ 1000
    weight Sure l h = h
    weight Possible l h = l

-- both senses together know all figures
in_item : (i : ModelItem) → ((s : Sense) → ItemFigures (item_in s i)) → bad_figure i ≡ false
in_item i r =
    rw (
      not-outside 1000 i.low (r Possible).weight-in,
      not-outside 1000 i.high (r Sure).weight-in,
      not-outside 10000 i.price (r Sure).price-in,
      in-bound i.lower (r Sure).lower_in,
    )
    (in-bound i.upper (r Sure).upper_in)

-- the weights of an item that row 20 does not refuse
not-below : (i : ModelItem) → is_ranged_below i ≡ false → i.low <ℤ i.high → NotNegative i.lower
not-below i h l = go (lt_z i.low i.high) refl h
  where
    go : (b : Bool) → lt_z i.low i.high ≡ b → cond b (below_zero i.lower) false ≡ false → NotNegative i.lower
    go true e h = is-above i.lower h
    go false e h = absurd (impossible (sym e ∙ lt_yes l))

below-not : (i : ModelItem) → (i.low <ℤ i.high → NotNegative i.lower) → is_ranged_below i ≡ false
below-not i h = go (lt_z i.low i.high) refl
  where
    go : (b : Bool) → lt_z i.low i.high ≡ b → cond b (below_zero i.lower) false ≡ false
    go true e = above-is i.lower (h (yes_lt e))
    go false e = refl

-- no item fails
all_pass : {A : Type 0} (n : ℕ) (f : ℕ → A) (test : A → Bool) → ((k : ℕ) → k < n → test (f k) ≡ false) → some_item n f test ≡ false
unfolding some_item
all_pass zero f test h = refl
all_pass (suc n) f test h = some_more n f test (all_pass n f test (λ k l. h k (omega arith))) (h n (omega arith))

-- of a record's tests none holds
pub record Unfaulted (b : Blanks) (m : Model) : Type 0 where
  pub least : 1 ≤ m.count
  pub most : m.count ≤ 16
  pub capacity : outside 100000000 m.capacity ≡ false
  pub figures : Each m.count (λ k. bad_figure (item_at m k) ≡ false)
  pub ordered : Each m.count (λ k. is_reversed (item_at m k) ≡ false)
  pub unbarred : Each m.count (λ k. barred b (item_at m k) ≡ false)
  pub few-needs : m.needs.count ≤ 16
  pub needs : Each m.needs.count
      (λ j. (bad_line m.count (line_before m.needs j) (need_at m.needs j) ≡ false) × (unfit_line (item_at m) (need_at m.needs j) ≡ false))
  pub ranged : Each m.count (λ k. is_ranged_below (item_at m k) ≡ false)

-- with a good count all are tried
pub held_all : (n : ℕ) → n ≤ 16 → held n ≡ n
held_all n h = rw (le-ltb 16 n h)

-- every line is accepted
lines-accept : (n : ℕ) (m : Model) → needs_verdict n m ≡ Ok tt → Each n (λ j. need_verdict m j ≡ Ok tt)
unfolding needs_verdict
lines-accept zero m h j l = absurd (omega arith)
lines-accept (suc n) m h j l = go (ℕ_discrete j n) (λ i. lines-accept n m r.0 j i)
  where
    r : (needs_verdict n m ≡ Ok tt) × (need_verdict m n ≡ Ok tt)
    r = both-accept (needs_verdict n m) (need_verdict m n) h

    go : Dec (j ≡ n) → (j < n → need_verdict m j ≡ Ok tt) → need_verdict m j ≡ Ok tt
    go (yes e) ih = subst (λ i. need_verdict m i ≡ Ok tt) (sym e) r.1
    go (no d) ih = ih (omega arith)

-- the first line that is refused is what the lines are told
pub needs-stop : (n j : ℕ) (m : Model) (f : Refusal) → j < n → needs_verdict j m ≡ Ok tt → need_verdict m j ≡ Err f → needs_verdict n m ≡ Err f
unfolding needs_verdict
needs-stop zero j m f l h e = absurd (omega arith)
needs-stop (suc n) j m f l h e = go (ℕ_discrete j n) (λ k. needs-stop n j m f k h e)
  where
    go : Dec (j ≡ n) → (j < n → needs_verdict n m ≡ Err f) → or_else (needs_verdict n m) (need_verdict m n) ≡ Err f
    go (yes i) ih = rw (← i, h) e
    go (no i) ih = rw (ih (omega arith))

accept-lines : (n : ℕ) (m : Model) → Each n (λ j. need_verdict m j ≡ Ok tt) → needs_verdict n m ≡ Ok tt
unfolding needs_verdict
accept-lines zero m h = refl
accept-lines (suc n) m h = rw (accept-lines n m (λ j l. h j (omega arith))) (h n (omega arith))

pub unfaulted : {b : Blanks} (m : Model) → verdict_by b m ≡ Ok tt → Unfaulted b m
unfolding verdict_by
unfaulted {b} m h =
    let needs = needs_verdict (held m.needs.count) m in
    let z = both-accept (or_else (or_else (or_else (count_verdict m) (figure_verdict m)) (kind_verdict b m)) needs) (item_verdict is_ranged_below refusal.RangedItem m) h in
    let t = both-accept (or_else (or_else (count_verdict m) (figure_verdict m)) (kind_verdict b m)) needs z.0 in
    let u = both-accept (or_else (count_verdict m) (figure_verdict m)) (kind_verdict b m) t.0 in
    let r = both-accept (count_verdict m) (figure_verdict m) u.0 in
    let x = both-accept (item_verdict is_reversed refusal.WeightRange m) (item_verdict (barred b) refusal.BlankItem m) u.1 in
    let f = both-accept (refused_for (outside 100000000 m.capacity) refusal.Figure) (item_verdict bad_figure refusal.Figure m) r.1 in
    let c = neither (bad_count m.count) (ltb 16 m.needs.count) (row-clear (cond (bad_count m.count) true (ltb 16 m.needs.count)) refusal.Count r.0) in
    let n = neither (eqb m.count 0) (ltb 16 m.count) c.0 in
    let some = eqb-false m.count 0 n.0 in
    let few = ltb-false 16 m.count n.1 in
    let short = ltb-false 16 m.needs.count c.1 in
    let all = held_all m.count few in
    let lines = lines-accept m.needs.count m (rw (held_all m.needs.count short) at t.1) in
    record {
      least = omega arith;
      most = few;
      capacity = row-clear (outside 100000000 m.capacity) refusal.Figure f.0;
      figures = none all bad_figure refusal.Figure f.1;
      ordered = none all is_reversed refusal.WeightRange x.0;
      unbarred = none all (barred b) refusal.BlankItem x.1;
      few-needs = short;
      needs = λ j l. clear all j (lines j l);
      ranged = none all is_ranged_below refusal.RangedItem z.1;
    }
  where
    none : held m.count ≡ m.count → (test : ModelItem → Bool) (n : Reason) → item_verdict test n m ≡ Ok tt → Each m.count (λ k. test (item_at m k) ≡ false)
    none all test n h = none-fails m.count (item_at m) test (rw all at (row-clear (some_item (held m.count) (item_at m) test) n h))

    clear : held m.count ≡ m.count → (j : ℕ) → need_verdict m j ≡ Ok tt →
        (bad_line m.count (line_before m.needs j) (need_at m.needs j) ≡ false) × (unfit_line (item_at m) (need_at m.needs j) ≡ false)
    clear all j h =
        let bad = bad_line (held m.count) (line_before m.needs j) (need_at m.needs j) in
        let lame = unfit_line (item_at m) (need_at m.needs j) in
        let r = both-accept (refused_for bad refusal.ItemNumber) (refused_for lame refusal.NamedItem) h in
        (rw all at (row-clear bad refusal.ItemNumber r.0), row-clear lame refusal.NamedItem r.1)

pub unrefused : {b : Blanks} (m : Model) → Unfaulted b m → verdict_by b m ≡ Ok tt
unfolding verdict_by
unrefused {b} m u =
    let some : m.count ≡ 0 → ⊥ = λ e. omega (arith, u.least) in
    let all = held_all m.count u.most in
    let line : Each m.needs.count (λ j. need_verdict m j ≡ Ok tt) = λ j l. let h = u.needs j l in rw (all, h.0, h.1) in
    let lines : needs_verdict (held m.needs.count) m ≡ (Ok tt) = rw (held_all m.needs.count u.few-needs) (accept-lines m.needs.count m line) in
    rw (
      lines,
      ne_eqb m.count 0 some,
      le-ltb 16 m.count u.most,
      le-ltb 16 m.needs.count u.few-needs,
      u.capacity,
      all_pass m.count (item_at m) bad_figure u.figures,
      all_pass m.count (item_at m) is_reversed u.ordered,
      all_pass m.count (item_at m) (barred b) u.unbarred,
      all_pass m.count (item_at m) is_ranged_below u.ranged,
    )

pub accepted : {b : Blanks} (m : Model) → verdict_by b m ≡ Ok tt → AdmissibleBy b m
accepted {b} m h =
    let u = unfaulted m h in
    record {
      figures = λ s. record {
        some-items = u.least;
        few-items = u.most;
        capacity-in = inside 100000000 m.capacity u.capacity;
        items-in = λ k l. subst ItemFigures (sym (plain-item s m k)) (item_in_lem (item_at m k) (u.figures k l) s);
      };
      ordered = λ k l. no_lt (u.ordered k l);
      unbarred = u.unbarred;
      few-needs = u.few-needs;
      needs = λ j l. let n = u.needs j l in good-line m j n.0 n.1;
      ranged = λ k l. not-below (item_at m k) (u.ranged k l);
    }

pub admitted : {b : Blanks} (m : Model) → AdmissibleBy b m → verdict_by b m ≡ Ok tt
admitted {b} m a =
    let r = a.figures Sure in
    unrefused m (record {
      least = r.some-items;
      most = r.few-items;
      capacity = not-outside 100000000 m.capacity r.capacity-in;
      figures = λ k l. in_item (item_at m k) (λ s. subst ItemFigures (plain-item s m k) ((a.figures s).items-in k l));
      ordered = λ k l. le-no (a.ordered k l);
      unbarred = a.unbarred;
      few-needs = a.few-needs;
      needs = λ j l. line-good m j (a.needs j l);
      ranged = λ k l. below-not (item_at m k) (a.ranged k l);
    })

-- End theorem: a record is accepted exactly if it is admissible.
pub accepted-iff : (b : Blanks) (m : Model) → (verdict_by b m ≡ Ok tt) ↔ AdmissibleBy b m
accepted-iff b m = (accepted m, admitted m)

-- ---- what the solver asks

pub figures-of : (p : Problem) → InRange p → FiguresInRange p
figures-of p r = record {
  some-items = r.some-items;
  few-items = r.few-items;
  capacity-in = r.capacity-in;
  items-in = λ k l. let i = r.items-in k l in
      record { weight-in = i.weight-in; price-in = i.price-in; lower_in = i.lower_in; upper_in = i.upper_in };
}

pub plain-in-range : (p : Problem) → FiguresInRange p → Uncrossed p → InRange p
plain-in-range p r u = record {
  some-items = r.some-items;
  few-items = r.few-items;
  capacity-in = r.capacity-in;
  items-in = λ k l. let i = r.items-in k l in
      record { weight-in = i.weight-in; price-in = i.price-in; lower_in = i.lower_in; upper_in = i.upper_in; in_order = u k l };
}
