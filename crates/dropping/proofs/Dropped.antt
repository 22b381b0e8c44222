-- A record without its blank items.
-- dropped-none, rank-next, dropped-next: an item more. lines_next: a line more. line-numbers: a line has item numbers.
-- named_more, named-found, none_named: a line of needs more, and what the search for a name tells.
-- droppable, undisturbed: the search finds no hindrance exactly where there is none.
-- line-length, line_at, line-behind, dropped-item, dropped-need, dropped_line: what stands in it.
-- not-true: what a test does not say.
-- drops-blanks: it is the problem with idle items left out, and the needs moved along.
-- dropped-gives: the meaning gives it the kind and the value that it gives the record, blank items included. dropped-planned: so the planner's reply to it
-- shows what the meaning gives the old record.
-- dropped-admissible: it is accepted as a record. unblanked: a record without blank items comes back as it is; unblanked-free: nothing hinders it.
use mathlib.Core.Bool.{Bool, true, false, cond, not}
use mathlib.Core.List.{List}
use mathlib.Core.Logic.{◌↔◌}
use mathlib.Core.Path.{◌≡◌, refl, sym, ap, ap₂, ◌∙◌, subst}
use Prim.Native.Nat.{ℕ, zero, suc, ◌-◌, ◌≤◌, ◌<◌}
use native.Mathlib.Omega.{arith}
use native.Mathlib.Decide.{ℕ_discrete}
use borrow.Author.Tests.{eqb-false, ne_eqb}
use lib.Dec.{eqb}
use lib.ListN.{length, get_or, set, length-set, length-replicate}
use lib.Seq.{get_or-set_same, get_or-set_other}
use Rattle.arith.proofs.Parts.{impossible}
use Rattle.arith.specs.declared.Fraction.{Fraction}
use Rattle.arith.specs.Sum.{Each}
use Rattle.knapsack.specs.Meaning.{Instance, instance_of}
use Rattle.knapsack.specs.Ranges.{item_at as plain_item}
use Rattle.knapsack.specs.declared.Answer.{Answer}
use Rattle.knapsack.specs.declared.Kind.{Kind}
use Rattle.std.specs.Prelude.{Ok}
use Rattle.model.specs.declared.Blanks.TheVariants as blanks
use Rattle.model.specs.declared.Model.{Model}
use Rattle.model.specs.declared.Sense.{Sense}
use Rattle.model.specs.declared.Sense.TheVariants.{Sure}
use Rattle.model.specs.declared.Need.{Need}
use Rattle.model.specs.Needs.{no_need}
use Rattle.model.specs.Promises.{RepliesAs, Planned}
use Rattle.model.specs.Records.{no_item, empty_model, item_at, need_at, plain_of, placed, needs_of, is_blank, bounds_cross, names_item, verdict}
use Rattle.model.specs.Records.{Agree, Numbers, AdmissibleBy, Admissible}
use Rattle.model.specs.Setters.{with_capacity, appended, with_need}
use Rattle.model.proofs.BlankItems.{blank-nothing}
use Rattle.model.proofs.Crossings.{order-in}
use Rattle.model.proofs.NeedLines.{needs-in, needs-from}
use Rattle.model.proofs.Plain.{plain-item}
use Rattle.model.proofs.Records.{admitted}
use Rattle.model.proofs.Tests.{neither}
use Rattle.dropping.proofs.Drops.{Idle}
use Rattle.dropping.proofs.Kept.{rank-all, filled-with, packed-at, first-false, first-all}
use Rattle.dropping.proofs.Needed.{moved_need, Stays, DropsNeeds, drops-gives, answers-give}
use Rattle.dropping.proofs.Thinned.{Thins, thinned-plain, renumbered-placed, thinned-admissible}
use Rattle.dropping.specs.Dropping.{kept, renumber, renumbered, lines_to, dropped_to, dropped, appended_unless_blank}
use Rattle.dropping.specs.Dropping.{named_in, hinders, first_hindered, hindrance, Droppable}
use Rattle.dropping.specs.Gives.{Gives}
use Rattle.dropping.specs.Kept.{rank, packed}

-- ---- an item more, a line more

pub dropped-none : (m : Model) → dropped_to m 0 0 ≡ with_capacity empty_model m.capacity
unfolding rank packed lines_to
dropped-none m = refl

pub rank-next : (m : Model) (k : ℕ) → rank (kept m) (suc k) ≡ cond (is_blank (item_at m k)) (rank (kept m) k) (suc (rank (kept m) k))
unfolding rank
rank-next m k = go (is_blank (item_at m k))
  where
    go : (b : Bool) → cond (not b) (suc (rank (kept m) k)) (rank (kept m) k) ≡ cond b (rank (kept m) k) (suc (rank (kept m) k))
    go true = refl
    go false = refl

pub dropped-next : (m : Model) (k : ℕ) → dropped_to m (suc k) 0 ≡ appended_unless_blank (dropped_to m k 0) (item_at m k)
unfolding rank packed
dropped-next m k = go (is_blank (item_at m k))
  where
    go : (b : Bool) → record {
      items = cond (not b) (set (packed no_item (kept m) (item_at m) k) (rank (kept m) k) (item_at m k)) (packed no_item (kept m) (item_at m) k);
      count = cond (not b) (suc (rank (kept m) k)) (rank (kept m) k);
      capacity = m.capacity;
      needs = (dropped_to m k 0).needs;
    } ≡ cond b (dropped_to m k 0) (appended (dropped_to m k 0) (item_at m k))
    go true = refl
    go false = refl

pub lines_next : (m : Model) (n t : ℕ) → with_need (dropped_to m n t) t (renumbered (kept m) (need_at m.needs t)) ≡ dropped_to m n (suc t)
unfolding lines_to
lines_next m n t = refl

-- ---- the search for a name

pub named_more : (t : ℕ) (f : ℕ → Need) (k : ℕ) → named_in t f k ≡ false → names_item (f t) k ≡ false → named_in (suc t) f k ≡ false
unfolding named_in
named_more t f k h e = rw h e

pub named-found : (t j : ℕ) (f : ℕ → Need) (k : ℕ) → j < t → names_item (f j) k ≡ true → named_in t f k ≡ true
unfolding named_in
named-found zero j f k l e = absurd (omega arith)
named-found (suc t) j f k l e = go (ℕ_discrete j t) (named_in t f k) refl (λ m. named-found t j f k m e)
  where
    go : Dec (j ≡ t) → (b : Bool) → named_in t f k ≡ b → (j < t → named_in t f k ≡ true) → cond (named_in t f k) true (names_item (f t) k) ≡ true
    go d true h ih = rw h
    go (yes d) false h ih = rw (h, ← d) e
    go (no d) false h ih = rw (ih (omega arith))

none_named : (t : ℕ) (f : ℕ → Need) (k j : ℕ) → named_in t f k ≡ false → j < t → ((f j).item ≡ k → ⊥) × ((f j).cover ≡ k → ⊥)
none_named t f k j h l = let n = neither (eqb (f j).item k) (eqb (f j).cover k) (go (names_item (f j) k) refl) in
    (eqb-false (f j).item k n.0, eqb-false (f j).cover k n.1)
  where
    go : (b : Bool) → names_item (f j) k ≡ b → names_item (f j) k ≡ false
    go true e = absurd (impossible (sym h ∙ named-found t j f k l e))
    go false e = e

-- ---- the search for a hindrance

pub droppable : (m : Model) → 1 ≤ m.count → m.count ≤ hindrance m → Droppable m
droppable m some h = go (eqb (rank (kept m) m.count) 0) refl h
  where
    clear : (b x : Bool) → b ≡ true → cond b x false ≡ false → x ≡ false
    clear true x e g = g
    clear false x e g = absurd (impossible e)

    free : m.count ≤ first_hindered m → (k : ℕ) → k < m.count → is_blank (item_at m k) ≡ true
        → (bounds_cross (item_at m k) ≡ false) × (named_in m.needs.count (need_at m.needs) (suc k) ≡ false)
    free e k l b = neither (bounds_cross (item_at m k)) (named_in m.needs.count (need_at m.needs) (suc k))
        (clear (is_blank (item_at m k)) _ b (first-false (hinders m) m.count 0 k (omega arith) (omega arith)))

    go : (b : Bool) → eqb (rank (kept m) m.count) 0 ≡ b → m.count ≤ cond b 0 (first_hindered m) → Droppable m
    go true e h = absurd (omega arith)
    go false e h = record {
      remains = omega (arith, eqb-false (rank (kept m) m.count) 0 e);
      uncrossed = λ k l b. (free h k l b).0;
      unnamed = λ k l b. (free h k l b).1;
    }

pub undisturbed : (m : Model) → Droppable m → hindrance m ≡ m.count
undisturbed m d =
    let some : rank (kept m) m.count ≡ 0 → ⊥ = λ z. omega (arith, z, d.remains) in
    let e = first-all (hinders m) m.count 0 (λ k l h. none k (omega arith) (is_blank (item_at m k)) refl) in
    rw (ne_eqb (rank (kept m) m.count) 0 some) (omega (arith, e))
  where
    none : (k : ℕ) → k < m.count → (b : Bool) → is_blank (item_at m k) ≡ b
        → cond b (cond (bounds_cross (item_at m k)) true (named_in m.needs.count (need_at m.needs) (suc k))) false ≡ false
    none k l true e = rw (d.uncrossed k l e, d.unnamed k l e)
    none k l false e = refl

-- ---- what stands in it

module _ (keep : ℕ → Bool) (l : List Need) where
  pub line-length : (t : ℕ) → length (lines_to keep l t) ≡ 16
  unfolding lines_to
  line-length zero = length-replicate 16 no_need
  line-length (suc t) = simp length-set (line-length t)

  line_at : (t j : ℕ) → t ≤ 16 → j < t → get_or (lines_to keep l t) j no_need ≡ renumbered keep (get_or l j no_need)
  unfolding lines_to
  line_at zero j few h = absurd (omega arith)
  line_at (suc t) j few h = go (ℕ_discrete j t) (λ o. line_at t j (omega arith) o)
    where
      new : Need
      new = renumbered keep (get_or l t no_need)

      go : Dec (j ≡ t) → (j < t → get_or (lines_to keep l t) j no_need ≡ renumbered keep (get_or l j no_need))
          → get_or (set (lines_to keep l t) t new) j no_need ≡ renumbered keep (get_or l j no_need)
      go (yes e) ih = rw e (get_or-set_same (lines_to keep l t) t new no_need (omega (arith, line-length t)))
      go (no e) ih = get_or-set_other (lines_to keep l t) t j new no_need e ∙ ih (omega arith)

  pub line-behind : (t j : ℕ) → t ≤ j → get_or (lines_to keep l t) j no_need ≡ no_need
  unfolding lines_to
  line-behind zero j h = filled-with 16 no_need j
  line-behind (suc t) j h =
      get_or-set_other (lines_to keep l t) t j (renumbered keep (get_or l t no_need)) no_need (λ r. omega arith) ∙ line-behind t j (omega arith)

pub not-true : (b : Bool) → not b ≡ true → b ≡ false
not-true true h = absurd (impossible h)
not-true false h = refl

not-kept : (b : Bool) → not b ≡ false → b ≡ true
not-kept true h = refl
not-kept false h = absurd (impossible (sym h))

-- the record as the solver's instance
abbrev asked : Sense → Model → Instance
asked sense m = instance_of (plain_of sense m)

module _ (m : Model) (a : AdmissibleBy blanks.Kept m) where
  -- the numbers of a line, for the code
  pub line-numbers : (j : ℕ) → j < m.needs.count → Numbers 16 (need_at m.needs j).item (need_at m.needs j).cover
  line-numbers j l =
      let n = (a.needs j l).numbers in
      record {
        first-least = n.first-least;
        first-most = omega (arith, n.first-most, (a.figures Sure).few-items);
        second-least = n.second-least;
        second-most = omega (arith, n.second-most, (a.figures Sure).few-items);
        different = n.different;
      }

  few : m.count ≤ 16
  few = (a.figures Sure).few-items

  pub dropped-item : (k : ℕ) → k < m.count → kept m k ≡ true → item_at (dropped m) (rank (kept m) k) ≡ item_at m k
  dropped-item k h e = packed-at (kept m) no_item (item_at m) m.count k few h e

  dropped-need : (j : ℕ) → j < m.needs.count → need_at (dropped m).needs j ≡ renumbered (kept m) (need_at m.needs j)
  dropped-need j l = line_at (kept m) m.needs.lines m.needs.count j a.few-needs l

  -- by places
  dropped_line : (j : ℕ) → j < m.needs.count → placed (need_at (dropped m).needs j) ≡ moved_need (kept m) (placed (need_at m.needs j))
  dropped_line j l = ap placed (dropped-need j l) ∙ renumbered-placed (kept m) (need_at m.needs j)

  -- ---- the answers

  module _ (d : Droppable m) where
    numbers : (j : ℕ) → j < m.needs.count → Numbers m.count (need_at m.needs j).item (need_at m.needs j).cover
    numbers j l = (a.needs j l).numbers

    -- an item that a need names is kept
    stays-kept : (k : ℕ) → 1 ≤ k → k ≤ m.count → (named_in m.needs.count (need_at m.needs) k ≡ false → ⊥) → kept m (k - 1) ≡ true
    stays-kept k low high named = go (is_blank (item_at m (k - 1))) refl
      where
        go : (b : Bool) → is_blank (item_at m (k - 1)) ≡ b → not b ≡ true
        go true e =
            let same : suc (k - 1) ≡ k = omega arith in
            absurd (named (rw same at (d.unnamed (k - 1) (omega arith) e)))
        go false e = refl

    line_stays : (j : ℕ) → j < m.needs.count → Stays (kept m) m.count (placed (need_at m.needs j))
    line_stays j l =
        let n = numbers j l in
        let t = m.needs.count in
        let f = need_at m.needs in
        record {
          item_in = omega (arith, n.first-least, n.first-most);
          item-kept = stays-kept (f j).item n.first-least n.first-most (λ h. (none_named t f (f j).item j h l).0 refl);
          cover-in = omega (arith, n.second-least, n.second-most);
          cover-kept = stays-kept (f j).cover n.second-least n.second-most (λ h. (none_named t f (f j).cover j h l).1 refl);
        }

    idle : (sense : Sense) (k : ℕ) → k < m.count → kept m k ≡ false → Idle (plain_item (plain_of sense m) k)
    idle sense k l e =
        let b = not-kept (is_blank (item_at m k)) e in
        let z = blank-nothing (item_at m k) b in
        subst Idle (sym (plain-item sense m k))
        (record { weightless = z.0 sense; worthless = z.1; ordered = order-in (item_at m k).lower (item_at m k).upper (d.uncrossed k l b) })

    thins : Thins (kept m) m (dropped m)
    thins = record {
      capacity = refl;
      count = refl;
      moved = dropped-item;
      few-lines = a.few-needs;
      source = λ j. j;
      source_in = λ j l. l;
      rising = λ j l. omega arith;
      stays = line_stays;
      line = dropped-need;
    }

    drops-blanks : (sense : Sense) → DropsNeeds (kept m) (asked sense m) (asked sense (dropped m)) (needs_of m.needs) (needs_of (dropped m).needs)
    drops-blanks sense = record {
      plain = record { capacity = refl; count = refl; moved = thinned-plain (kept m) m (dropped m) thins sense; idle = idle sense };
      stays = λ x i. let f = needs-from t (need_at m.needs) x i in rw f.1.1 (line_stays f.0 f.1.0);
      there = λ x i. let f = needs-from t (need_at m.needs) x i in
          rw (f.1.1, ← dropped_line f.0 f.1.0) (needs-in t (need_at (dropped m).needs) f.0 f.1.0);
      back = λ y i. let f = needs-from t (need_at (dropped m).needs) y i in
          (placed (need_at m.needs f.0), (needs-in t (need_at m.needs) f.0 f.1.0, f.1.1 ∙ dropped_line f.0 f.1.0));
    }
      where
        t : ℕ
        t = m.needs.count

    -- End theorem: the meaning gives the new record the kind and the value that it gives the old one.
    pub dropped-gives : (sense : Sense) (k : Kind) (v : Fraction) →
        Gives (asked sense m) (needs_of m.needs) k v ↔ Gives (asked sense (dropped m)) (needs_of (dropped m).needs) k v
    dropped-gives sense =
        drops-gives (kept m) (asked sense m) (asked sense (dropped m)) (needs_of m.needs) (needs_of (dropped m).needs) (drops-blanks sense)

    -- ---- it is accepted

    pub dropped-admissible : Admissible (dropped m)
    dropped-admissible =
        thinned-admissible (kept m) m (dropped m) thins blanks.Kept a d.remains (λ k l e. not-true (is_blank (item_at m k)) e)

    -- End theorem: what the planner replies to it.
    pub dropped-planned : (sense : Sense) (b : Answer) → Planned sense (dropped m) b → Gives (asked sense m) (needs_of m.needs) b.kind b.value
    dropped-planned sense b r =
        let ns = needs_of (dropped m).needs in
        let e : verdict (dropped m) ≡ (Ok tt) = admitted (dropped m) dropped-admissible in
        (dropped-gives sense b.kind b.value).1
        (answers-give (asked sense (dropped m)) ns b (subst (RepliesAs (asked sense (dropped m)) ns b) e r.replies))

-- End theorem: a record without blank items comes back as it is.
pub unblanked : (m : Model) → Admissible m → AdmissibleBy blanks.Kept m → Agree m (dropped m)
unblanked m full a = record {
  count = sym (rank-all (kept m) m.count all);
  capacity = refl;
  items = λ k l. sym (subst (λ j. item_at (dropped m) j ≡ item_at m k) (rank-all (kept m) k (λ i h. all i (omega arith))) (dropped-item m a k l (all k l)));
  need-count = refl;
  needs = λ j l. sym (dropped-need m a j l ∙ same (need_at m.needs j) (a.needs j l).numbers);
}
  where
    all : Each m.count (λ k. kept m k ≡ true)
    all k l = ap not (full.unbarred k l)

    own : (k : ℕ) → 1 ≤ k → k ≤ m.count → renumber (kept m) k ≡ k
    own k low high = omega (arith, rank-all (kept m) (k - 1) (λ i h. all i (omega arith)))

    same : (n : Need) → Numbers m.count n.item n.cover → renumbered (kept m) n ≡ n
    same n h =
        ap₂ {C = Need} (λ i c. record { item = i; cover = c })
        (own n.item h.first-least h.first-most)
        (own n.cover h.second-least h.second-most)

pub unblanked-free : (m : Model) → Admissible m → hindrance m ≡ m.count
unblanked-free m full =
    let n = rank-all (kept m) m.count (λ k l. ap not (full.unbarred k l)) in
    undisturbed m (record {
      remains = omega (arith, n, (full.figures Sure).some-items);
      uncrossed = λ k l e. absurd (impossible (sym (full.unbarred k l) ∙ e));
      unnamed = λ k l e. absurd (impossible (sym (full.unbarred k l) ∙ e));
    })
