-- The layout theorem: a sheet is accepted with a record exactly if it is that record's sheet.
--   Laid m b vi vl vu vn    the limit b, and the lines vi, vl, vu, vn of the sections items, lower, upper and needs, are those of the record m
-- laid-text: so its sheet is their text. laid-once: no other record has them. laid: the record that was made from them has them.
-- accepted-sheet: what is accepted is the printing of its record, which is in range, with its unused places blank and its unused lines of needs 0 0.
-- sheet-ends: a sheet read to its end has a line for each item behind the third.
-- sheet-accepted: the printing of a record in range is accepted, with that record.
-- accepted-exactly: both. sheet-unique: two records in range have equal sheets only if they are equal.
use mathlib.Core.Path.{◌≡◌, refl, sym, ap, ap₂, ◌∙◌, subst}
use mathlib.Core.Bool.{Bool, true, false, cond}
use mathlib.Core.Logic.{◌↔◌}
use mathlib.Core.List.{List, [], ◌∷◌, ◌++◌, append-nil}
use Prim.Native.Nat.{ℕ, suc, ◌+◌, ◌≤◌, ◌<◌}
use native.Mathlib.Omega.{arith}
use native.Mathlib.Decide.{dec_lt}
use borrow.Author.Tests.{le-ltb, ltb-false}
use lib.Dec.{ltb, lit<}
use lib.IntN.{ℤ}
use lib.ListN.{length, drop, drop_of_length-le, length-drop, replicate, length-replicate, get_or-replicate, get_or-eq_default}
use lib.Seq.{ext_get_or}
use Rattle.arith.specs.Sum.{Each}
use Rattle.std.specs.Prelude.{None}
use Rattle.std.specs.Prelude.{Ok, Err}
use Rattle.model.specs.declared.refusals.Reason.TheVariants as refusal
use Rattle.model.specs.declared.Blanks.{Blanks}
use Rattle.model.specs.declared.Model.{Model}
use Rattle.model.specs.declared.ModelItem.{ModelItem}
use Rattle.model.specs.declared.Need.{Need}
use Rattle.model.specs.declared.Needs.{Needs}
use Rattle.model.specs.declared.Side.{Side}
use Rattle.model.specs.declared.Side.TheVariants.{Lower, Upper}
use Rattle.model.specs.Needs.{no_need, no_needs}
use Rattle.model.specs.Records.{no_item, empty_model, item_at, need_at, outside, bad_figure, is_reversed, barred}
use Rattle.model.specs.Setters.{with_capacity, with_count, with_needs, with_need_count}
use Rattle.model.proofs.Records.{Unfaulted, unfaulted, unrefused}
use Rattle.text.specs.Decimal.{integer}
use Rattle.lines.specs.Places.{ends, refusal_on}
use Rattle.lines.specs.Layout.{heading_text, mark_byte, item_text, Bounding, bounding}
use Rattle.lines.proofs.Standing.{Has, has_join, Bytes}
use Rattle.lines.proofs.Rereading.{bare_of}
use Rattle.sheet.specs.declared.Progress.{Progress}
use Rattle.sheet.specs.declared.Reading.{Reading}
use Rattle.sheet.specs.Sections.{goes_on, refused_at, section_text}
use Rattle.sheet.specs.Reading.{limit, items, word_of, needs, limit_form, item_form_by, item_form, bound_form, need_form}
use Rattle.sheet.specs.Reading.{limit_section, items_section, bounds_section}
use Rattle.sheet.specs.Reading.{first_ranged, ranges_of}
use Rattle.sheet.specs.Reading.{needs_section, end_of_sheet, head_of, lower_of, upper_of, last_of, whole_of, read_sheet_by}
use Rattle.sheet.specs.Printing.{up_to, bound_at, bounding_at, side_text, needs_text, printing, Tidy, SheetOfBy}
use Rattle.sheet.proofs.Sections.{no-refusal, went, section-before, SectionRead, section-read, Fitting, Back, section-back}
use Rattle.sheet.proofs.Ranged.{ranged-none, none-ranged, unranged}
use Rattle.sheet.proofs.LineEnds.{ends-append, line-end, section-ends}
use Rattle.sheet.proofs.Forms.{LimitFits, limit-laws, Bare, barred-bare, bare-same, bare_of_lem, item-laws}
use Rattle.sheet.proofs.Forms.{BoundFits, bound-laws, fair-side, NeedFits, need-laws}
use Rattle.sheet.proofs.Making.{upto-length, upto-cong, upto-inj, texts-cong}
use Rattle.sheet.proofs.Making.{limited, Limited, limit-next, blanks, ItemsIn, items-next, items-fit}
use Rattle.sheet.proofs.Making.{Kept, kept_same, BoundsIn, bounds-number, bounds-next, bounds-fit}
use Rattle.sheet.proofs.Making.{NeedsIn, needs-number, needs-next, needs-fit}
use Rattle.sheet.proofs.Lengths.{printing-short}

-- ---- the lines of a record

-- an item by what its line has, and its bounds
same_item : (i j : ModelItem) → bare_of i ≡ bare_of j → i.lower ≡ j.lower → i.upper ≡ j.upper → i ≡ j
same_item i j e l u = ap (λ (k : ModelItem). record { mark = k.mark; low = k.low; high = k.high; price = k.price; lower = i.lower; upper = i.upper }) e ∙ rw (l, u)

same-needs : (m o : Needs) → m.lines ≡ o.lines → m.count ≡ o.count → m ≡ o
same-needs m o a b = let r : m ≡ record { lines = m.lines; count = m.count } = refl in r ∙ rw (a, b)

same-model : (m o : Model) → m.items ≡ o.items → m.count ≡ o.count → m.capacity ≡ o.capacity → m.needs ≡ o.needs → m ≡ o
same-model m o a b c d = let r : m ≡ record { items = m.items; count = m.count; capacity = m.capacity; needs = m.needs } = refl in r ∙ rw (a, b, c, d)

record Laid (m : Model) (b : ℤ) (vi : List ModelItem) (vl vu : List Bounding) (vn : List Need) : Type 0 where
  limit : m.capacity ≡ b
  items : up_to m.count (λ k. bare_of (item_at m k)) ≡ vi
  lower : up_to m.count (bounding_at Lower m) ≡ vl
  upper : up_to m.count (bounding_at Upper m) ≡ vu
  needs : up_to m.needs.count (need_at m.needs) ≡ vn
  tidy : Tidy m

-- the text of those lines
abbrev text_of : ℤ → List ModelItem → List Bounding → List Bounding → List Need → List ℕ
text_of b vi vl vu vn =
    section_text limit_form limit (b ∷ [])
    ++ (section_text item_form items vi
    ++ (section_text (bound_form Lower) (word_of Lower) vl
    ++ (section_text (bound_form Upper) (word_of Upper) vu
    ++ section_text need_form needs vn)))

laid-text : (m : Model) (b : ℤ) (vi : List ModelItem) (vl vu : List Bounding) (vn : List Need) → Laid m b vi vl vu vn → printing m ≡ text_of b vi vl vu vn
unfolding printing
laid-text m b vi vl vu vn l =
    rw (← l.limit, ← l.items, ← l.lower, ← l.upper, ← l.needs)
    (let n = m.count in
    let bare : ℕ → ModelItem = λ k. bare_of (item_at m k) in
    let h = ap (heading_text items) (upto-length n (item_at m) ∙ sym (upto-length n bare)) in
    let e = ap₂ ◌++◌ h (texts-cong item_text n (item_at m) bare (λ k l. refl)) in
    ap (λ t. section_text limit_form limit (m.capacity ∷ []) ++ (t ++ (side_text Lower m ++ (side_text Upper m ++ needs_text m)))) e)

laid-once : (m o : Model) (b : ℤ) (vi : List ModelItem) (vl vu : List Bounding) (vn : List Need) → Laid m b vi vl vu vn → Laid o b vi vl vu vn → m ≡ o
laid-once m o b vi vl vu vn x y =
    let n = sym (upto-length m.count (λ k. bare_of (item_at m k))) ∙ ap length x.items in
    let c : o.count ≡ m.count = sym (upto-length o.count (λ k. bare_of (item_at o k))) ∙ ap length y.items ∙ sym n in
    let i = upto-inj m.count _ _ (x.items ∙ sym (rw c at y.items)) in
    let l = upto-inj m.count _ _ (x.lower ∙ sym (rw c at y.lower)) in
    let u = upto-inj m.count _ _ (x.upper ∙ sym (rw c at y.upper)) in
    let e = ext_get_or no_item m.items o.items (x.tidy.places ∙ sym y.tidy.places) (λ k h. go k c i l u (dec_lt k m.count)) in
    let t : o.needs.count ≡ m.needs.count
    = sym (upto-length o.needs.count (need_at o.needs)) ∙ ap length (y.needs ∙ sym x.needs) ∙ upto-length m.needs.count (need_at m.needs) in
    let v = upto-inj m.needs.count _ _ (x.needs ∙ sym (rw t at y.needs)) in
    let d = ext_get_or no_need m.needs.lines o.needs.lines (x.tidy.lines ∙ sym y.tidy.lines) (λ j h. line j t v (dec_lt j m.needs.count)) in
    same-model m o e (sym c) (x.limit ∙ sym y.limit) (same-needs m.needs o.needs d (sym t))
  where
    line : (j : ℕ) → o.needs.count ≡ m.needs.count → Each m.needs.count (λ j. need_at m.needs j ≡ need_at o.needs j) →
        Dec (j < m.needs.count) → need_at m.needs j ≡ need_at o.needs j
    line j t v (yes h) = v j h
    line j t v (no h) = x.tidy.spare j (omega arith) ∙ sym (y.tidy.spare j (omega arith))

    go : (k : ℕ) → o.count ≡ m.count → Each m.count (λ k. bare_of (item_at m k) ≡ bare_of (item_at o k)) →
        Each m.count (λ k. bounding_at Lower m k ≡ bounding_at Lower o k) → Each m.count (λ k. bounding_at Upper m k ≡ bounding_at Upper o k) →
        Dec (k < m.count) → item_at m k ≡ item_at o k
    go k c i l u (yes h) = same_item (item_at m k) (item_at o k) (i k h) (ap (λ (b : Bounding). b.bound) (l k h)) (ap (λ (b : Bounding). b.bound) (u k h))
    go k c i l u (no h) = x.tidy.unused k (omega arith) ∙ sym (y.tidy.unused k (omega arith))

-- ---- the record that the sections made

-- before the first line of a section
limit-start : (n at : ℕ) → Limited n [] (goes_on empty_model at 0)
limit-start n at = record { is = refl; fair = λ b bs e. absurd (let z : ◌≡◌ {A = ℕ} 0 1 = cc in omega arith) }

items-start : (kind : Blanks) (m : Model) (b : ℤ) (n at : ℕ) → m ≡ with_capacity empty_model b → n ≤ 16 → ItemsIn kind b n [] (goes_on (with_count m n) at 0)
unfolding up_to
items-start kind m b n at e few =
    let empty = ap (λ (q : Model). q.items) e in
    record {
      listed = refl;
      bare = λ k l. absurd (omega arith);
      rest = λ k l. rw empty (blanks k);
      places = rw empty refl;
      count = refl;
      few = few;
      capacity = ap (λ (q : Model). q.capacity) e;
      needs = ap (λ (q : Model). q.needs) e;
    }

bounds-start : (side : Side) (o : Model) (n at : ℕ) → n ≡ o.count → o.count ≤ 16 → length o.items ≡ 16 →
    ((k : ℕ) → bound_at side o k ≡ None) → BoundsIn side o n [] (goes_on o at 0)
unfolding up_to
bounds-start side o n at all few size free = record {
  listed = refl;
  rest = λ k l. free k;
  fair = λ k. rw (free k) refl;
  all = all;
  few = few;
  places = size;
  count = refl;
  capacity = refl;
  needs = refl;
  same = λ k. kept_same side (item_at o k);
}

spares : (j : ℕ) → need_at no_needs j ≡ no_need
spares j = go (dec_lt j 16)
  where
    go : Dec (j < 16) → need_at no_needs j ≡ no_need
    go (yes l) = get_or-replicate 16 j no_need no_need l
    go (no l) = get_or-eq_default (replicate 16 no_need) no_need {n = j} (omega (arith, length-replicate 16 no_need))

needs-start : (o : Model) (n at : ℕ) → o.needs ≡ no_needs → n ≤ 16 → NeedsIn o n [] (goes_on (with_need_count o n) at 0)
unfolding up_to
needs-start o n at e few =
    let l : o.needs.lines ≡ replicate 16 no_need = ap (λ (q : Needs). q.lines) e in
    record {
      listed = refl;
      fair = λ j h. absurd (omega arith);
      rest = λ j h. rw l (spares j);
      lines = rw l refl;
      number = refl;
      few = few;
      items = refl;
      count = refl;
      capacity = refl;
    }

-- behind the last item
items-end : {kind : Blanks} (b : ℤ) (vs : List ModelItem) (p : Progress) → ItemsIn kind b (length vs) vs p → p.item ≡ p.model.count
items-end b vs p i = sym (upto-length p.item (item_at p.model)) ∙ ap length i.listed ∙ sym i.count

-- items that were just read have no bounds
no-bounds : {kind : Blanks} (side : Side) (b : ℤ) (vs : List ModelItem) (p : Progress) → ItemsIn kind b (length vs) vs p
    → (k : ℕ) → bound_at side p.model k ≡ None
no-bounds side b vs p i k = go side (dec_lt k p.item)
  where
    go : (side : Side) → Dec (k < p.item) → bound_at side p.model k ≡ None
    go Lower (yes l) = (i.bare k l).lower
    go Upper (yes l) = (i.bare k l).upper
    go Lower (no l) = ap (λ (i : ModelItem). i.lower) (i.rest k (omega arith))
    go Upper (no l) = ap (λ (i : ModelItem). i.upper) (i.rest k (omega arith))

kept-bare : (side : Side) (i j : ModelItem) → Kept side i j → bare_of j ≡ bare_of i
kept-bare side i j k = rw (k.mark, k.low, k.high, k.price)

-- behind the last bound
bounds-end : (side : Side) (o : Model) (vs : List Bounding) (p : Progress) → BoundsIn side o (length vs) vs p → p.item ≡ o.count
bounds-end side o vs p g = bounds-number side o (length vs) vs p g ∙ g.all

bounds-all : (side : Side) (o : Model) (vs : List Bounding) (p : Progress) → BoundsIn side o (length vs) vs p →
    up_to o.count (bounding_at side p.model) ≡ vs
bounds-all side o vs p g = ap (λ n. up_to n (bounding_at side p.model)) (sym (bounds-end side o vs p g)) ∙ g.listed

-- behind the last need
needs-end : (o : Model) (vs : List Need) (p : Progress) → NeedsIn o (length vs) vs p → p.item ≡ p.model.needs.count
needs-end o vs p g = needs-number o (length vs) vs p g ∙ sym g.number

module _ {kind : Blanks} (b : ℤ) (vi : List ModelItem) (vl vu : List Bounding) (vn : List Need) (h l u n : Progress) (i : ItemsIn kind b (length vi) vi h)
    (x : BoundsIn Lower h.model (length vl) vl l) (y : BoundsIn Upper l.model (length vu) vu u) (z : NeedsIn u.model (length vn) vn n) where
  -- the number of items
  counted : (u.model.count ≡ h.item) × (u.model.count ≡ l.model.count)
  counted = (y.count ∙ x.count ∙ sym (items-end b vi h i), y.count)

  -- an item keeps its mark and figures from the section of items on, and its lower bound from `lower` on
  bare-kept : (k : ℕ) → bare_of (item_at u.model k) ≡ bare_of (item_at h.model k)
  bare-kept k = kept-bare Upper _ _ (y.same k) ∙ kept-bare Lower _ _ (x.same k)

  lower-kept : (k : ℕ) → bound_at Lower u.model k ≡ bound_at Lower l.model k
  lower-kept k = (y.same k).other

  unused-item : (k : ℕ) → u.model.count ≤ k → item_at u.model k ≡ no_item
  unused-item k c =
      same_item (item_at u.model k) no_item
      (bare-kept k ∙ ap bare_of (i.rest k (omega (arith, counted.0))))
      (lower-kept k ∙ x.rest k (omega (arith, bounds-end Lower h.model vl l x, items-end b vi h i, counted.0)))
      (y.rest k (omega (arith, bounds-end Upper l.model vu u y, counted.1)))

  laid : Laid n.model b vi vl vu vn
  laid =
      let bare : ℕ → ModelItem = λ k. bare_of (item_at u.model k) in
      let many = counted.0 in
      let e = upto-cong h.item bare (item_at h.model) (λ k c. bare-kept k ∙ bare-same (item_at h.model k) (i.bare k c)) in
      let f = upto-cong h.model.count (bounding_at Lower u.model) (bounding_at Lower l.model) (λ k c. ap (bounding (suc k)) (lower-kept k)) in
      record {
        limit = z.capacity ∙ y.capacity ∙ x.capacity ∙ i.capacity;
        items = rw (z.count, z.items) (ap (λ k. up_to k bare) many ∙ e ∙ i.listed);
        lower = rw (z.count, z.items) (ap (λ k. up_to k (bounding_at Lower u.model)) (y.count ∙ x.count) ∙ f ∙ bounds-all Lower h.model vl l x);
        upper = rw (z.count, z.items) (ap (λ k. up_to k (bounding_at Upper u.model)) counted.1 ∙ bounds-all Upper l.model vu u y);
        needs = ap (λ k. up_to k (need_at n.model.needs)) (sym (needs-end u.model vn n z)) ∙ z.listed;
        tidy = record {
          places = ap length z.items ∙ y.places;
          unused = λ k c. rw z.items (unused-item k (omega (arith, z.count)));
          lines = z.lines;
          spare = λ j c. z.rest j (omega (arith, needs-end u.model vn n z));
        };
      }

  fair-figures : (k : ℕ) → k < u.model.count → bad_figure (item_at u.model k) ≡ false
  fair-figures k c =
      let a = i.bare k (omega (arith, counted.0)) in
      let p = y.same k in
      let q = x.same k in
      rw (p.low ∙ q.low, a.low, p.high ∙ q.high, a.high, p.price ∙ q.price, a.price, p.other, x.fair k, y.fair k)

  ordered : (k : ℕ) → k < u.model.count → is_reversed (item_at u.model k) ≡ false
  ordered k c = ap is_reversed (bare-kept k) ∙ (i.bare k (omega (arith, counted.0))).ordered

  unbarred : (k : ℕ) → k < u.model.count → barred kind (item_at u.model k) ≡ false
  unbarred k c =
      sym (barred-bare kind (item_at u.model k)) ∙ ap (barred kind) (bare-kept k) ∙ barred-bare kind (item_at h.model k)
      ∙ (i.bare k (omega (arith, counted.0))).unbarred

-- ---- what is accepted

pub record Ended (s : List ℕ) (p : Progress) : Type 0 where
  pub before : p.verdict ≡ Ok tt
  pub is : end_of_sheet s p ≡ p
  pub past : length s ≤ p.at

at-end : (s : List ℕ) (p : Progress) (t : Bool) → (cond t (refused_at s refusal.Form p.at) p).verdict ≡ Ok tt → t ≡ false
at-end s p true h = no-refusal h
at-end s p false h = refl

pub ended : (s : List ℕ) (p : Progress) → (end_of_sheet s p).verdict ≡ Ok tt → Ended s p
unfolding end_of_sheet
ended s p h =
    let w = went p _ h in
    let e = at-end s p (ltb p.at (length s)) w.after in
    record { before = w.before; is = w.is ∙ rw e; past = ltb-false p.at (length s) e }

abbrev limit-bytes : Bytes limit
limit-bytes = (lit< tt, (lit< tt, (lit< tt, (lit< tt, (lit< tt, tt)))))

abbrev items-bytes : Bytes items
items-bytes = (lit< tt, (lit< tt, (lit< tt, (lit< tt, (lit< tt, tt)))))

abbrev needs-bytes : Bytes needs
needs-bytes = (lit< tt, (lit< tt, (lit< tt, (lit< tt, (lit< tt, tt)))))

abbrev word_bytes : (side : Side) → Bytes (word_of side)
word_bytes Lower = (lit< tt, (lit< tt, (lit< tt, (lit< tt, (lit< tt, tt)))))
word_bytes Upper = (lit< tt, (lit< tt, (lit< tt, (lit< tt, (lit< tt, tt)))))

only : (vs : List ℤ) → 1 ≤ length vs → length vs ≤ 1 → (b : ℤ) × (vs ≡ b ∷ [])
only [] h l = absurd (omega arith)
only (b ∷ []) h l = (b, refl)
only (b ∷ c ∷ vs) h l = absurd (omega arith)

-- what was read of an accepted sheet
record Sections (kind : Blanks) (s : List ℕ) : Type 0 where
  limit : ℤ
  vi : List ModelItem
  vl : List Bounding
  vu : List Bounding
  vn : List Need
  fair : outside 100000000 limit ≡ false
  some : 1 ≤ length vi
  items : ItemsIn kind limit (length vi) vi (head_of kind s)
  lower : BoundsIn Lower (head_of kind s).model (length vl) vl (lower_of kind s)
  upper : BoundsIn Upper (lower_of kind s).model (length vu) vu (upper_of kind s)
  needs-read : NeedsIn (upper_of kind s).model (length vn) vn (last_of kind s)
  text : Has s 0 (text_of limit vi vl vu vn) (last_of kind s).at

side_before : (s : List ℕ) (side : Side) (p : Progress) → (bounds_section s side p).verdict ≡ Ok tt → p.verdict ≡ Ok tt
unfolding bounds_section
side_before s side p h = section-before (bound_form side) _ _ _ s p h

side-read : (s : List ℕ) (side : Side) (p : Progress) → p.model.count ≤ 16 → length p.model.items ≡ 16 →
    ((k : ℕ) → bound_at side p.model k ≡ None) → (bounds_section s side p).verdict ≡ Ok tt →
    SectionRead (bound_form side) (BoundsIn side p.model) (word_of side) s p.model.count p.model.count p.at (bounds_section s side p)
unfolding bounds_section
side-read s side p few size free h =
    let n = p.model.count in
    section-read (bound_form side) BoundFits (bound-laws side) (BoundsIn side p.model) (bounds-next side p.model) (word_of side) n n _
    s p (word_bytes side) (λ m at x y. bounds-start side p.model m at (omega arith) few size free) h

sections : (kind : Blanks) (s : List ℕ) → (last_of kind s).verdict ≡ Ok tt → Sections kind s
unfolding last_of needs_section upper_of lower_of head_of limit_section items_section
sections kind s g =
    let h = section-before need_form _ _ _ s (upper_of kind s) g in
    let hl = side_before s Upper (lower_of kind s) h in
    let hi = side_before s Lower (head_of kind s) hl in
    let hb = section-before (item_form_by kind) _ _ _ s (limit_section s) hi in
    let a = section-read limit_form LimitFits limit-laws Limited limit-next limit 1 1 _ s (goes_on empty_model 0 0) limit-bytes
    (λ n at x y. limit-start n at) hb in
    let o = only a.values a.least a.most in
    let b = o.0 in
    let is : (limit_section s).model ≡ with_capacity empty_model b = a.holds.is ∙ ap limited o.1 in
    let i =
    section-read (item_form_by kind) (λ p i. Bare kind i) (item-laws kind) (ItemsIn kind b) (items-next kind b) items 1 16 _ s (limit_section s) items-bytes
    (λ n at x y. items-start kind (limit_section s).model b n at is y) hi in
    let q = (head_of kind s).model in
    let free : (side : Side) (k : ℕ) → bound_at side q k ≡ None = λ side. no-bounds side b i.values (head_of kind s) i.holds in
    let few : q.count ≤ 16 = omega (arith, i.most, i.holds.count) in
    let x = side-read s Lower (head_of kind s) few i.holds.places (free Lower) hl in
    let y = side-read s Upper (lower_of kind s) (omega (arith, few, x.holds.count)) x.holds.places (λ k. (x.holds.same k).other ∙ free Upper k) h in
    let empty : (upper_of kind s).model.needs ≡ no_needs = y.holds.needs ∙ x.holds.needs ∙ i.holds.needs in
    let z =
    section-read need_form NeedFits need-laws (NeedsIn (upper_of kind s).model) (needs-next (upper_of kind s).model) needs 0 16 _ s (upper_of kind s)
    needs-bytes (λ n at u v. needs-start (upper_of kind s).model n at empty v) g in
    record {
      limit = b;
      vi = i.values;
      vl = x.values;
      vu = y.values;
      vn = z.values;
      fair = a.holds.fair b [] o.1;
      some = i.least;
      items = i.holds;
      lower = x.holds;
      upper = y.holds;
      needs-read = z.holds;
      text = has_join (rw o.1 at a.text) (has_join i.text (has_join x.text (has_join y.text z.text)));
    }

-- behind the limit's two lines and the heading of the items there is a line for each item
pub sheet-ends : (kind : Blanks) (s : List ℕ) → (last_of kind s).verdict ≡ Ok tt → 3 + (last_of kind s).model.count ≤ ends s
sheet-ends kind s h =
    let r = sections kind s h in
    let first = section_text limit_form limit (r.limit ∷ []) in
    let second = section_text item_form items r.vi in
    let others = section_text (bound_form Lower) (word_of Lower) r.vl ++ (section_text (bound_form Upper) (word_of Upper) r.vu
    ++ section_text need_form needs r.vn) in
    let many : (last_of kind s).model.count ≡ length r.vi = r.needs-read.count ∙ r.upper.count ∙ r.lower.count ∙ r.items.count in
    let all = ap ends r.text.has ∙ ends-append (first ++ (second ++ others)) (drop (last_of kind s).at s) in
    omega (
      arith,
      all,
      ends-append first (second ++ others),
      ends-append second others,
      section-ends limit_form (λ b. line-end (integer b) []) limit (r.limit ∷ []),
      section-ends item_form (λ i. line-end (mark_byte i.mark ∷ []) (integer i.low ∷ integer i.high ∷ integer i.price ∷ [])) items r.vi,
      many,
    )

found-sheet : (kind : Blanks) (s : List ℕ) → Ended s (last_of kind s) →
    first_ranged (last_of kind s).model.count (item_at (last_of kind s).model) ≡ 0 → SheetOfBy kind s (last_of kind s).model
found-sheet kind s t none =
    let r = sections kind s t.before in
    let m = (last_of kind s).model in
    let z = r.needs-read in
    let l =
    laid r.limit r.vi r.vl r.vu r.vn (head_of kind s) (lower_of kind s) (upper_of kind s) (last_of kind s)
    r.items r.lower r.upper z in
    let c =
    (counted r.limit r.vi r.vl r.vu r.vn (head_of kind s) (lower_of kind s) (upper_of kind s) (last_of kind s)
    r.items r.lower r.upper z).0 in
    let f =
    fair-figures r.limit r.vi r.vl r.vu r.vn (head_of kind s) (lower_of kind s) (upper_of kind s) (last_of kind s)
    r.items r.lower r.upper z in
    let b =
    unbarred r.limit r.vi r.vl r.vu r.vn (head_of kind s) (lower_of kind s) (upper_of kind s) (last_of kind s)
    r.items r.lower r.upper z in
    let o =
    ordered r.limit r.vi r.vl r.vu r.vn (head_of kind s) (lower_of kind s) (upper_of kind s) (last_of kind s)
    r.items r.lower r.upper z in
    let n = items-end r.limit r.vi (head_of kind s) r.items in
    let e = needs-end (upper_of kind s).model r.vn (last_of kind s) z in
    record {
      fair = unrefused m (record {
        least = omega (arith, r.some, r.items.count, z.count);
        most = omega (arith, r.items.few, r.items.count, z.count);
        capacity = rw l.limit r.fair;
        figures = λ k h. rw z.items (f k (omega (arith, z.count)));
        ordered = λ k h. rw z.items (o k (omega (arith, z.count)));
        unbarred = λ k h. rw z.items (b k (omega (arith, z.count)));
        few-needs = omega (arith, z.number, z.few);
        needs = λ j h. rw (z.count, z.items) (z.fair j (omega (arith, e)));
        ranged = ranged-none (item_at m) m.count none;
      });
      tidy = l.tidy;
      text = r.text.has ∙ rw (drop_of_length-le s t.past) (append-nil _) ∙ sym (laid-text m r.limit r.vi r.vl r.vu r.vn l);
    }

-- what is accepted with a record is that record's sheet
pub accepted-sheet : {kind : Blanks} (s : List ℕ) (m : Model) → read_sheet_by kind s ≡ record { verdict = Ok tt; model = m } → SheetOfBy kind s m
unfolding read_sheet_by whole_of
accepted-sheet {kind} s m h = go (ltb 4096 (length s)) h
  where
    go : (t : Bool) →
        ◌≡◌ {A = Reading}
        (cond t
        (record { verdict = Err (refusal_on refusal.Overlong 0); model = empty_model })
        (record { verdict = (whole_of kind s).verdict; model = (whole_of kind s).model }))
        (record { verdict = Ok tt; model = m }) →
        SheetOfBy kind s m
    go true h = no-refusal (ap (λ (r : Reading). r.verdict) h)
    go false h =
        let u = unranged (end_of_sheet s (last_of kind s)) (ap (λ (r : Reading). r.verdict) h) in
        let t = ended s (last_of kind s) u.before in
        let e : (last_of kind s).model ≡ m = ap (λ (q : Progress). q.model) (sym (u.is ∙ t.is)) ∙ ap (λ (r : Reading). r.model) h in
        let none = subst (λ (q : Progress). first_ranged q.model.count (item_at q.model) ≡ 0) t.is u.none in
        rw (← e) (found-sheet kind s t none)

-- ---- the printing of a record is read back

module _ (kind : Blanks) (m : Model) (r : Unfaulted kind m) (tidy : Tidy m) where
  vi : List ModelItem
  vi = up_to m.count (λ k. bare_of (item_at m k))

  vl : List Bounding
  vl = up_to m.count (bounding_at Lower m)

  vu : List Bounding
  vu = up_to m.count (bounding_at Upper m)

  vn : List Need
  vn = up_to m.needs.count (need_at m.needs)

  own : Laid m m.capacity vi vl vu vn
  unfolding vi vl vu vn
  own = record { limit = refl; items = refl; lower = refl; upper = refl; needs = refl; tidy = tidy }

  sheet : List ℕ
  sheet = text_of m.capacity vi vl vu vn

  -- the text left behind each section
  needs-left : List ℕ
  needs-left = section_text need_form needs vn

  upper-left : List ℕ
  upper-left = section_text (bound_form Upper) (word_of Upper) vu ++ needs-left

  lower-left : List ℕ
  lower-left = section_text (bound_form Lower) (word_of Lower) vl ++ upper-left

  many : length vi ≡ m.count
  unfolding vi
  many = upto-length m.count (λ k. bare_of (item_at m k))

  limit-back : Back (Limited 1) sheet (section_text item_form items vi ++ lower-left) (m.capacity ∷ []) (limit_section sheet)
  unfolding limit_section sheet lower-left upper-left needs-left
  limit-back =
      section-back limit_form LimitFits limit-laws Limited limit-next limit 1 1 _ sheet _ (goes_on empty_model 0 0) (m.capacity ∷ [])
      (omega arith) (omega arith) (limit-start 1) ((λ p i. r.capacity), tt) refl refl

  items-fits : Fitting (ItemsIn kind m.capacity (length vi)) (λ p i. Bare kind i) vi
  unfolding vi
  items-fits =
      items-fit kind m.capacity (length vi) m.count (λ k. bare_of (item_at m k))
      (λ k l. bare_of_lem kind (item_at m k) (r.figures k l) (r.ordered k l) (r.unbarred k l))

  items_back : Back (ItemsIn kind m.capacity (length vi)) sheet lower-left vi (head_of kind sheet)
  unfolding head_of items_section
  items_back =
      let l = limit-back in
      let few : length vi ≤ 16 = omega (arith, many, r.most) in
      let o = (limit_section sheet).model in
      let first : (at : ℕ) → ItemsIn kind m.capacity (length vi) [] (goes_on (with_count o (length vi)) at 0)
      = λ at. items-start kind o m.capacity (length vi) at l.holds.is few in
      section-back (item_form_by kind) (λ p i. Bare kind i) (item-laws kind) (ItemsIn kind m.capacity) (items-next kind m.capacity) items 1 16 _
      sheet lower-left
      (limit_section sheet) vi (omega (arith, many, r.least)) few first items-fits l.accepted l.left

  -- the record that the items made
  bare : Model
  bare = (head_of kind sheet).model

  bare-count : bare.count ≡ m.count
  unfolding bare
  bare-count = items_back.holds.count ∙ many

  -- a section of bounds, where none of its side have been read
  side-back : (side : Side) (l : List ℕ) (p : Progress) → p.verdict ≡ Ok tt → p.model.count ≡ m.count → length p.model.items ≡ 16 →
      ((k : ℕ) → bound_at side p.model k ≡ None) → let vs = up_to m.count (bounding_at side m) in
      drop p.at sheet ≡ section_text (bound_form side) (word_of side) vs ++ l →
      Back (BoundsIn side p.model (length vs)) sheet l vs (bounds_section sheet side p)
  unfolding bounds_section
  side-back side l p v c size free h =
      let n = p.model.count in
      let vs = up_to m.count (bounding_at side m) in
      let all : length vs ≡ n = upto-length m.count (bounding_at side m) ∙ sym c in
      let first : (at : ℕ) → BoundsIn side p.model (length vs) [] (goes_on p.model at 0)
      = λ at. bounds-start side p.model (length vs) at all (omega (arith, c, r.most)) size free in
      let fits = bounds-fit side p.model (length vs) m.count m (λ k j. fair-side side (item_at m k) (r.figures k j)) in
      section-back (bound_form side) BoundFits (bound-laws side) (BoundsIn side p.model) (bounds-next side p.model) (word_of side) n n _
      sheet l p vs (omega (arith, all)) (omega (arith, all)) first fits v h

  lower-back : Back (BoundsIn Lower bare (length vl)) sheet upper-left vl (lower_of kind sheet)
  unfolding lower_of bare vl lower-left
  lower-back =
      let i = items_back in
      let free = no-bounds Lower m.capacity vi (head_of kind sheet) i.holds in
      side-back Lower upper-left (head_of kind sheet) i.accepted bare-count i.holds.places free i.left

  upper-back : Back (BoundsIn Upper (lower_of kind sheet).model (length vu)) sheet needs-left vu (upper_of kind sheet)
  unfolding upper_of bare vu upper-left
  upper-back =
      let l = lower-back in
      let free : (k : ℕ) → bound_at Upper (lower_of kind sheet).model k ≡ None
      = λ k. (l.holds.same k).other ∙ no-bounds Upper m.capacity vi (head_of kind sheet) items_back.holds k in
      side-back Upper needs-left (lower_of kind sheet) l.accepted (l.holds.count ∙ bare-count) l.holds.places free l.left

  -- the record that the bounds made: m but for its needs
  bounded : Model
  bounded = (upper_of kind sheet).model

  bounded-empty : bounded.needs ≡ no_needs
  unfolding bounded bare
  bounded-empty = upper-back.holds.needs ∙ lower-back.holds.needs ∙ items_back.holds.needs

  -- its items are those of m: the record with no needs has the lines of m with no needs
  bare-own : Laid (with_needs m no_needs) m.capacity vi vl vu []
  unfolding vi vl vu up_to
  bare-own = record {
    limit = refl;
    items = refl;
    lower = refl;
    upper = refl;
    needs = refl;
    tidy = record { places = tidy.places; unused = tidy.unused; lines = refl; spare = λ j h. spares j };
  }

  bounded-is : bounded ≡ with_needs m no_needs
  unfolding bounded bare
  bounded-is =
      let p = goes_on (with_need_count bounded 0) 0 0 in
      let z : NeedsIn bounded 0 [] p = needs-start bounded 0 0 bounded-empty (omega arith) in
      let l =
      laid m.capacity vi vl vu [] (head_of kind sheet) (lower_of kind sheet) (upper_of kind sheet) p
      items_back.holds lower-back.holds upper-back.holds z in
      let e : with_need_count bounded 0 ≡ with_needs m no_needs = laid-once (with_need_count bounded 0) (with_needs m no_needs) m.capacity vi vl vu [] l bare-own in
      let u : bounded ≡ with_need_count bounded 0 = same-model bounded (with_need_count bounded 0) refl refl refl (bounded-empty ∙ sym (rw bounded-empty refl)) in
      u ∙ e

  few-needs : length vn ≤ 16
  unfolding vn
  few-needs = omega (arith, upto-length m.needs.count (need_at m.needs), r.few-needs)

  needs-fits : Fitting (NeedsIn bounded (length vn)) NeedFits vn
  unfolding vn
  needs-fits = needs-fit bounded (length vn) m.needs.count m.needs (λ j l. rw bounded-is (r.needs j l))

  last-back : Back (NeedsIn bounded (length vn)) sheet [] vn (last_of kind sheet)
  unfolding last_of needs_section bounded needs-left
  last-back =
      let u = upper-back in
      section-back need_form NeedFits need-laws (NeedsIn bounded) (needs-next bounded) needs 0 16 _ sheet [] (upper_of kind sheet) vn
      (omega arith) few-needs (λ at. needs-start bounded (length vn) at bounded-empty few-needs) needs-fits u.accepted (u.left ∙ sym (append-nil _))

  model-back : (last_of kind sheet).model ≡ m
  unfolding bare bounded
  model-back =
      let l =
      laid m.capacity vi vl vu vn (head_of kind sheet) (lower_of kind sheet) (upper_of kind sheet) (last_of kind sheet) items_back.holds lower-back.holds
      upper-back.holds last-back.holds in
      laid-once (last_of kind sheet).model m m.capacity vi vl vu vn l own

  end_back : end_of_sheet sheet (last_of kind sheet) ≡ last_of kind sheet
  unfolding end_of_sheet
  end_back =
      let u = last-back in
      let l : length sheet ≤ (last_of kind sheet).at = omega (arith, ap length u.left, length-drop (last_of kind sheet).at sheet) in
      rw (u.accepted, le-ltb (last_of kind sheet).at (length sheet) l)

  whole_back : whole_of kind sheet ≡ last_of kind sheet
  unfolding whole_of ranges_of
  whole_back =
      let none : first_ranged (last_of kind sheet).model.count (item_at (last_of kind sheet).model) ≡ 0 =
      rw model-back (none-ranged (item_at m) m.count r.ranged) in
      rw (end_back, last-back.accepted, none)

  text-is : printing m ≡ sheet
  unfolding sheet
  text-is = laid-text m m.capacity vi vl vu vn own

  reading-back : read_sheet_by kind (printing m) ≡ record { verdict = Ok tt; model = m }
  unfolding read_sheet_by
  reading-back =
      let short : length sheet ≤ 4096 = omega (arith, printing-short m r, ap length text-is) in
      rw (text-is, le-ltb 4096 (length sheet) short, whole_back, last-back.accepted, model-back)

-- the sheet of a record is accepted with that record
pub sheet-accepted : {kind : Blanks} (s : List ℕ) (m : Model) → SheetOfBy kind s m → read_sheet_by kind s ≡ record { verdict = Ok tt; model = m }
sheet-accepted {kind} s m h = rw h.text (reading-back kind m (unfaulted m h.fair) h.tidy)

-- End theorem: a sheet is accepted with a record exactly if it is that record's sheet.
pub accepted-exactly : (kind : Blanks) (s : List ℕ) (m : Model) → (read_sheet_by kind s ≡ record { verdict = Ok tt; model = m }) ↔ SheetOfBy kind s m
accepted-exactly kind s m = (accepted-sheet s m, sheet-accepted s m)

-- End theorem: two records in range have equal sheets only if they are equal.
pub sheet-unique : {kind : Blanks} (s : List ℕ) (m o : Model) → SheetOfBy kind s m → SheetOfBy kind s o → m ≡ o
sheet-unique s m o h k = ap (λ (r : Reading). r.model) (sym (sheet-accepted s m h) ∙ sheet-accepted s o k)
