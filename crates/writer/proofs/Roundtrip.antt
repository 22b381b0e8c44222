-- What the writer is for. Paper 02, request 1: "Reading the sheet gives that problem again, and writing what was read gives the very bytes.
-- Two problems have equal sheets only if they are equal." A problem is a record's counts, capacity, first items and first lines of needs
-- (Agree): no entry looks at the places beyond the counts, and no sheet shows them.
--   written_read    reading what was written gives that problem, its unused places as the reader fills them
--   read-written    writing what was read gives the very bytes, and the record is one that is written
--   equal-sheets    two accepted problems have equal sheets only if they agree
--   Sized m         the record has 16 places and 16 lines of needs, as every record that is handed over
-- agree-text: records that agree have one sheet. agree-accepted: and are accepted together. tidied-agrees: so does the reader's record.
use mathlib.Core.Path.{◌≡◌, refl, sym, ap, ap₂, ◌∙◌}
use mathlib.Core.List.{List, [], ◌∷◌, ◌++◌}
use Prim.Native.Nat.{ℕ, suc, ◌+◌, ◌-◌, ◌≤◌, ◌<◌}
use native.Mathlib.Omega.{arith}
use native.Mathlib.Decide.{dec_lt}
use lib.ListN.{length, take, get_or, replicate, length-append, length-replicate, get_or-replicate, get_or-append, get_or-eq_default}
use lib.Seq.{length-take-le, get_or-take, get_or-append-add}
use Rattle.std.specs.Prelude.{Ok}
use Rattle.model.specs.declared.Blanks.TheVariants as blanks
use Rattle.model.specs.declared.Model.{Model}
use Rattle.model.specs.declared.Side.{Side}
use Rattle.model.specs.declared.Side.TheVariants.{Lower, Upper}
use Rattle.model.specs.Needs.{no_need}
use Rattle.model.specs.Records.{no_item, item_at, need_at, verdict, Agree}
use Rattle.model.proofs.BeyondCount.{beyond-verdict}
use Rattle.model.proofs.Records.{unfaulted}
use Rattle.lines.specs.Layout.{bounding}
use Rattle.sheet.specs.Sections.{section_text}
use Rattle.sheet.specs.Reading.{limit, items, word_of, needs, limit_form, item_form, bound_form, need_form, read_sheet}
use Rattle.sheet.specs.Printing.{up_to, side_of, bounding_at, side_text, needs_text, printing, Tidy, SheetOf}
use Rattle.sheet.proofs.Making.{upto-cong}
use Rattle.sheet.proofs.Sheets.{accepted-sheet, sheet-accepted, sheet-unique}
use Rattle.writer.specs.Writing.{tidied}

-- ---- records that agree

agree-side : (side : Side) (m o : Model) → Agree m o → side_text side m ≡ side_text side o
agree-side side m o a =
    let e = upto-cong m.count (bounding_at side m) (bounding_at side o) (λ k l. ap (λ i. bounding (suc k) (side_of side i)) (a.items k l)) in
    ap (section_text (bound_form side) (word_of side)) (e ∙ ap (λ n. up_to n (bounding_at side o)) a.count)

agree-needs : (m o : Model) → Agree m o → needs_text m ≡ needs_text o
agree-needs m o a =
    let e = upto-cong m.needs.count (need_at m.needs) (need_at o.needs) a.needs in
    ap (section_text need_form needs) (e ∙ ap (λ n. up_to n (need_at o.needs)) a.need-count)

pub agree-text : (m o : Model) → Agree m o → printing m ≡ printing o
unfolding printing
agree-text m o a =
    let i = upto-cong m.count (item_at m) (item_at o) a.items ∙ ap (λ n. up_to n (item_at o)) a.count in
    ap₂ ◌++◌ (ap (λ b. section_text limit_form limit (b ∷ [])) a.capacity)
    (ap₂ ◌++◌ (ap (section_text item_form items) i) (ap₂ ◌++◌ (agree-side Lower m o a) (ap₂ ◌++◌ (agree-side Upper m o a) (agree-needs m o a))))

pub agree-accepted : (m o : Model) → Agree m o → verdict m ≡ Ok tt → verdict o ≡ Ok tt
agree-accepted m o a h = sym (beyond-verdict m o a blanks.Refused) ∙ h

-- ---- the record as the reader fills it

-- a list of 16 with its first n kept and the rest filled by d
module _ {A : Type 0} (l : List A) (d : A) (n : ℕ) (size : length l ≡ 16) (few : n ≤ 16) where
  abbrev kept : List A
  kept = take n l ++ replicate (16 - n) d

  used : length (take n l) ≡ n
  used = length-take-le n l (omega (arith, size, few))

  fills : (m k : ℕ) → get_or (replicate m d) k d ≡ d
  fills m k = go (dec_lt k m)
    where
      go : Dec (k < m) → get_or (replicate m d) k d ≡ d
      go (yes h) = get_or-replicate m k d d h
      go (no h) = get_or-eq_default (replicate m d) d {n = k} (omega (arith, length-replicate m d))

  kept_same : (k : ℕ) → k < n → get_or l k d ≡ get_or kept k d
  kept_same k h = sym (get_or-append (take n l) (replicate (16 - n) d) d k (omega (arith, used)) ∙ get_or-take n l k d h)

  kept-rest : (k : ℕ) → n ≤ k → get_or kept k d ≡ d
  kept-rest k h =
      let e : k ≡ length (take n l) + (k - n) = omega (arith, used) in
      ap (λ j. get_or kept j d) e ∙ get_or-append-add (take n l) (replicate (16 - n) d) (k - n) d ∙ fills (16 - n) (k - n)

  kept-length : length kept ≡ 16
  kept-length = length-append (take n l) (replicate (16 - n) d) ∙ ap₂ ◌+◌ used (length-replicate (16 - n) d) ∙ omega arith

-- a record as it is handed over has 16 places and 16 lines of needs
pub record Sized (m : Model) : Type 0 where
  pub places : length m.items ≡ 16
  pub lines : length m.needs.lines ≡ 16

module _ (m : Model) (size : Sized m) (h : verdict m ≡ Ok tt) where
  pub tidied-agrees : Agree m (tidied m)
  tidied-agrees = record {
    count = refl;
    capacity = refl;
    items = kept_same m.items no_item m.count size.places (unfaulted m h).most;
    need-count = refl;
    needs = kept_same m.needs.lines no_need m.needs.count size.lines (unfaulted m h).few-needs;
  }

  pub tidied-tidy : Tidy (tidied m)
  tidied-tidy = record {
    places = kept-length m.items no_item m.count size.places (unfaulted m h).most;
    unused = kept-rest m.items no_item m.count size.places (unfaulted m h).most;
    lines = kept-length m.needs.lines no_need m.needs.count size.lines (unfaulted m h).few-needs;
    spare = kept-rest m.needs.lines no_need m.needs.count size.lines (unfaulted m h).few-needs;
  }

-- the sheet of an accepted record is that of the reader's
tidied-sheet : (m : Model) → Sized m → verdict m ≡ Ok tt → SheetOf (printing m) (tidied m)
tidied-sheet m size h =
    let a = tidied-agrees m size h in
    record { fair = agree-accepted m (tidied m) a h; tidy = tidied-tidy m size h; text = agree-text m (tidied m) a }

-- ---- both ways

-- End theorem: reading what was written gives that problem.
pub written_read : (m : Model) → Sized m → verdict m ≡ Ok tt → read_sheet (printing m) ≡ record { verdict = Ok tt; model = tidied m }
written_read m size h = sheet-accepted (printing m) (tidied m) (tidied-sheet m size h)

-- End theorem: writing what was read gives the very bytes.
pub read-written : (s : List ℕ) (m : Model) → read_sheet s ≡ record { verdict = Ok tt; model = m } → (verdict m ≡ Ok tt) × (printing m ≡ s)
read-written s m h = let t = accepted-sheet s m h in (t.fair, sym t.text)

-- End theorem: two accepted problems have equal sheets only if they agree.
pub equal-sheets : (m o : Model) → Sized m → Sized o → verdict m ≡ Ok tt → verdict o ≡ Ok tt →
    printing m ≡ printing o → Agree m o
equal-sheets m o size other h g e =
    let t = tidied-sheet o other g in
    let same : tidied m ≡ tidied o = sheet-unique (printing m) (tidied m) (tidied o) (tidied-sheet m size h) (rw e t) in
    let a = tidied-agrees m size h in
    let b = tidied-agrees o other g in
    let n : m.count ≡ o.count = ap (λ (p : Model). p.count) same in
    let t-count : m.needs.count ≡ o.needs.count = ap (λ (p : Model). p.needs.count) same in
    record {
      count = n;
      capacity = ap (λ (p : Model). p.capacity) same;
      items = λ k l. a.items k l ∙ ap (λ p. item_at p k) same ∙ sym (b.items k (omega (arith, n)));
      need-count = t-count;
      needs = λ j l. a.needs j l ∙ ap (λ (p : Model). need_at p.needs j) same ∙ sym (b.needs j (omega (arith, t-count)));
    }
