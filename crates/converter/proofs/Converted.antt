-- What a converted sheet is.
--   asked sense m    the record as the solver's instance in a sense
-- unhindered, written: where 15 is not told, the blank items can be left out, and what remains is accepted. dropped-tidy: and is as the reader leaves it.
-- converted-fair, converted-short, converted-read: a converted sheet is that of an accepted record, at most so long, and is read as that record.
-- converted-gives: the meaning gives it the kind and the value that it gives the old one. converted-replies: so the planner's reply to it shows them.
-- unblanked-sheet: a sheet that the reader accepts comes back as it is.
use mathlib.Core.Bool.{Bool, true, false, cond}
use mathlib.Core.List.{List}
use mathlib.Core.Logic.{◌↔◌}
use mathlib.Core.Path.{◌≡◌, refl, sym, ap, ◌∙◌, subst}
use Prim.Native.Nat.{ℕ, ◌+◌, ◌≤◌}
use native.Mathlib.Omega.{arith}
use borrow.Author.Tests.{ltb-false, le-ltb}
use lib.Dec.{ltb}
use lib.ListN.{length}
use Rattle.arith.specs.declared.Fraction.{Fraction}
use Rattle.knapsack.specs.Meaning.{Instance, instance_of}
use Rattle.knapsack.specs.declared.Answer.{Answer}
use Rattle.knapsack.specs.declared.Kind.{Kind}
use Rattle.knapsack.specs.Verdicts.{Verdict}
use Rattle.std.specs.Prelude.{Ok, Err}
use Rattle.model.specs.declared.Blanks.TheVariants as blanks
use Rattle.model.specs.declared.Model.{Model}
use Rattle.model.specs.declared.Sense.{Sense}
use Rattle.model.specs.declared.Sense.TheVariants.{Sure}
use Rattle.model.specs.Promises.{Planned}
use Rattle.model.specs.Records.{no_item, item_at, plain_of, needs_of, verdict, AdmissibleBy, Admissible}
use Rattle.model.specs.declared.refusals.Reason.TheVariants as refusal
use Rattle.model.proofs.Records.{unfaulted, accepted, admitted, both-accept}
use Rattle.lines.specs.Places.{refusal_on}
use Rattle.sheet.specs.declared.Reading.{Reading}
use Rattle.sheet.specs.Printing.{Tidy}
use Rattle.sheet.specs.Reading.{read_sheet}
use Rattle.sheet.proofs.Lengths.{printing-short}
use Rattle.sheet.proofs.Sections.{no-refusal}
use Rattle.sheet.proofs.Sheets.{accepted-sheet, sheet-accepted}
use Rattle.writer.proofs.Roundtrip.{agree-text}
use Rattle.dropping.specs.Dropping.{kept, dropped, hindrance, Droppable}
use Rattle.dropping.specs.Gives.{Gives}
use Rattle.dropping.proofs.Dropped.{droppable, line-length, line-behind, dropped-admissible, dropped-gives, dropped-planned, unblanked, unblanked-free}
use Rattle.dropping.proofs.Kept.{length-packed, packed-behind}
use Rattle.converter.specs.Converting.{kept_reading, hindered, convertible, converted}

abbrev asked : Sense → Model → Instance
asked sense m = instance_of (plain_of sense m)

-- ---- the record that is written

unhindered : (m : Model) → AdmissibleBy blanks.Kept m → hindered m ≡ Ok tt → Droppable m
unhindered m a h = droppable m (a.figures Sure).some-items (go (ltb (hindrance m) m.count) refl h)
  where
    go : (b : Bool) → ltb (hindrance m) m.count ≡ b → cond {A = Verdict} b (Err (refusal_on refusal.BlankItem (hindrance m + 4))) (Ok tt) ≡ Ok tt
        → m.count ≤ hindrance m
    go true e h = no-refusal h
    go false e h = ltb-false (hindrance m) m.count e

written : (m : Model) → AdmissibleBy blanks.Kept m → hindered m ≡ Ok tt → verdict (dropped m) ≡ Ok tt
written m a h = admitted (dropped m) (dropped-admissible m a (unhindered m a h))

-- unused places are as the reader leaves them
dropped-tidy : (m : Model) → Tidy (dropped m)
dropped-tidy m = record {
  places = length-packed (kept m) no_item (item_at m) m.count;
  unused = packed-behind (kept m) no_item (item_at m) m.count;
  lines = line-length (kept m) m.needs.lines m.needs.count;
  spare = line-behind (kept m) m.needs.lines m.needs.count;
}

-- ---- the sheet

module _ (s : List ℕ) (h : convertible s ≡ Ok tt) where
  abbrev old : Model
  old = (kept_reading s).model

  parts : ((kept_reading s).verdict ≡ Ok tt) × (hindered old ≡ Ok tt)
  parts = both-accept (kept_reading s).verdict (hindered old) h

  old-admissible : AdmissibleBy blanks.Kept old
  old-admissible = accepted old (accepted-sheet s old (ap (λ (v : Verdict). record { verdict = v; model = old }) parts.0)).fair

  pub converted-fair : verdict (dropped old) ≡ Ok tt
  converted-fair = written old old-admissible parts.1

  -- End theorem: it is at most so long, so a buffer of `room` bytes is never too short.
  pub converted-short : length (converted s) ≤ 1451
  converted-short = printing-short (dropped old) (unfaulted (dropped old) converted-fair)

  -- End theorem: the reader reads a converted sheet.
  pub converted-read : read_sheet (converted s) ≡ record { verdict = Ok tt; model = dropped old }
  converted-read = sheet-accepted (converted s) (dropped old) (record { fair = converted-fair; tidy = dropped-tidy old; text = refl })

  abbrev new : Model
  new = (read_sheet (converted s)).model

  -- End theorem: what the meaning gives the old sheet it gives the new one.
  pub converted-gives : (sense : Sense) (k : Kind) (v : Fraction) →
      Gives (asked sense old) (needs_of old.needs) k v ↔ Gives (asked sense new) (needs_of new.needs) k v
  converted-gives sense k v =
      subst (λ (r : Reading). Gives (asked sense old) (needs_of old.needs) k v ↔ Gives (asked sense r.model) (needs_of r.model.needs) k v)
      (sym converted-read) (dropped-gives old old-admissible (unhindered old old-admissible parts.1) sense k v)

  -- End theorem: the planner's reply to the new sheet has the kind and the value that the meaning gives the old one.
  pub converted-replies : (sense : Sense) (b : Answer) → Planned sense new b → Gives (asked sense old) (needs_of old.needs) b.kind b.value
  converted-replies sense b p =
      dropped-planned old old-admissible (unhindered old old-admissible parts.1) sense b
      (subst (λ (r : Reading). Planned sense r.model b) converted-read p)

-- End theorem: a sheet that the reader accepts, so without blank items, comes back as it is.
pub unblanked-sheet : (s : List ℕ) → (read_sheet s).verdict ≡ Ok tt → (convertible s ≡ Ok tt) × (converted s ≡ s)
unblanked-sheet s h =
    let m = (read_sheet s).model in
    let t = accepted-sheet s m (ap (λ (v : Verdict). record { verdict = v; model = m }) h) in
    let a : Admissible m = accepted m t.fair in
    let b : AdmissibleBy blanks.Kept m = record {
      figures = a.figures;
      ordered = a.ordered;
      unbarred = λ k l. refl;
      few-needs = a.few-needs;
      needs = a.needs;
      ranged = a.ranged;
    } in
    let r : kept_reading s ≡ record { verdict = Ok tt; model = m } = sheet-accepted s m (record { fair = admitted m b; tidy = t.tidy; text = t.text }) in
    let free : hindered m ≡ (Ok tt) = rw (unblanked-free m a, le-ltb m.count m.count (omega arith)) in
    (rw r free, rw r (sym (agree-text m (dropped m) (unblanked m a b)) ∙ sym t.text))
