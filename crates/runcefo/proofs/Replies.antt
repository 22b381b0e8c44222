-- What `charge_plan` owes, in the header's words (end theorems).
-- refused-alone: a refused sheet is told by number and line; nothing is written, and no byte of the lent buffer changes.
-- room-holds: to an accepted sheet a buffer of `room` bytes, as many as `charge_room` says, is never too short.
use mathlib.Core.Path.{◌≡◌, refl, ap, ◌∙◌}
use mathlib.Core.List.{List}
use Prim.Native.Nat.{ℕ, ◌≤◌}
use native.Mathlib.Omega.{arith}
use borrow.Author.Tests.{le-ltb}
use lib.ListN.{length}
use Rattle.knapsack.specs.Meaning.{instance_of}
use Rattle.knapsack.specs.declared.Kind.{Kind}
use Rattle.knapsack.specs.declared.Kind.TheVariants as kind
use Rattle.knapsack.specs.declared.Refusal.{Refusal}
use Rattle.knapsack.specs.Verdicts.{Verdict}
use Rattle.std.specs.Prelude.{Ok, Err, Result}
use Rattle.text.specs.Buffer.{noted, told}
use Rattle.model.specs.declared.Answers.{Answers}
use Rattle.listing.specs.Printing.{printed_both, unless_refused, room}
use Rattle.listing.proofs.Room.{room-enough}
use Rattle.model.specs.Needs.{AnswersAsNeeds}
use Rattle.model.specs.declared.Sense.TheVariants.{Sure}
use Rattle.model.specs.Records.{plain_of, needs_of, verdict}
use Rattle.replies.specs.Replies.{both_refused}
use Rattle.senses.specs.Both.{PlannedBoth}
use Rattle.sheet.specs.Reading.{read_sheet}
use Rattle.sheet.proofs.Sheets.{accepted-sheet}
use Rattle.runcefo.specs.Entries.{told_number, told_line, length_of, listed_verdict, Plans}

module _ (s b c : List ℕ) (length-told line number : ℕ) (h : Plans s b c length-told line number) where
  abbrev answers : Answers
  answers = h.lists.answers

  pub refused-alone : (f : Refusal) → (read_sheet s).verdict ≡ Err f → (number ≡ f.number) × (line ≡ f.line) × (length-told ≡ 0) × (c ≡ b)
  refused-alone f e =
      let a : answers ≡ both_refused f = rw e at h.lists.is_true in
      let k : answers.sure.kind ≡ kind.Refused f = ap (λ (z : Answers). z.sure.kind) a in
      let r : h.reply ≡ noted f = rw k at h.lists.told_is in (
        h.number_is ∙ ap (λ w. told_number (listed_verdict w)) r,
        h.line-is ∙ ap (λ w. told_line (listed_verdict w)) r,
        h.length-is ∙ ap length_of r,
        rw k at h.lists.left_is,
      )

  abbrev text : List ℕ
  text = printed_both (read_sheet s).model.count answers

  written : length text ≤ length b → told text b ≡ Ok (length text)
  unfolding told
  written l = rw (le-ltb (length b) (length text) l)

  pub room-holds : (read_sheet s).verdict ≡ Ok tt → room ≤ length b → number ≡ 0
  room-holds e l =
      let m = (read_sheet s).model in
      let fair : verdict m ≡ (Ok tt) = (accepted-sheet s m (ap (λ (v : Verdict). record { verdict = v; model = m }) e)).fair in
      let p : PlannedBoth m answers = rw e at h.lists.is_true in
      let fits : length text ≤ room = room-enough m answers fair p.sure p.possible in
      let r : h.reply ≡ Ok (length text) = go answers.sure.kind refl (rw fair at p.sure.replies) ∙ written (omega arith) in
      h.number_is ∙ ap (λ w. told_number (listed_verdict w)) r
    where
      go : (k : Kind) → answers.sure.kind ≡ k →
          AnswersAsNeeds (instance_of (plain_of Sure (read_sheet s).model)) (needs_of (read_sheet s).model.needs) answers.sure k →
          h.reply ≡ told text b
      go kind.Optimal e a = h.lists.told_is ∙ ap (λ k. unless_refused k noted (told text b)) e
      go kind.Infeasible e a = h.lists.told_is ∙ ap (λ k. unless_refused k noted (told text b)) e
      go kind.Unbounded e a = h.lists.told_is ∙ ap (λ k. unless_refused k noted (told text b)) e
      go (kind.Refused f) e a = absurd a
