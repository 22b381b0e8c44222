-- End theorem: the places beyond the counts play no part. Records that agree up to them have the same refusals, needs and promise.
-- beyond-verdict: the refusals. beyond-needs: the needs. beyond-planned, beyond-relaxed: what the planner and the relaxation owe.
use mathlib.Core.Path.{◌≡◌, refl, sym, ap, ap₂, ◌∙◌}
use mathlib.Core.Bool.{Bool, true, false, cond}
use mathlib.Core.List.{List}
use Prim.Native.Nat.{ℕ, zero, suc, ◌-◌, ◌≤◌, ◌<◌}
use native.Mathlib.Omega.{arith}
use borrow.Author.Tests.{ltb-true}
use lib.Dec.{ltb}
use Rattle.arith.specs.Sum.{Each}
use Rattle.knapsack.proofs.Same.{Same}
use Rattle.knapsack.specs.Meaning.{Instance, instance_of}
use Rattle.knapsack.specs.declared.Answer.{Answer}
use Rattle.knapsack.specs.Verdicts.{Verdict}
use Rattle.std.specs.Prelude.{Ok, Err}
use Rattle.model.specs.declared.Blanks.{Blanks}
use Rattle.model.specs.declared.Blanks.TheVariants as blanks
use Rattle.model.specs.declared.Model.{Model}
use Rattle.model.specs.declared.ModelItem.{ModelItem}
use Rattle.model.specs.declared.Need.{Need}
use Rattle.model.specs.declared.Sense.{Sense}
use Rattle.model.specs.Needs.{relaxed_but}
use Rattle.model.specs.Promises.{RepliesAs, Planned, Relaxed}
use Rattle.model.specs.Records.{item_at, need_at, item_in, plain_of, needs_up_to, needs_of, Agree, bad_figure, is_reversed, is_ranged_below, barred, some_item, held, bad_line, unfit_line, line_before}
use Rattle.model.specs.Records.{refused_for, or_else, need_verdict, needs_verdict, verdict_by, verdict}
use Rattle.model.specs.declared.refusals.Reason.TheVariants as refusal
use Rattle.model.proofs.SameNeeds.{same-relaxed-but, same-answers-needs, same-first-needs}
use Rattle.model.proofs.Plain.{plain-item}
use Rattle.model.proofs.NeedLines.{before-next, line-numbers, needs-cong}

some_same : {A : Type 0} (n : ℕ) (f g : ℕ → A) (test : A → Bool) → Each n (λ k. f k ≡ g k) → some_item n f test ≡ some_item n g test
unfolding some_item
some_same {A} zero f g test h = refl
some_same {A} (suc n) f g test h = ap₂ (λ (b : Bool) (i : A). cond b true (test i)) (some_same n f g test (λ k l. h k (omega arith))) (h n (omega arith))

-- no more are tried than there are
held-few : (n : ℕ) → held n ≤ n
held-few n = go (ltb 16 n) refl
  where
    go : (b : Bool) → ltb 16 n ≡ b → cond b 16 n ≤ n
    go true e = omega (arith, ltb-true 16 n e)
    go false e = omega arith

-- the record as the solver's instance
abbrev asked : Sense → Model → Instance
asked s m = instance_of (plain_of s m)

module _ (m o : Model) (e : Agree m o) where
  same : (s : Sense) → Same (asked s m) (asked s o)
  same s = record { capacity = e.capacity; count = e.count; items = λ k l. plain-item s m k ∙ ap (item_in s) (e.items k l) ∙ sym (plain-item s o k) }

  before_same : (j : ℕ) → j < m.needs.count → line_before m.needs j ≡ line_before o.needs j
  before_same zero l = refl
  before_same (suc j) l = before-next m.needs j ∙ e.needs j (omega arith) ∙ sym (before-next o.needs j)

  -- a good line names only items that are counted; of another it is told all the same that it is bad
  line_same : (j : ℕ) → j < m.needs.count → need_verdict m j ≡ need_verdict o j
  line_same j l = rw (← before_same j l, ← e.needs j l, ← e.count) (go (bad_line (held m.count) (line_before m.needs j) (need_at m.needs j)) refl)
    where
      go : (b : Bool) → bad_line (held m.count) (line_before m.needs j) (need_at m.needs j) ≡ b →
          or_else (refused_for b refusal.ItemNumber) (refused_for (unfit_line (item_at m) (need_at m.needs j)) refusal.NamedItem)
          ≡ or_else (refused_for b refusal.ItemNumber) (refused_for (unfit_line (item_at o) (need_at m.needs j)) refusal.NamedItem)
      go true h = refl
      go false h =
          let n = line-numbers (held m.count) (line_before m.needs j) (need_at m.needs j) h in
          let few = held-few m.count in
          let i : item_at m ((need_at m.needs j).item - 1) ≡ item_at o ((need_at m.needs j).item - 1) =
          e.items _ (omega (arith, n.first-least, n.first-most)) in
          let c : item_at m ((need_at m.needs j).cover - 1) ≡ item_at o ((need_at m.needs j).cover - 1) =
          e.items _ (omega (arith, n.second-least, n.second-most)) in
          rw (i, c)

  lines_same : (n : ℕ) → n ≤ m.needs.count → needs_verdict n m ≡ needs_verdict n o
  unfolding needs_verdict
  lines_same zero l = refl
  lines_same (suc n) l = ap₂ or_else (lines_same n (omega arith)) (line_same n (omega arith))

  pub beyond-verdict : (b : Blanks) → verdict_by b m ≡ verdict_by b o
  unfolding verdict_by
  beyond-verdict kind =
      let c : m.count ≡ o.count = e.count in
      let b : m.capacity ≡ o.capacity = e.capacity in
      let t : m.needs.count ≡ o.needs.count = e.need-count in
      let i : (test : ModelItem → Bool) → some_item (held m.count) (item_at m) test ≡ some_item (held m.count) (item_at o) test =
      λ test. some_same (held m.count) (item_at m) (item_at o) test (λ k l. e.items k (omega (arith, held-few m.count))) in
      let n : needs_verdict (held m.needs.count) m ≡ needs_verdict (held m.needs.count) o =
      lines_same (held m.needs.count) (held-few m.needs.count) in
      rw (n, i bad_figure, i is_reversed, i (barred kind), i is_ranged_below, c, b, t)

  pub beyond-needs : needs_of m.needs ≡ needs_of o.needs
  beyond-needs = needs-cong m.needs.count (need_at m.needs) (need_at o.needs) e.needs ∙ ap (λ n. needs_up_to n (need_at o.needs)) e.need-count

  replies-same : (s t : Instance) (ns : List Need) (a : Answer) (v w : Verdict) → Same s t → v ≡ w → RepliesAs s ns a v → RepliesAs t ns a w
  replies-same s t ns a v w h f r = rw (sym f) (go v r)
    where
      go : (v : Verdict) → RepliesAs s ns a v → RepliesAs t ns a v
      go (Ok _) r = same-answers-needs s t h ns a r
      go (Err f) r = r

  module _ (s : Sense) where
    pub beyond-planned : (a : Answer) → Planned s m a → Planned s o a
    beyond-planned a p = record {
      replies =
          rw (← beyond-needs)
          (replies-same (asked s m) (asked s o) (needs_of m.needs) a (verdict m) (verdict o) (same s) (beyond-verdict blanks.Refused) p.replies);
      first = rw (← beyond-needs) (same-first-needs (asked s m) (asked s o) (same s) (needs_of m.needs) a p.first);
    }

    pub beyond-relaxed : (a : Answer) → Relaxed s m a → Relaxed s o a
    beyond-relaxed a r =
        let ns = needs_of m.needs in
        let e = same-relaxed-but ns (asked s m) (asked s o) (same s) in
        rw (← beyond-needs)
        (replies-same (relaxed_but ns (asked s m)) (relaxed_but ns (asked s o)) ns a (verdict m) (verdict o) e (beyond-verdict blanks.Refused) r)
