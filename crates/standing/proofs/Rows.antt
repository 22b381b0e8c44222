-- The rows of a change.
-- in_a_row: three verdicts in a row.
-- room, There, there-is, there-more: what is known where a record and a row accept.
-- tried-changes, refused-changes: what a change does once its own rows are known.
use mathlib.Core.Path.{◌≡◌, refl, sym, ap, ◌∙◌, subst}
use Prim.Native.Nat.{ℕ, ◌≤◌, ◌<◌}
use native.Mathlib.Omega.{arith}
use borrow.Author.Tests.{ltb-false, eqb-false}
use lib.Dec.{ltb, eqb}
use Rattle.knapsack.specs.declared.Refusal.{Refusal}
use Rattle.knapsack.specs.Verdicts.{Verdict}
use Rattle.std.specs.Prelude.{Ok, Err}
use Rattle.model.specs.declared.Model.{Model}
use Rattle.model.specs.declared.Sense.TheVariants.{Sure}
use Rattle.model.specs.Records.{wrong_number, or_else, verdict}
use Rattle.model.specs.declared.refusals.Reason.TheVariants as refusal
use Rattle.model.proofs.Records.{both-accept, row-clear, accepted}
use Rattle.model.proofs.Tests.{neither}
use Rattle.standing.specs.Changes.{Change, changed, full_verdict, missing_verdict, only_verdict, own_verdict, change_verdict}
use Rattle.standing.specs.Plans.{Left, Tries, Changes}
use Rattle.standing.specs.declared.Changed.{Changed}
use Rattle.standing.specs.declared.Plan.{Plan}

pub in_a_row : (u v w : Verdict) → or_else (or_else u v) w ≡ or_else u (or_else v w)
in_a_row (Ok _) v w = refl
in_a_row (Err f) v w = refl

pub room : (m : Model) → or_else (verdict m) (full_verdict m) ≡ Ok tt → m.count < 16
room m h =
    let r = both-accept (verdict m) (full_verdict m) h in
    let l = ltb-false _ m.count (row-clear _ refusal.FullRecord r.1) in
    omega arith

-- k is the number of an item, and the record has no more than it can hold
pub record There (m : Model) (k : ℕ) : Type 0 where
  pub taken : verdict m ≡ Ok tt
  pub least : 1 ≤ k
  pub most : k ≤ m.count
  pub few : m.count ≤ 16
  pub short : m.needs.count ≤ 16

pub there-is : (m : Model) (k : ℕ) → or_else (verdict m) (missing_verdict m k) ≡ Ok tt → There m k
there-is m k h =
    let r = both-accept (verdict m) (missing_verdict m k) h in
    let n = neither (eqb k 0) (ltb m.count k) (row-clear (wrong_number m.count k) refusal.MissingItem r.1) in
    let a = accepted m r.0 in
    record {
      taken = r.0;
      least = omega (arith, eqb-false k 0 n.0);
      most = ltb-false m.count k n.1;
      few = (a.figures Sure).few-items;
      short = a.few-needs;
    }

pub there-more : (m : Model) (k : ℕ) → or_else (or_else (verdict m) (missing_verdict m k)) (only_verdict m) ≡ Ok tt → There m k × (m.count ≡ 1 → ⊥)
there-more m k h =
    let r = both-accept (or_else (verdict m) (missing_verdict m k)) (only_verdict m) h in
    (there-is m k r.0, eqb-false m.count 1 (row-clear (eqb m.count 1) refusal.OnlyItem r.1))

module _ (c : Change) (p : Plan) (v : Verdict) (e : v ≡ or_else (verdict p.model) (own_verdict c p.model)) where
  pub tried-changes : v ≡ Ok tt → (r : Changed) → Tries p (changed c p.model) r → Changes c p r
  tried-changes h r t =
      let o : change_verdict c p.model ≡ verdict (changed c p.model) = ap (λ u. or_else u (verdict (changed c p.model))) (sym e ∙ h) in
      record { told = t.told ∙ sym o; left = subst (Left p (changed c p.model) r.plan) (sym o) t.left }

  pub refused-changes : (f : Refusal) → v ≡ Err f → Changes c p (record { verdict = v; plan = p })
  refused-changes f h =
      let o : change_verdict c p.model ≡ Err f = ap (λ u. or_else u (verdict (changed c p.model))) (sym e ∙ h) in
      record { told = h ∙ sym o; left = subst (Left p (changed c p.model) p) (sym o) refl }
