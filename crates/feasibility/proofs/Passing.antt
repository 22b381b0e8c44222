-- What an answer shows passes the point check.
--   shown_by m a     the point that an answer to the record m shows, as a proposed one
-- answers: an answer that is no refusal is true of its record.
-- End theorems, of every answer that is Planned: best-passes: the check says yes to a best point, with the answer's value. start-passes: and to the
-- start of an unbounded answer.
use mathlib.Core.Path.{◌≡◌, refl, sym, ap, ◌∙◌, subst, subst₂}
use Prim.Native.Nat.{ℕ, ◌<◌}
use native.Mathlib.Omega.{arith}
use lib.IntN.{ℤ, pos}
use lib.ListN.{length}
use Rattle.arith.specs.Fractions.{frac, int, ◌·ᶠ◌, ◌≤ᶠ◌, ◌<ᶠ◌, ◌≈ᶠ◌, total}
use Rattle.arith.specs.Sum.{Each}
use Rattle.arith.specs.declared.Fraction.{Fraction}
use Rattle.arith.proofs.Fractions.{total-cong, ≤ᶠ-trans, ≤ᶠ-antisym, ≈ᶠ-≤, ≈ᶠ-≥}
use Rattle.arith.proofs.Lowest.{same-fraction}
use Rattle.knapsack.specs.Meaning.{Instance, Point, Keeps, weights, value, Feasible, WholeAmount, Shown, nought, amount_at, point_of}
use Rattle.knapsack.specs.declared.Answer.{Answer}
use Rattle.knapsack.specs.declared.Kind.{Kind}
use Rattle.knapsack.specs.declared.Kind.TheVariants as kind
use Rattle.knapsack.specs.declared.Refusal.{Refusal}
use Rattle.knapsack.specs.Verdicts.{Verdict}
use Rattle.std.specs.Prelude.{Ok, Err}
use Rattle.model.specs.Needs.{KeepsNeeds, FeasibleNeeds, ShownOptimalNeeds, AnswersAsNeeds, Named}
use Rattle.model.specs.Promises.{RepliesAs, Planned}
use Rattle.model.specs.Records.{need_at, needs_of, verdict}
use Rattle.model.specs.declared.Need.{Need}
use Rattle.model.specs.declared.Model.{Model}
use Rattle.model.specs.declared.Sense.{Sense}
use Rattle.model.proofs.NeedLines.{needs-from}
use Rattle.model.proofs.Records.{accepted}
use Rattle.model.proofs.Showing.{default}
use Rattle.feasibility.specs.declared.Candidate.{Candidate}
use Rattle.feasibility.specs.declared.Finding.TheVariants as finding
use Rattle.feasibility.specs.Amounts.{proposed_at}
use Rattle.feasibility.specs.Check.{point_check, asked, proposed_point, Proposed, Told}
use Rattle.feasibility.proofs.Meaning.{told, feasible-iff}

abbrev pub shown_by : Model → Answer → Candidate
shown_by m a = record { amounts = a.point; count = m.count }

-- ---- points that agree at the items of the problem

module _ (s : Instance) (x y : Point) (e : Each s.count (λ k. x k ≡ y k)) where
  same_total : (a : ℕ → ℤ) → total s.count (λ k. a k ·ᶠ x k) ≡ total s.count (λ k. a k ·ᶠ y k)
  same_total a = total-cong s.count (λ k. a k ·ᶠ x k) (λ k. a k ·ᶠ y k) (λ k l. ap (λ z. a k ·ᶠ z) (e k l))

  same-feasible : Feasible s x → Feasible s y
  same-feasible f = record {
    keeps = λ k l. subst (Keeps (s.item k)) (e k l) (f.keeps k l);
    fits = subst (λ w. w ≤ᶠ int s.capacity) (same_total (weights s)) f.fits;
  }

-- ---- amounts that are shown are good

module _ (sense : Sense) (m : Model) (a : Answer) (size : length a.point ≡ 16) (fair : verdict m ≡ Ok tt) (shown : Shown (asked sense m) (amount_at a)) where
  same : (k : ℕ) → k < m.count → amount_at a k ≡ proposed_at (shown_by m a) k
  same k l = default a.point k nought _ (omega (arith, ((accepted m fair).figures sense).few-items))

  proposed : Proposed sense m (shown_by m a)
  proposed = record {
    admissible = accepted m fair;
    counted = refl;
    amounts = record {
      good = λ k l. rw (← same k l) (record { own = shown.divisor k l; near = shown.small k l });
      single = λ j k l n g h. shown.single j k l n (λ w. g (subst WholeAmount (same j l) w)) (λ w. h (subst WholeAmount (same k n) w));
    };
  }

  abbrev agree : Each m.count (λ k. point_of a k ≡ proposed_point (shown_by m a) k)
  agree k l = ap (λ (z : Fraction). frac z.p z.q) (same k l)

  -- and so is every need, whose items are items of the problem
  same_kept : KeepsNeeds (needs_of m.needs) (point_of a) → KeepsNeeds (needs_of m.needs) (proposed_point (shown_by m a))
  same_kept h n i =
      let f = needs-from m.needs.count (need_at m.needs) n i in
      let x = ((accepted m fair).needs f.0 f.1.0).allowed sense in
      let g : Named (asked sense m) n.item = subst (λ (z : Need). Named (asked sense m) z.item) (sym f.1.1) x.item in
      let k : Named (asked sense m) n.cover = subst (λ (z : Need). Named (asked sense m) z.cover) (sym f.1.1) x.cover in
      subst₂ (λ y z. int (pos 0) <ᶠ y → int (pos 1) ≤ᶠ z) (agree n.item g.inside) (agree n.cover k.inside) (h n i)

  passes : FeasibleNeeds (asked sense m) (needs_of m.needs) (point_of a) → (v : Fraction) × (point_check sense m (shown_by m a) ≡ Ok (finding.Feasible v))
  passes f = (feasible-iff sense m (shown_by m a) proposed).1
      (record { plain = same-feasible (asked sense m) (point_of a) (proposed_point (shown_by m a)) agree f.plain; kept = same_kept f.kept })

  -- the value told is the value shown
  value-told : ShownOptimalNeeds (asked sense m) (needs_of m.needs) a → (v : Fraction) → Told sense m (shown_by m a) (Ok (finding.Feasible v)) → v ≡ a.value
  value-told o v t =
      let x = frac v.p v.q in
      let y = frac a.value.p a.value.q in
      let w = value (asked sense m) (point_of a) in
      let e : x ≈ᶠ w = subst (λ z. x ≈ᶠ z)
      (sym (same_total (asked sense m) (point_of a) (proposed_point (shown_by m a)) agree (λ k. ((asked sense m).item k).price))) t.exact in
      same-fraction v a.value t.divisor o.divisor t.lowest o.lowest
      (≤ᶠ-antisym x y (≤ᶠ-trans x w y (≈ᶠ-≤ x w e) (≈ᶠ-≥ y w o.exact)) (≤ᶠ-trans y w x (≈ᶠ-≤ y w o.exact) (≈ᶠ-≥ x w e)))

-- ---- every answer that is Planned

-- an answer that is no refusal answers an accepted record
pub answers : (sense : Sense) (m : Model) (a : Answer) (k : Kind) → Planned sense m a → a.kind ≡ k → ((f : Refusal) → k ≡ kind.Refused f → ⊥) →
    (verdict m ≡ Ok tt) × AnswersAsNeeds (asked sense m) (needs_of m.needs) a k
answers sense m a k p e n = go (verdict m) refl p.replies
  where
    go : (v : Verdict) → verdict m ≡ v → RepliesAs (asked sense m) (needs_of m.needs) a v →
        (verdict m ≡ Ok tt) × AnswersAsNeeds (asked sense m) (needs_of m.needs) a k
    go (Ok _) h r = (h, subst (AnswersAsNeeds (asked sense m) (needs_of m.needs) a) e r)
    go (Err f) h r = absurd (n f (sym e ∙ ap (λ (z : Answer). z.kind) r))

module _ (sense : Sense) (m : Model) (a : Answer) (size : length a.point ≡ 16) (p : Planned sense m a) where
  pub best-passes : a.kind ≡ kind.Optimal → point_check sense m (shown_by m a) ≡ Ok (finding.Feasible a.value)
  best-passes e =
      let h = answers sense m a kind.Optimal p e (λ f g. absurd (let z : ◌≡◌ {A = ℕ} 0 1 = cc in omega arith)) in
      let r = passes sense m a size h.0 h.1.shown h.1.optimal.feasible in
      let t : Told sense m (shown_by m a) (Ok (finding.Feasible r.0)) = subst (Told sense m (shown_by m a)) r.1 (told sense m (shown_by m a)) in
      r.1 ∙ ap (λ v. Ok (finding.Feasible v)) (value-told sense m a size h.0 h.1.shown h.1 r.0 t)

  pub start-passes : a.kind ≡ kind.Unbounded → (v : Fraction) × (point_check sense m (shown_by m a) ≡ Ok (finding.Feasible v))
  start-passes e =
      let h = answers sense m a kind.Unbounded p e (λ f g. absurd (let z : ◌≡◌ {A = ℕ} 0 1 = cc in omega arith)) in
      passes sense m a size h.0 h.1.shown h.1.unbounded.from
