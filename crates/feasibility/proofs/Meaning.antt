-- The point check tells the truth.
-- told: what the reply says of the point holds.
-- worth-is: what a point is worth, for every problem.
-- refused-iff, feasible-iff, weight-iff, item-iff: each kind of reply is given exactly where it should be.
use mathlib.Core.Path.{◌≡◌, refl, sym, ap, ◌∙◌, subst}
use mathlib.Core.Bool.{Bool, true, false, cond, not}
use mathlib.Core.Logic.{◌↔◌, ◌⊎◌, inl, inr}
use Prim.Native.Nat.{ℕ, zero, suc, ◌-◌, ◌≤◌, ◌<◌}
use native.Mathlib.Decide.{dec_lt}
use native.Mathlib.Omega.{arith}
use lib.Dec.{eqb}
use lib.IntN.{ℤ, pos, ◌*ℤ◌}
use lib.Signed.{lt_z, clash_ℤ}
use borrow.Author.Tests.{eqb-true, eqb-false}
use Rattle.arith.specs.Fractions.{Frac, ◌·ᶠ◌, ◌≤ᶠ◌, ◌<ᶠ◌, total}
use Rattle.arith.specs.Gcd.{lowest}
use Rattle.arith.specs.declared.Fraction.{Fraction}
use Rattle.arith.proofs.Divisors.{lowest-den, lowest-coprime}
use Rattle.arith.proofs.Fractions.{Over, over-int, over-frac, over-total, over-≤, over-<, over-≈}
use Rattle.arith.proofs.Parts.{impossible}
use Rattle.arith.proofs.Words.{yes_lt, no_lt}
use Rattle.knapsack.specs.declared.Refusal.{Refusal}
use Rattle.knapsack.specs.Verdicts.{Verdict}
use Rattle.std.specs.Prelude.{Result, Ok, Err}
use Rattle.knapsack.specs.Meaning.{Keeps}
use Rattle.knapsack.specs.Ranges.{item_at}
use Rattle.knapsack.specs.declared.Problem.{Problem}
use Rattle.model.specs.Needs.{KeepsNeed, KeepsNeeds, FeasibleNeeds}
use Rattle.model.specs.Records.{need_at, plain_of, placed, needs_of, refused_for, verdict, Admissible, FiguresInRange}
use Rattle.model.specs.declared.refusals.Reason.{Reason}
use Rattle.model.specs.declared.refusals.Reason.TheVariants as refusal
use Rattle.model.specs.declared.Model.{Model}
use Rattle.model.specs.declared.Need.{Need}
use Rattle.model.specs.declared.Sense.{Sense}
use Rattle.model.proofs.NeedLines.{needs-in, needs-from}
use Rattle.model.proofs.Records.{accepted, admitted}
use Rattle.model.proofs.Showing.{over-lowest, parted}
use Rattle.feasibility.specs.declared.Candidate.{Candidate}
use Rattle.feasibility.specs.declared.Figure.{Figure}
use Rattle.feasibility.specs.declared.Figure.TheVariants.{Weight, Price}
use Rattle.feasibility.specs.declared.Finding.{Finding}
use Rattle.feasibility.specs.declared.Finding.TheVariants.{Feasible, Violates}
use Rattle.feasibility.specs.Amounts.{proposed_at, GoodAmount, GoodPoint, common_divisor, numerator}
use Rattle.feasibility.specs.Check.{
  breaks,
  earlier_of,
  first_broken,
  first_lacking,
  figure_of,
  total_of,
  after_items,
  judged,
  refuse_point,
  amount_check,
  after_record,
  point_check,
  asked,
  proposed_point,
  Proposed,
  RefusedAs,
  by-record,
  by_count,
  by-amounts,
  ToldWeight,
  ToldItem,
  ToldNeed,
  Told,
  Worth,
}
use Rattle.feasibility.proofs.Breaking.{Found, none, first, found, keeps-iff, lack_at, Lacking, all, broken, lacking, kept-iff}
use Rattle.feasibility.proofs.Divisor.{good-amount, Divided, divided, divisor-iff}

-- the sums are those of the meaning, for every problem
module _ (p : Problem) (c : Candidate) (d : ℕ) (figures : FiguresInRange p) (s : Divided p.count (item_at p) (proposed_at c) d) where
  pub good-at : (k : ℕ) → k < p.count → GoodAmount (proposed_at c k)
  good-at k l = good-amount (item_at p k) (proposed_at c k) (figures.items-in k l) (s.fine k l)

  pub total-over : (f : Figure) → Over d (total p.count (λ k. figure_of f (item_at p k) ·ᶠ proposed_point c k)) (total_of f d p.count p c)
  total-over f = over-total d p.count (proposed_point c) (λ k. numerator d (proposed_at c k))
      (λ k l. (parted d (proposed_at c k) (good-at k l).some (s.parts k l)).over) (λ k. figure_of f (item_at p k))

  -- what a point is worth that row 8 does not refuse
  pub worth-is : (v : ℤ) → v ≡ total_of Price d p.count p c → Worth p c (record { p = v; q = d })
  worth-is v e = record { divisor = s.some; exact = over-≈ (over-frac v d s.some) (total-over Price) s.some e }

-- ---- yes or no

module _ (sense : Sense) (m : Model) (c : Candidate) (d : ℕ) (asked : Proposed sense m c) (s : Divided m.count (item_at (plain_of sense m)) (proposed_at c) d) where
  fine : (k : ℕ) → k < m.count → GoodAmount (proposed_at c k)
  fine = good-at (plain_of sense m) c d (asked.admissible.figures sense) s

  of-total : (f : Figure) → Over d (total m.count (λ k. figure_of f (item_at (plain_of sense m) k) ·ᶠ proposed_point c k))
      (total_of f d m.count (plain_of sense m) c)
  of-total = total-over (plain_of sense m) c d (asked.admissible.figures sense) s

  kept : (k : ℕ) → k < m.count → (breaks (item_at (plain_of sense m) k) (proposed_at c k) ≡ false) ↔ Keeps (item_at (plain_of sense m) k) (proposed_point c k)
  kept k l = keeps-iff (item_at (plain_of sense m) k) (proposed_at c k) (s.fine k l) (fine k l)

  abbrev given : ℕ → Need
  given j = need_at m.needs j

  covered : (j : ℕ) → j < m.needs.count → (lack_at m.needs c j ≡ false) ↔ KeepsNeed (placed (given j)) (proposed_point c)
  covered j l =
      let n = (asked.admissible.needs j l).numbers in
      let i : (given j).item - 1 < m.count = omega (arith, n.first-least, n.first-most) in
      let k : (given j).cover - 1 < m.count = omega (arith, n.second-least, n.second-most) in
      kept-iff (proposed_at c ((given j).item - 1)) (proposed_at c ((given j).cover - 1)) (fine _ i) (fine _ k)

  -- line by line is need by need
  every : ((j : ℕ) → j < m.needs.count → KeepsNeed (placed (given j)) (proposed_point c)) → KeepsNeeds (needs_of m.needs) (proposed_point c)
  every h n i = let f = needs-from m.needs.count given n i in subst (λ (z : Need). KeepsNeed z (proposed_point c)) (sym f.1.1) (h f.0 f.1.0)

  -- where every item and every need is kept the weight decides
  by-weight : ((k : ℕ) → k < m.count → Keeps (item_at (plain_of sense m) k) (proposed_point c k)) → KeepsNeeds (needs_of m.needs) (proposed_point c) → (b : Bool) →
      lt_z (m.capacity *ℤ pos d) (total_of Weight d m.count (plain_of sense m) c) ≡ b →
      Told sense m c (Ok (cond b (Violates 0) (Feasible (lowest (total_of Price d m.count (plain_of sense m) c) d))))
  by-weight k n true e =
      record { proposed = asked; keeps = k; kept = n; over = over-< s.some (over-int d m.capacity) (of-total Weight) (yes_lt e) }
  by-weight k n false e =
      let v = total_of Price d m.count (plain_of sense m) c in
      record {
        proposed = asked;
        feasible = record {
          plain = record { keeps = k; fits = (over-≤ s.some (of-total Weight) (over-int d m.capacity)).1 (no_lt e) };
          kept = n;
        };
        exact = over-≈ (over-lowest v d s.some) (of-total Price) s.some refl;
        divisor = lowest-den v d s.some;
        lowest = lowest-coprime v d s.some;
      }

  abbrev weighed : Finding
  weighed = cond (lt_z (m.capacity *ℤ pos d) (total_of Weight d m.count (plain_of sense m) c)) (Violates 0)
      (Feasible (lowest (total_of Price d m.count (plain_of sense m) c) d))

  -- where every item is kept the needs come next
  by-needs : ((k : ℕ) → k < m.count → Keeps (item_at (plain_of sense m) k) (proposed_point c k)) → (n : ℕ) → Lacking m.needs.count m.needs c n →
      Told sense m c (Ok (after_items n weighed))
  by-needs k n (all h) = by-weight k (every (λ j l. (covered j l).0 (h j l))) _ refl
  by-needs k n (broken j l e h) = numbered (given j).item refl (asked.admissible.needs j l).numbers.first-least
    where
      numbered : (i : ℕ) → (given j).item ≡ i → 1 ≤ (given j).item → Told sense m c (Ok (after_items i weighed))
      numbered zero f g = absurd (omega (arith, f, g))
      numbered (suc i) f g = inr (record {
        proposed = asked;
        keeps = k;
        line = j;
        counted = l;
        item = f;
        broken = λ w. impossible (sym ((covered j l).1 w) ∙ e);
        before = λ i u. (covered i (omega arith)).0 (h i u);
      })

  judged-told : Told sense m c (Ok (judged d (plain_of sense m) m.needs c))
  unfolding judged
  judged-told = go (first_broken m.count (plain_of sense m) c) (found m.count (plain_of sense m) c)
    where
      go : (n : ℕ) → Found m.count (plain_of sense m) c n →
          Told sense m c (Ok (after_items (earlier_of n (first_lacking m.needs.count m.needs c)) weighed))
      go n (none h) = by-needs (λ k l. (kept k l).0 (h k l)) _
          (lacking m.needs.count m.needs c (λ j l. (asked.admissible.needs j l).numbers.first-least))
      go n (first k l e h) = inl (record {
        proposed = asked;
        item = l;
        broken = λ w. impossible (sym ((kept k l).1 w) ∙ e);
        before = λ j i. (kept j (omega arith)).0 (h j i);
      })

-- ---- the refusals before it

amounts-told : (sense : Sense) (m : Model) (c : Candidate) → Admissible m → Told sense m c (amount_check (plain_of sense m) m.needs c)
unfolding amount_check
amounts-told sense m c r = go _ refl _ refl
  where
    go : (b : Bool) → eqb c.count m.count ≡ b → (z : Bool) → eqb (common_divisor c.count (item_at (plain_of sense m)) (proposed_at c)) 0 ≡ z →
        Told sense m c (cond (not b) (refuse_point refusal.Amounts) (cond z (refuse_point refusal.Amount) (Ok (judged (common_divisor c.count (item_at (plain_of sense m)) (proposed_at c)) (plain_of sense m) m.needs c))))
    go false e z f = by_count r (eqb-false c.count m.count e)
    go true e true f =
        let n = eqb-true c.count m.count e in
        by-amounts r n (λ g. (divisor-iff c.count (item_at (plain_of sense m)) (proposed_at c)).1 (rw n g) (eqb-true _ 0 f))
    go true e false f =
        let n = eqb-true c.count m.count e in
        let h = eqb-false (common_divisor c.count (item_at (plain_of sense m)) (proposed_at c)) 0 f in
        judged-told sense m c _ (record {
          admissible = r;
          counted = n;
          amounts = subst (λ n. GoodPoint n (item_at (plain_of sense m)) (proposed_at c)) n
              ((divisor-iff c.count (item_at (plain_of sense m)) (proposed_at c)).0 h);
        }) (subst (λ n. Divided n (item_at (plain_of sense m)) (proposed_at c) (common_divisor c.count (item_at (plain_of sense m)) (proposed_at c))) n (divided c.count
        (item_at (plain_of sense m)) (proposed_at c) h))

pub told : (sense : Sense) (m : Model) (c : Candidate) → Told sense m c (point_check sense m c)
unfolding point_check
told sense m c = go (verdict m) refl
  where
    go : (v : Verdict) → verdict m ≡ v → Told sense m c (after_record v (amount_check (plain_of sense m) m.needs c))
    go (Ok _) e = amounts-told sense m c (accepted m e)
    go (Err f) e = by-record f e

-- so does a reply that is the one by definition
pub told_by : (sense : Sense) (m : Model) (c : Candidate) (r : Result Finding Refusal) → r ≡ point_check sense m c → Told sense m c r
told_by sense m c r e = subst (Told sense m c) (sym e) (told sense m c)

-- a row of the check
pub row : (t : Bool) (n : Reason) (r : Result Finding Refusal) → after_record (refused_for t n) r ≡ cond t (refuse_point n) r
row true n r = refl
row false n r = refl

-- ---- each reply exactly where it should be

-- what is not refused is not refused
no-refusal : {sense : Sense} {m : Model} {c : Candidate} {f : Refusal} → Proposed sense m c → ¬ RefusedAs sense m c f
no-refusal {m} a (by-record f e) = no-verdict (sym (admitted m a.admissible) ∙ e)
  where
    taken : Verdict → Type 0
    taken (Ok _) = Unit {0}
    taken (Err g) = ⊥

    no-verdict : ◌≡◌ {A = Verdict} (Ok tt) (Err f) → ⊥
    no-verdict h = subst taken h tt
no-refusal a (by_count r n) = n a.counted
no-refusal a (by-amounts r n g) = g a.amounts

-- a weight that is over does not fit
over-not-fits : (x y : Frac) → x <ᶠ y → ¬ (y ≤ᶠ x)
unfolding ◌<ᶠ◌ ◌≤ᶠ◌
over-not-fits x y l h = clash_ℤ l h

module _ (sense : Sense) (m : Model) (c : Candidate) where
  -- what the reply says, once it is known
  of-reply : {r : Result Finding Refusal} → point_check sense m c ≡ r → Told sense m c r
  of-reply e = subst (Told sense m c) e (told sense m c)

  proposed-of : {k : ℕ} → ToldItem sense m c k ⊎ ToldNeed sense m c k → Proposed sense m c
  proposed-of (inl t) = t.proposed
  proposed-of (inr t) = t.proposed

  -- a point that keeps all items and needs is told no item
  no-breach : {k : ℕ} → ToldItem sense m c k ⊎ ToldNeed sense m c k → ((i : ℕ) → i < m.count → Keeps (item_at (plain_of sense m) i) (proposed_point c i)) →
      KeepsNeeds (needs_of m.needs) (proposed_point c) → ⊥
  no-breach {k} (inl t) i n = t.broken (i k t.item)
  no-breach (inr t) i n = t.broken (n _ (needs-in m.needs.count (need_at m.needs) t.line t.counted))

  pub refused-iff : ((f : Refusal) × (point_check sense m c ≡ Err f)) ↔ (¬ Proposed sense m c)
  refused-iff = (λ (f, e) a. no-refusal a (of-reply e), λ n. go n (point_check sense m c) refl)
    where
      go : ¬ Proposed sense m c → (r : Result Finding Refusal) → point_check sense m c ≡ r → (f : Refusal) × (point_check sense m c ≡ Err f)
      go n (Err f) e = (f, e)
      go n (Ok (Feasible v)) e = absurd (n (of-reply e).proposed)
      go n (Ok (Violates zero)) e = absurd (n (of-reply e).proposed)
      go n (Ok (Violates (suc k))) e = absurd (n (proposed-of (of-reply e)))

  pub feasible-iff : Proposed sense m c → ((v : Fraction) × (point_check sense m c ≡ Ok (Feasible v))) ↔ FeasibleNeeds (asked sense m) (needs_of m.needs) (proposed_point c)
  feasible-iff a = (λ (v, e). (of-reply e).feasible, λ x. go x (point_check sense m c) refl)
    where
      go : FeasibleNeeds (asked sense m) (needs_of m.needs) (proposed_point c) → (r : Result Finding Refusal) → point_check sense m c ≡ r →
          (v : Fraction) × (point_check sense m c ≡ Ok (Feasible v))
      go x (Err f) e = absurd (no-refusal a (of-reply e))
      go x (Ok (Feasible v)) e = (v, e)
      go x (Ok (Violates zero)) e = absurd (over-not-fits _ _ (of-reply e).over x.plain.fits)
      go x (Ok (Violates (suc k))) e = absurd (no-breach (of-reply e) x.plain.keeps x.kept)

  pub weight-iff : (point_check sense m c ≡ Ok (Violates 0)) ↔ ToldWeight sense m c
  weight-iff = (λ e. of-reply e, λ w. go w (point_check sense m c) refl)
    where
      go : ToldWeight sense m c → (r : Result Finding Refusal) → point_check sense m c ≡ r → point_check sense m c ≡ Ok (Violates 0)
      go w (Err f) e = absurd (no-refusal w.proposed (of-reply e))
      go w (Ok (Feasible v)) e = absurd (over-not-fits _ _ w.over (of-reply e).feasible.plain.fits)
      go w (Ok (Violates zero)) e = e
      go w (Ok (Violates (suc k))) e = absurd (no-breach (of-reply e) w.keeps w.kept)

  pub item-iff : (k : ℕ) → (point_check sense m c ≡ Ok (Violates (suc k))) ↔ (ToldItem sense m c k ⊎ ToldNeed sense m c k)
  item-iff k = (λ e. of-reply e, λ t. go t (point_check sense m c) refl)
    where
      -- of two first items neither comes before the other
      same_item : (j : ℕ) → ToldItem sense m c k → ToldItem sense m c j → Dec (j < k) → Dec (k < j) → j ≡ k
      same_item j t u (yes l) m = absurd (u.broken (t.before j l))
      same_item j t u (no l) (yes m) = absurd (t.broken (u.before k m))
      same_item j t u (no l) (no m) = omega arith

      -- nor of two first lines
      same_line : (j : ℕ) (t : ToldNeed sense m c k) (u : ToldNeed sense m c j) → Dec (u.line < t.line) → Dec (t.line < u.line) → u.line ≡ t.line
      same_line j t u (yes l) m = absurd (u.broken (t.before u.line l))
      same_line j t u (no l) (yes m) = absurd (t.broken (u.before t.line m))
      same_line j t u (no l) (no m) = omega arith

      same : (j : ℕ) → ToldItem sense m c k ⊎ ToldNeed sense m c k → ToldItem sense m c j ⊎ ToldNeed sense m c j → j ≡ k
      same j (inl t) (inl u) = same_item j t u (dec_lt j k) (dec_lt k j)
      same j (inl t) (inr u) = absurd (t.broken (u.keeps k t.item))
      same j (inr t) (inl u) = absurd (u.broken (t.keeps j u.item))
      same j (inr t) (inr u) =
          let e = same_line j t u (dec_lt u.line t.line) (dec_lt t.line u.line) in
          let h : suc j ≡ suc k = sym u.item ∙ ap (λ i. (need_at m.needs i).item) e ∙ t.item in
          omega (arith, h)

      go : ToldItem sense m c k ⊎ ToldNeed sense m c k → (r : Result Finding Refusal) → point_check sense m c ≡ r → point_check sense m c ≡ Ok (Violates (suc k))
      go t (Err f) e = absurd (no-refusal (proposed-of t) (of-reply e))
      go t (Ok (Feasible v)) e = let f = (of-reply e).feasible in absurd (no-breach t f.plain.keeps f.kept)
      go t (Ok (Violates zero)) e = let w = of-reply e in absurd (no-breach t w.keeps w.kept)
      go t (Ok (Violates (suc j))) e = e ∙ ap (λ i. Ok (Violates (suc i))) (same j t (of-reply e))
