-- Places of a setting's box, and the fillings at them in the order of Tied.
-- some-marks: a setting has marks.  tied-sized, tied-order, tied-spanned, tied-ranked: the columns in the order of Tied, in its box.
-- place-choice: a place is a choice of the integer amounts.
-- place-room, place-leads: the filling at the integer amounts of a feasible point has room, and leads it.
-- place-feasible, place-parts: a filling with room is feasible.
use mathlib.Core.Path.{◌≡◌, refl, sym, ap, ◌∙◌, subst}
use mathlib.Core.Logic.{◌≢◌, ◌⊎◌, inl, inr}
use Prim.Native.Nat.{ℕ, zero, suc, ◌*◌, ◌≤◌, ◌<◌}
use native.Mathlib.Omega.{arith}
use native.Mathlib.Decide.{ℕ_discrete}
use lib.IntN.{ℤ, pos, nat_abs, ◌-ℤ◌, ◌*ℤ◌}
use lib.Signed.{◌≤ℤ◌}
use Rattle.arith.proofs.Integers.{≤ℤ-trans, ≤ℤ-reflexive}
use Rattle.greedy.specs.declared.Columns.{Columns}
use Rattle.greedy.specs.declared.Ends.{Ends}
use Rattle.greedy.specs.Fill.{at, fill}
use Rattle.greedy.specs.Sized.{Sized}
use Rattle.greedy.proofs.Relaxed.{box_of, InOrder}
use Rattle.knapsack.proofs.Common.{valueᴰ, Feasibleᴰ}
use Rattle.knapsack.specs.declared.Mark.{Mark}
use Rattle.knapsack.specs.declared.Mark.TheVariants.{Integer, Continuous}
use Rattle.setting.specs.declared.Setting.{Setting}
use Rattle.setting.specs.Box.{level_at, Inside}
use Rattle.setting.specs.Ready.{Marked}
use Rattle.setting.proofs.Boxes.{fixed-level, fixed-other, fixed-sized}
use Rattle.ceiling.specs.Frames.{Ranked}
use Rattle.ceiling.specs.Sizes.{Spanned}
use Rattle.foremost.proofs.Filling.{parts, filling}
use Rattle.foremost.proofs.Choices.{Choice}
use Rattle.foremost.proofs.Covering.{marks-differ, fill-some}
use Rattle.foremost.proofs.Frames.{by-mark, choice-order, choice-in, choice-out, choice-first, choice-parts}
use Rattle.foremost.proofs.Leads.{Leads, foremost-leads}
use Rattle.firsts.specs.Leading.{Tying, ends_at}

-- ---- marks

abbrev Level : Setting → ℕ → ℕ → Type 0
Level s n k = (d : ℕ) × (d < n) × (level_at s d ≡ k)

find : (s : Setting) (n k : ℕ) → Level s n k ⊎ ((d : ℕ) → d < n → level_at s d ≢ k)
find s zero k = inr (λ d l. absurd (omega arith))
find s (suc n) k = go (ℕ_discrete (level_at s n) k) (find s n k)
  where
    go : Dec (level_at s n ≡ k) → Level s n k ⊎ ((d : ℕ) → d < n → level_at s d ≢ k) → Level s (suc n) k ⊎ ((d : ℕ) → d < suc n → level_at s d ≢ k)
    go (yes e) r = inl (n, omega arith, e)
    go (no e) (inl (d, l, i)) = inl (d, omega arith, i)
    go (no e) (inr h) = inr (λ d l. again d l (ℕ_discrete d n))
      where
        again : (d : ℕ) → d < suc n → Dec (d ≡ n) → level_at s d ≢ k
        again d l (yes q) i = e (subst (λ m. level_at s m ≡ k) q i)
        again d l (no q) i = h d (omega arith) i

mark_by : {A B : Type 0} → A ⊎ B → Mark
mark_by (inl x) = Integer
mark_by (inr x) = Continuous

pub some-marks : (s : Setting) → (marks : ℕ → Mark) × Marked s marks
unfolding mark_by
some-marks s = (
  λ k. mark_by (find s s.levels k),
  record { integer = λ d l. own d l (find s s.levels (level_at s d)); level = λ k l m. back k (find s s.levels k) m },
)
  where
    own : (d : ℕ) → d < s.levels → (r : Level s s.levels (level_at s d) ⊎ ((i : ℕ) → i < s.levels → level_at s i ≢ level_at s d)) → mark_by r ≡ Integer
    own d l (inl x) = refl
    own d l (inr h) = absurd (h d l refl)

    back : (k : ℕ) (r : Level s s.levels k ⊎ ((i : ℕ) → i < s.levels → level_at s i ≢ k)) → mark_by r ≡ Integer → Level s s.levels k
    back k (inl x) m = x
    back k (inr h) m = absurd (marks-differ m refl)

-- ---- the columns in the order of Tied

module _ (s : Setting) (c : Columns) (y : Tying s c) where
  inner : (k : ℕ) → k < c.count → k < s.cols.count
  inner k l = subst (λ n. k < n) y.tied.count l

  pub tied-order : InOrder c s.ends
  tied-order k l = y.ready.in_order k (inner k l)

  pub tied-sized : Sized c s.ends
  tied-sized = record { columns = y.tied.sized; ends = y.ready.sized.ends }

  pub tied-spanned : Spanned c s.ends
  tied-spanned k l = subst (λ w. nat_abs (at w k) * nat_abs (at s.ends.hi k -ℤ at s.ends.lo k) ≤ 900000000) (sym y.tied.weight)
      (y.spanned k (inner k l))

  pub tied-ranked : Ranked c
  tied-ranked = record { item_in = y.tied.tied.item_in; live_in = y.tied.tied.live_in; sizes = y.tied.tied.sizes }

  module _ (P : ℕ → ℤ) (inside : Inside s P) where
    abbrev f : Ends
    f = ends_at s P

    pub place-sized : Sized c f
    place-sized = record { columns = y.tied.sized; ends = fixed-sized s y.ready y.long P s.levels (omega arith) inside }

    module _ (marks : ℕ → Mark) (m : Marked s marks) where
      -- an integer item stands at its level's amount
      standing : (k : ℕ) → k < c.count → marks k ≡ Integer → (d : ℕ) × (d < s.levels) × (level_at s d ≡ k) × (at f.lo k ≡ P d) × (at f.hi k ≡ P d)
      standing k l i = let w = m.level k (inner k l) i in
          let h = fixed-level s y.ready y.long P s.levels w.0 (omega arith) w.1 in
          (w.0, w.1, w.2, subst (λ j. at f.lo j ≡ P w.0) w.2 h.0, subst (λ j. at f.hi j ≡ P w.0) w.2 h.1)

      -- a continuous item keeps its ends
      loose : (k : ℕ) → marks k ≡ Continuous → (at f.lo k ≡ at s.ends.lo k) × (at f.hi k ≡ at s.ends.hi k)
      loose k i = fixed-other s y.ready y.long P s.levels k (λ j l e. marks-differ (subst (λ n. marks n ≡ Integer) e (m.integer j l)) i)

      low : (k : ℕ) → k < c.count → (marks k ≡ Integer) ⊎ (marks k ≡ Continuous) → at s.ends.lo k ≤ℤ at f.lo k
      low k l (inr i) = ≤ℤ-reflexive (sym (loose k i).0)
      low k l (inl i) = let w = standing k l i in
          ≤ℤ-trans (≤ℤ-reflexive (ap (at s.ends.lo) (sym w.2) ∙ sym (y.ready.low-is w.0 w.1)))
          (≤ℤ-trans (inside w.0 w.1).0 (≤ℤ-reflexive (sym w.3)))

      high : (k : ℕ) → k < c.count → (marks k ≡ Integer) ⊎ (marks k ≡ Continuous) → at f.hi k ≤ℤ at s.ends.hi k
      high k l (inr i) = ≤ℤ-reflexive (loose k i).1
      high k l (inl i) = let w = standing k l i in
          ≤ℤ-trans (≤ℤ-reflexive w.4) (≤ℤ-trans (inside w.0 w.1).1 (≤ℤ-reflexive (y.ready.high_is w.0 w.1 ∙ ap (at s.ends.hi) w.2)))

      pub place-choice : Choice c s.ends marks f
      place-choice = record {
        fixed = λ k l i. let w = standing k l i in w.3 ∙ sym w.4;
        low = λ k l. low k l (by-mark (marks k));
        high = λ k l. high k l (by-mark (marks k));
        loose = λ k l i. loose k i;
      }

      -- ---- a feasible point that has the integer amounts P

      module _ (D : ℕ) (X : ℕ → ℤ) (D≥1 : 1 ≤ D) (x : Feasibleᴰ (box_of c s.ends marks) D X)
          (at_place : (d : ℕ) → d < s.levels → X (level_at s d) ≡ P d *ℤ pos D) where
        at_item : (k : ℕ) → k < c.count → marks k ≡ Integer → X k ≡ at f.lo k *ℤ pos D
        at_item k l i = let w = standing k l i in ap X (sym w.2) ∙ at_place w.0 w.1 ∙ ap (λ z. z *ℤ pos D) (sym w.3)

        within : Feasibleᴰ (box_of c f marks) D X
        within = choice-in c s.ends marks tied-order f place-choice D X at_item x

        pub place-room : pos 0 ≤ℤ (fill c f).room
        place-room = fill-some c f marks y.tied.tied (choice-order c s.ends marks tied-order f place-choice) D X D≥1 within

        pub place-leads : Leads (valueᴰ (box_of c s.ends marks)) c.count (parts c f) (filling c f) D X
        place-leads = foremost-leads (box_of c f marks) (parts c f) (filling c f)
            (choice-first c s.ends marks tied-order f place-choice y.tied.tied place-room) D X D≥1 within

      module _ (room : pos 0 ≤ℤ (fill c f).room) where
        pub place-feasible : Feasibleᴰ (box_of c s.ends marks) (parts c f) (filling c f)
        place-feasible = choice-out c s.ends marks tied-order f place-choice (parts c f) (filling c f)
            (choice-first c s.ends marks tied-order f place-choice y.tied.tied room).optimal.feasible

        pub place-parts : 1 ≤ parts c f
        place-parts = choice-parts c s.ends marks tied-order f place-choice y.tied.tied room
