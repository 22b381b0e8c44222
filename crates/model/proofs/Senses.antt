-- The sense of a reply: the solver's problem of a record in a sense is what the request defines.
--   end sense m          the choice of the weights that decide in a sense;  asked sense m: the solver's instance
-- between: every choice weighs a point as much as the low weights at least, and as the high ones at most.
-- fits_iff: a point that keeps its items fits with the weights that decide exactly if it fits in the sense.
-- sense-iff: so it is feasible exactly if it is permitted. whole-weights: whole weights alone would say the same.
-- sure-possible: what is feasible in the sure sense is in the possible. same-value: a point is worth the same in both.
-- sure-optimal, sure-unbounded: so a best point of the sure sense is worth no more, and what raises the value for ever does so in the possible one.
use mathlib.Core.Path.{◌≡◌, refl, sym, ap, ◌∙◌, subst, subst₂}
use mathlib.Core.Logic.{◌↔◌, ◌⊎◌, inl, inr}
use mathlib.Core.List.{List}
use Prim.Native.Nat.{ℕ, suc, ◌<◌}
use native.Mathlib.Omega.{arith}
use lib.IntN.{ℤ, pos}
use lib.Signed.{◌≤ℤ◌, ◌<ℤ◌}
use Rattle.arith.specs.Fractions.{Frac, int, ◌·ᶠ◌, ◌≤ᶠ◌, ◌<ᶠ◌, total}
use Rattle.arith.specs.Sum.{Each}
use Rattle.arith.proofs.Fractions.{total-cong, ≤ᶠ-trans}
use Rattle.arith.proofs.Integers.{split2, zed, ≤ℤ-or-<, ≤ℤ-reflexive}
use Rattle.knapsack.specs.Meaning.{Instance, instance_of, Point, Keeps, KeepsLower, weighs, value, stepped}
use Rattle.std.specs.Prelude.{Option, None, Some}
use Rattle.knapsack.specs.declared.Item.{Item}
use Rattle.model.specs.declared.Blanks.{Blanks}
use Rattle.model.specs.declared.Model.{Model}
use Rattle.model.specs.declared.Need.{Need}
use Rattle.model.specs.declared.Sense.{Sense}
use Rattle.model.specs.declared.Sense.TheVariants.{Sure, Possible}
use Rattle.model.specs.Needs.{NotNegative, FeasibleNeeds, OptimalNeeds, UnboundedNeeds}
use Rattle.model.specs.Records.{item_at, weight_in, plain_of, needs_of, AdmissibleBy}
use Rattle.model.specs.Senses.{times, Choice, FitsBy, FitsIn, FitsInWhole, KeepsItem, Permitted}
use Rattle.model.proofs.Plain.{plain-item}
use Rattle.model.proofs.Weighing.{total_mono, times-whole, whole-times, weighs-mono}

whole-≤ : (a b : ℤ) → a ≤ℤ b → int a ≤ᶠ int b
unfolding ◌≤ᶠ◌
whole-≤ = split2 _ (λ a b c e. simp zed (omega arith))

≤ᶠ-refl : (x : Frac) → x ≤ᶠ x
unfolding ◌≤ᶠ◌
≤ᶠ-refl x = ≤ℤ-reflexive refl

module _ (m : Model) where
  abbrev pub asked : Sense → Instance
  asked sense = instance_of (plain_of sense m)

  abbrev end : Sense → ℕ → ℤ
  end sense k = weight_in sense (item_at m k)

  abbrev ns : List Need
  ns = needs_of m.needs

  -- what a point weighs in the solver's problem is what it weighs with the weights that decide
  module _ (sense : Sense) (x : Point) where
    plainly : weighs (asked sense) x ≡ total m.count (λ k. end sense k ·ᶠ x k)
    plainly = total-cong m.count _ _ (λ k l. ap (λ (i : Item). i.weight ·ᶠ x k) (plain-item sense m k))

    by_end : total m.count (λ k. times (int (end sense k)) (x k)) ≤ᶠ weighs (asked sense) x
    by_end = rw plainly (total_mono m.count _ (λ k. end sense k ·ᶠ x k) (λ k l. times-whole (end sense k) (x k)))

    end_by : weighs (asked sense) x ≤ᶠ total m.count (λ k. times (int (end sense k)) (x k))
    end_by = rw plainly (total_mono m.count (λ k. end sense k ·ᶠ x k) _ (λ k l. whole-times (end sense k) (x k)))

  module _ {b : Blanks} (adm : AdmissibleBy b m) where
    -- the weights that decide are a choice
    end-chosen : (sense : Sense) → Choice m (λ k. int (end sense k))
    end-chosen Sure k l = (whole-≤ _ _ (adm.ordered k l), ≤ᶠ-refl (int (item_at m k).high))
    end-chosen Possible k l = (≤ᶠ-refl (int (item_at m k).low), whole-≤ _ _ (adm.ordered k l))

    abbrev KeepsAll : Point → Type 0
    KeepsAll x = (k : ℕ) → k < m.count → KeepsItem (item_at m k) (x k)

    -- of an item whose weight is a range there is nothing below 0
    above_zero : (l : Option ℤ) (x : Frac) → NotNegative l → KeepsLower l x → int (pos 0) ≤ᶠ x
    above_zero None x n h = absurd n
    above_zero (Some l) x n h = ≤ᶠ-trans (int (pos 0)) (int l) x (whole-≤ (pos 0) l n) h

    ranged : (x : Point) → KeepsAll x → Each m.count (λ k. (int (pos 0) ≤ᶠ x k) ⊎ (int (item_at m k).high ≤ᶠ int (item_at m k).low))
    ranged x keeps k l = go (≤ℤ-or-< (item_at m k).high (item_at m k).low)
      where
        go : ((item_at m k).high ≤ℤ (item_at m k).low) ⊎ ((item_at m k).low <ℤ (item_at m k).high) →
            (int (pos 0) ≤ᶠ x k) ⊎ (int (item_at m k).high ≤ᶠ int (item_at m k).low)
        go (inl h) = inr (whole-≤ _ _ h)
        go (inr h) = inl (above_zero (item_at m k).lower (x k) (adm.ranged k l h) (keeps k l).above)

    module _ (x : Point) (keeps : KeepsAll x) (w : ℕ → Frac) (chosen : Choice m w) where
      between-low : total m.count (λ k. times (int (item_at m k).low) (x k)) ≤ᶠ total m.count (λ k. times (w k) (x k))
      between-low = weighs-mono m.count (λ k. int (item_at m k).low) w x (λ k l. (chosen k l).0) (λ k l. go k l (ranged x keeps k l))
        where
          go : (k : ℕ) → k < m.count → (int (pos 0) ≤ᶠ x k) ⊎ (int (item_at m k).high ≤ᶠ int (item_at m k).low) →
              (int (pos 0) ≤ᶠ x k) ⊎ (w k ≤ᶠ int (item_at m k).low)
          go k l (inl h) = inl h
          go k l (inr h) = inr (≤ᶠ-trans (w k) (int (item_at m k).high) (int (item_at m k).low) (chosen k l).1 h)

      between-high : total m.count (λ k. times (w k) (x k)) ≤ᶠ total m.count (λ k. times (int (item_at m k).high) (x k))
      between-high = weighs-mono m.count w (λ k. int (item_at m k).high) x (λ k l. (chosen k l).1) (λ k l. go k l (ranged x keeps k l))
        where
          go : (k : ℕ) → k < m.count → (int (pos 0) ≤ᶠ x k) ⊎ (int (item_at m k).high ≤ᶠ int (item_at m k).low) →
              (int (pos 0) ≤ᶠ x k) ⊎ (int (item_at m k).high ≤ᶠ w k)
          go k l (inl h) = inl h
          go k l (inr h) = inr (≤ᶠ-trans (int (item_at m k).high) (int (item_at m k).low) (w k) h (chosen k l).0)

    -- the choice that decides: in the sure sense the worst, in the possible the best
    decides : (sense : Sense) (x : Point) → KeepsAll x → FitsBy m (λ k. int (end sense k)) x → FitsIn sense m x
    decides Sure x keeps h = λ w chosen. ≤ᶠ-trans _ _ (int m.capacity) (between-high x keeps w chosen) h
    decides Possible x keeps h = (λ k. int (item_at m k).low, (end-chosen Possible, h))

    decided : (sense : Sense) (x : Point) → KeepsAll x → FitsIn sense m x → FitsBy m (λ k. int (end sense k)) x
    decided Sure x keeps h = h (λ k. int (item_at m k).high) (end-chosen Sure)
    decided Possible x keeps h = ≤ᶠ-trans _ _ (int m.capacity) (between-low x keeps h.0 h.1.0) h.1.1

    pub fits_iff : (sense : Sense) (x : Point) → KeepsAll x → (weighs (asked sense) x ≤ᶠ int m.capacity) ↔ FitsIn sense m x
    fits_iff sense x keeps = (
      λ h. decides sense x keeps (≤ᶠ-trans _ (weighs (asked sense) x) (int m.capacity) (by_end sense x) h),
      λ h. ≤ᶠ-trans (weighs (asked sense) x) _ (int m.capacity) (end_by sense x) (decided sense x keeps h),
    )

    -- End theorem: the solver's problem in a sense is what the sense means.
    pub sense-iff : (sense : Sense) (x : Point) → FeasibleNeeds (asked sense) ns x ↔ Permitted sense m x
    sense-iff sense x = (there-is, back)
      where
        there-is : FeasibleNeeds (asked sense) ns x → Permitted sense m x
        there-is f = record { keeps = keeps; fits = (fits_iff sense x keeps).0 f.plain.fits; kept = f.kept }
          where
            keeps : KeepsAll x
            keeps k l =
                let h = subst (λ (i : Item). Keeps i (x k)) (plain-item sense m k) (f.plain.keeps k l) in
                record { marked = h.marked; above = h.above; below = h.below }

        back : Permitted sense m x → FeasibleNeeds (asked sense) ns x
        back p = record {
          plain = record {
            keeps = λ k l. let h = p.keeps k l in
                subst (λ (i : Item). Keeps i (x k)) (sym (plain-item sense m k)) (record { marked = h.marked; above = h.above; below = h.below });
            fits = (fits_iff sense x p.keeps).1 p.fits;
          };
          kept = p.kept;
        }

    -- End theorem: it is the same if only whole weights are thought of.
    pub whole-weights : (sense : Sense) (x : Point) → KeepsAll x → FitsIn sense m x ↔ FitsInWhole sense m x
    whole-weights Sure x keeps =
        (λ h w chosen. h (λ k. int (w k)) chosen, λ h. decides Sure x keeps (h (end Sure) (end-chosen Sure)))
    whole-weights Possible x keeps =
        (λ h. (end Possible, (end-chosen Possible, decided Possible x keeps h)), λ h. (λ k. int (h.0 k), h.1))

    -- ---- the two senses together

    pub sure-possible : (x : Point) → FeasibleNeeds (asked Sure) ns x → FeasibleNeeds (asked Possible) ns x
    sure-possible x f =
        let p = (sense-iff Sure x).0 f in
        let high : ℕ → Frac = λ k. int (item_at m k).high in
        (sense-iff Possible x).1 (record { keeps = p.keeps; fits = (high, (end-chosen Sure, p.fits high (end-chosen Sure))); kept = p.kept })

    pub same-value : (x : Point) → value (asked Sure) x ≡ value (asked Possible) x
    same-value x =
        total-cong m.count _ _ (λ k l. ap (λ (i : Item). i.price ·ᶠ x k) (plain-item Sure m k)
        ∙ sym (ap (λ (i : Item). i.price ·ᶠ x k) (plain-item Possible m k)))

    pub sure-optimal : (x y : Point) → OptimalNeeds (asked Sure) ns x → OptimalNeeds (asked Possible) ns y →
        value (asked Sure) x ≤ᶠ value (asked Possible) y
    sure-optimal x y s p = subst (λ v. v ≤ᶠ value (asked Possible) y) (sym (same-value x)) (p.highest x (sure-possible x s.feasible))

    pub sure-unbounded : (x : Point) (d : ℕ → ℤ) → UnboundedNeeds (asked Sure) ns x d → UnboundedNeeds (asked Possible) ns x d
    sure-unbounded x d u = record {
      plain = record {
        i = u.plain.i;
        j = u.plain.j;
        i-in = u.plain.i-in;
        j-in = u.plain.j-in;
        i-moves = u.plain.i-moves;
        j-moves = u.plain.j-moves;
        others = u.plain.others;
        from = (sure-possible x u.from).plain;
        stays = λ t. (sure-possible (stepped x d t) (u.stays t)).plain;
        rises = λ t. subst₂ ◌<ᶠ◌ (same-value (stepped x d t)) (same-value (stepped x d (suc t))) (u.plain.rises t);
      };
      from = sure-possible x u.from;
      stays = λ t. sure-possible (stepped x d t) (u.stays t);
    }
