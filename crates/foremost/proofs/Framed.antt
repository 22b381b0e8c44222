-- The points of a frame by ends of its own: those of the box for what is whole or cut, and for another item both where it stands.
--   cut_at c t              the item that is cut; 16 if none is
--   frame_end c e w t x k   an end of item k in frame t, where x is that of the box; w says which items are whole
--   PointOf c f E cut X    X / E keeps the ends f and the capacity, and is whole but for the item cut
-- frame-within: End theorem. A point of frame t keeps its ends.  within-frame: End theorem. And what keeps them is a point of the frame.
-- is-loss: a loss n / d over the divisor E.
-- frame-leads: End theorem. The first point of the frame that loses the least, n / d = r / scale_at c t, leads the frame.
-- frame-none: End theorem. Where the frame has none, one of another frame leads it.  frame-floor: End theorem. None loses less.
-- frame_apart: End theorem. And it does where n / d is no such fraction.
use mathlib.Core.Path.{◌≡◌, refl, sym, ap, ◌∙◌, subst}
use mathlib.Core.Bool.{Bool, true, false, cond}
use mathlib.Core.Logic.{◌≢◌, ◌⊎◌, inl, inr}
use Prim.Native.Nat.{ℕ, suc, ◌*◌, ◌≤◌, ◌<◌}
use native.Mathlib.Omega.{arith}
use native.Mathlib.Nat.{mul-le-mul_right}
use borrow.Author.Tests.{ltb-true, lt-ltb, eqb-false, ne_eqb}
use lib.Dec.{ltb, eqb}
use lib.IntN.{ℤ, pos, negsuc, nat_abs, ◌*ℤ◌}
use lib.Signed.{◌≤ℤ◌, ◌<ℤ◌, ≤ℤ_refl, lt_z}
use Rattle.arith.proofs.Integers.{split, zed, ≤ℤ-trans, ≤ℤ-antisym, ≤ℤ-reflexive, times-≤, times-≤-back, times-≡-back}
use Rattle.arith.proofs.Parts.{impossible}
use Rattle.arith.specs.Sum.{sum}
use Rattle.greedy.specs.declared.Columns.{Columns}
use Rattle.greedy.specs.declared.Ends.{Ends}
use Rattle.greedy.specs.Fill.{at, weight_of, price_of, item_of, rank_of, stand}
use Rattle.greedy.proofs.Relaxed.{box_of, InOrder}
use Rattle.knapsack.proofs.Common.{KeepsMarkᴰ, valueᴰ}
use Rattle.knapsack.specs.declared.Mark.{Mark}
use Rattle.knapsack.specs.declared.Mark.TheVariants.{Integer, Continuous}
use Rattle.foremost.specs.Tied.{Tied}
use Rattle.foremost.proofs.Covering.{marks-differ}
use Rattle.foremost.proofs.Frames.{scale_at, scale-some, Uncut, FramePoint, LeadsFrame, by-mark}
use Rattle.foremost.proofs.Earlier.{NotAfter, not-after-times}
use Rattle.foremost.proofs.Losses.{loss_by, LosesJust, LosesMore, loss-leads, loss-none}

abbrev pub cut_at : Columns → ℕ → ℕ
cut_at c t = cond (ltb t c.live) (item_of c t) 16

abbrev pub frame_end : Columns → Ends → (ℕ → Bool) → ℕ → ℤ → ℕ → ℤ
frame_end c e w t x k = cond (w k) x (cond (eqb k (cut_at c t)) x (stand c e t k))

pub record PointOf (c : Columns) (f : Ends) (E cut : ℕ) (X : ℕ → ℤ) : Type 0 where
  pub above : (k : ℕ) → k < c.count → (at f.lo k *ℤ pos E) ≤ℤ X k
  pub below : (k : ℕ) → k < c.count → X k ≤ℤ (at f.hi k *ℤ pos E)
  pub fits : sum c.count (λ k. weight_of c k *ℤ X k) ≤ℤ (c.capacity *ℤ pos E)
  pub whole : (k : ℕ) → k < c.count → k ≢ cut → (x : ℤ) × (X k ≡ x *ℤ pos E)

-- ---- a loss n / d over the divisor E: r / E

loss-is : (n d E r : ℕ) (x : ℤ) → 1 ≤ d → d * r ≡ n * E → pos d *ℤ x ≡ pos n *ℤ pos E → x ≡ pos r
loss-is n d E r x h i k = times-≡-back d x (pos r) h (go n d E r x i k)
  where
    go : (n d E r : ℕ) (x : ℤ) → d * r ≡ n * E → pos d *ℤ x ≡ pos n *ℤ pos E → x *ℤ pos d ≡ pos r *ℤ pos d
    go n d E r = split _ (λ a b. simp zed (omega arith))

pub is-loss : (n d E r : ℕ) (x : ℤ) → d * r ≡ n * E → x ≡ pos r → pos d *ℤ x ≡ pos n *ℤ pos E
is-loss n d E r = split _ (λ a b. simp zed (λ h k. omega (arith, ap (λ (m : ℕ). d * m) k)))

floor-is : (n d E r : ℕ) (x : ℤ) → 1 ≤ d → d * r ≡ n * E → (pos n *ℤ pos E) ≤ℤ (pos d *ℤ x) → pos r ≤ℤ x
floor-is n d E r x h i k = times-≤-back d (pos r) x h (go n d E r x i k)
  where
    go : (n d E r : ℕ) (x : ℤ) → d * r ≡ n * E → (pos n *ℤ pos E) ≤ℤ (pos d *ℤ x) → (pos r *ℤ pos d) ≤ℤ (x *ℤ pos d)
    go n d E r = split _ (λ a b. simp zed (omega arith))

more-not : (r : ℕ) (x : ℤ) → pos r <ℤ x → x ≡ pos r → ⊥
more-not r = split _ (λ a b. simp zed (omega arith))

no-loss : (n d E : ℕ) (x : ℤ) → 1 ≤ d → ((y : ℕ) → d * y ≡ n * E → ⊥) → pos d *ℤ x ≡ pos n *ℤ pos E → ⊥
no-loss n d E (pos m) h none k = none m (ap nat_abs k)
no-loss n d E (negsuc m) h none k = below d m n E h k
  where
    below : (d m n E : ℕ) → 1 ≤ d → pos d *ℤ negsuc m ≡ pos n *ℤ pos E → ⊥
    below d m n E h = simp zed (λ k. omega (arith, mul-le-mul_right (suc m) h))

-- ---- points

module _ (c : Columns) (e : Ends) (marks : ℕ → Mark) (o : Tied c) (few : c.count ≤ 16) (w : ℕ → Bool)
    (marked : (k : ℕ) → k < c.count → w k ≡ true → marks k ≡ Integer) (unmarked : (k : ℕ) → k < c.count → marks k ≡ Integer → w k ≡ true) (t : ℕ) (f : Ends)
    (low : (k : ℕ) → k < c.count → at f.lo k ≡ frame_end c e w t (at e.lo k) k)
    (high : (k : ℕ) → k < c.count → at f.hi k ≡ frame_end c e w t (at e.hi k) k) where
  abbrev E : ℕ
  E = scale_at c t

  -- not cut, by the rank and by the item
  is-uncut : (k : ℕ) → k < c.count → k ≢ cut_at c t → Uncut c t k
  is-uncut k l n m r = n (sym (o.item-rank k l) ∙ ap (item_of c) r ∙ sym (ap (λ b. cond b (item_of c t) 16) (lt-ltb t c.live m)))

  not-cut : (k : ℕ) → k < c.count → Uncut c t k → k ≢ cut_at c t
  not-cut k l u = go (ltb t c.live) refl
    where
      go : (b : Bool) → ltb t c.live ≡ b → k ≢ cond b (item_of c t) 16
      go true h i = let m = ltb-true t c.live h in u m (ap (rank_of c) i ∙ o.rank-item t (omega (arith, o.live_in)))
      go false h i = absurd (omega arith)

  loose : (k : ℕ) → k < c.count → w k ≡ false → marks k ≡ Continuous
  loose k l h = go (by-mark (marks k))
    where
      go : (marks k ≡ Integer) ⊎ (marks k ≡ Continuous) → marks k ≡ Continuous
      go (inl m) = absurd (impossible (sym h ∙ unmarked k l m))
      go (inr m) = m

  -- an item that is neither whole nor cut has both ends where it stands
  frame-stand : (x : ℤ) (k : ℕ) → k < c.count → marks k ≡ Continuous → Uncut c t k → frame_end c e w t x k ≡ stand c e t k
  frame-stand x k l m u = go (w k) refl
    where
      go : (b : Bool) → w k ≡ b → cond b x (cond (eqb k (cut_at c t)) x (stand c e t k)) ≡ stand c e t k
      go true h = absurd (marks-differ (marked k l h) m)
      go false h = ap (λ b. cond b x (stand c e t k)) (ne_eqb k (cut_at c t) (not-cut k l u))

  -- what holds of the box's end and of where an item stands, if it does, holds of the frame's
  frame-by : (P : ℤ → Type 0) (x : ℤ) (k : ℕ) → k < c.count → P x → (marks k ≡ Continuous → Uncut c t k → P (stand c e t k)) → P (frame_end c e w t x k)
  frame-by P x k l p s = go (w k) refl (eqb k (cut_at c t)) refl
    where
      go : (b : Bool) → w k ≡ b → (d : Bool) → eqb k (cut_at c t) ≡ d → P (cond b x (cond d x (stand c e t k)))
      go true h d i = p
      go false h true i = p
      go false h false i = s (loose k l h) (is-uncut k l (eqb-false k (cut_at c t) i))

  pub frame-within : (X : ℕ → ℤ) → FramePoint c e marks t X → PointOf c f E (cut_at c t) X
  frame-within X p = record {
    above = λ k l. subst (λ y. (y *ℤ pos E) ≤ℤ X k) (sym (low k l)) (frame-by (λ y. (y *ℤ pos E) ≤ℤ X k) (at e.lo k) k l (p.feasible.keeps k l).above
        (λ m u. ≤ℤ-reflexive (sym (p.stands k l m u))));
    below = λ k l. subst (λ y. X k ≤ℤ (y *ℤ pos E)) (sym (high k l)) (frame-by (λ y. X k ≤ℤ (y *ℤ pos E)) (at e.hi k) k l (p.feasible.keeps k l).below
        (λ m u. ≤ℤ-reflexive (p.stands k l m u)));
    fits = p.feasible.fits;
    whole = λ k l n. whole k l n (by-mark (marks k));
  }
    where
      whole : (k : ℕ) → k < c.count → k ≢ cut_at c t → (marks k ≡ Integer) ⊎ (marks k ≡ Continuous) → (x : ℤ) × (X k ≡ x *ℤ pos E)
      whole k l n (inl m) = subst (λ i. KeepsMarkᴰ E i (X k)) m (p.feasible.keeps k l).marked
      whole k l n (inr m) = (stand c e t k, p.stands k l m (is-uncut k l n))

  module _ (b : InOrder c e) (free : t < c.live → marks (item_of c t) ≡ Continuous) where
    stand-in : (k : ℕ) → k < c.count → (at e.lo k ≤ℤ stand c e t k) × (stand c e t k ≤ℤ at e.hi k)
    stand-in k l = go (ltb (rank_of c k) t) (lt_z (weight_of c k) (pos 0)) (lt_z (pos 0) (weight_of c k)) (lt_z (pos 0) (price_of c k))
      where
        at_low : (at e.lo k ≤ℤ at e.lo k) × (at e.lo k ≤ℤ at e.hi k)
        at_low = (≤ℤ_refl (at e.lo k), b k l)

        at_high : (at e.lo k ≤ℤ at e.hi k) × (at e.hi k ≤ℤ at e.hi k)
        at_high = (b k l, ≤ℤ_refl (at e.hi k))

        by : Bool → Bool → Bool → Bool → ℤ
        by r x y z = cond r (cond x (at e.lo k) (at e.hi k)) (cond y (at e.lo k) (cond x (at e.hi k) (cond z (at e.hi k) (at e.lo k))))

        go : (r x y z : Bool) → (at e.lo k ≤ℤ by r x y z) × (by r x y z ≤ℤ at e.hi k)
        go true true y z = at_low
        go true false y z = at_high
        go false x true z = at_low
        go false true false z = at_high
        go false false false true = at_high
        go false false false false = at_low

    -- an integer item is not cut
    integer-uncut : (k : ℕ) → k < c.count → marks k ≡ Integer → k ≢ cut_at c t
    integer-uncut k l m = not-cut k l (λ i r. marks-differ m (ap marks (sym (ap (item_of c) (sym r) ∙ o.item-rank k l)) ∙ free i))

    pub within-frame : (X : ℕ → ℤ) → PointOf c f E (cut_at c t) X → FramePoint c e marks t X
    within-frame X p = record {
      feasible = record {
        keeps = λ k l. record {
          marked = keeps-mark k l (marks k) refl;
          above = ≤ℤ-trans (times-≤ E _ _ (subst (λ y. at e.lo k ≤ℤ y) (sym (low k l))
              (frame-by (λ y. at e.lo k ≤ℤ y) (at e.lo k) k l (≤ℤ_refl (at e.lo k)) (λ m u. (stand-in k l).0)))) (p.above k l);
          below = ≤ℤ-trans (p.below k l) (times-≤ E _ _ (subst (λ y. y ≤ℤ at e.hi k) (sym (high k l))
              (frame-by (λ y. y ≤ℤ at e.hi k) (at e.hi k) k l (≤ℤ_refl (at e.hi k)) (λ m u. (stand-in k l).1))));
        };
        fits = p.fits;
      };
      stands = λ k l m u. ≤ℤ-antisym
          (subst (λ y. X k ≤ℤ (y *ℤ pos E)) (high k l ∙ frame-stand (at e.hi k) k l m u) (p.below k l))
          (subst (λ y. (y *ℤ pos E) ≤ℤ X k) (low k l ∙ frame-stand (at e.lo k) k l m u) (p.above k l));
    }
      where
        keeps-mark : (k : ℕ) → k < c.count → (i : Mark) → marks k ≡ i → KeepsMarkᴰ E i (X k)
        keeps-mark k l Integer m = p.whole k l (integer-uncut k l m)
        keeps-mark k l Continuous m = tt

  -- ---- the first point of the frame that loses r over its divisor, as n / d

  module _ (T : ℤ) (q n d r : ℕ) (q≥1 : 1 ≤ q) (d≥1 : 1 ≤ d) (over : d * r ≡ n * E)
      (bound : (X : ℕ → ℤ) → FramePoint c e marks t X → LosesMore T q (valueᴰ (box_of c e marks)) n d E X) where
    abbrev loses : (ℕ → ℤ) → ℤ
    loses X = loss_by T q (valueᴰ (box_of c e marks)) E X

    pub frame-leads : (Y : ℕ → ℤ) → loses Y ≡ pos r → ((M : ℕ → ℤ) → PointOf c f E (cut_at c t) M → loses M ≡ pos r → NotAfter c.count Y M)
        → LeadsFrame c e marks E Y t
    frame-leads Y y first = loss-leads c e marks T q n d q≥1 d≥1 E Y (scale-some c e marks o t) (is-loss n d E r (loses Y) over y) t bound
        (λ X p k. not-after-times E (scale-some c e marks o t) (first X (frame-within X p) (loss-is n d E r (loses X) d≥1 over k)))

    pub frame-none : (F : ℕ) (Z : ℕ → ℤ) → 1 ≤ F → LosesJust T q (valueᴰ (box_of c e marks)) n d F Z
        → ((M : ℕ → ℤ) → PointOf c f E (cut_at c t) M → pos r <ℤ loses M) → LeadsFrame c e marks F Z t
    frame-none F Z F≥1 just none = loss-none c e marks T q n d q≥1 d≥1 F Z F≥1 just t bound
        (λ X p k. more-not r (loses X) (none X (frame-within X p)) (loss-is n d E r (loses X) d≥1 over k))

    pub frame-floor : InOrder c e → (t < c.live → marks (item_of c t) ≡ Continuous) → (M : ℕ → ℤ) → PointOf c f E (cut_at c t) M → pos r ≤ℤ loses M
    frame-floor b free M p = floor-is n d E r (loses M) d≥1 over (bound M (within-frame b free M p))

-- if n E / d is no integer, no point of the frame loses n / d
pub frame_apart : (c : Columns) (e : Ends) (marks : ℕ → Mark) (T : ℤ) (q n d : ℕ) → 1 ≤ q → 1 ≤ d → (F : ℕ) (Z : ℕ → ℤ) → 1 ≤ F
    → LosesJust T q (valueᴰ (box_of c e marks)) n d F Z → (t : ℕ)
    → ((X : ℕ → ℤ) → FramePoint c e marks t X → LosesMore T q (valueᴰ (box_of c e marks)) n d (scale_at c t) X)
    → ((y : ℕ) → d * y ≡ n * scale_at c t → ⊥) → LeadsFrame c e marks F Z t
frame_apart c e marks T q n d q≥1 d≥1 F Z F≥1 just t bound none = loss-none c e marks T q n d q≥1 d≥1 F Z F≥1 just t bound
    (λ X p k. no-loss n d (scale_at c t) (loss_by T q (valueᴰ (box_of c e marks)) (scale_at c t) X) d≥1 none k)
