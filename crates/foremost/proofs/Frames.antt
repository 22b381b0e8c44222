-- Frames: the arrangements of the continuous items that a filling can leave. In frame t those of the ranks below t stand at their heavy ends, the item of
-- rank t is cut, and the others stand at their light ends; in the last frame, t = live, no item is cut.
--   scale_at c t               the divisor of frame t: the weight without sign of the item that is cut; 1 if none is
--   Uncut c t k               item k is not cut
--   Frame c e marks t         frame t can be needed: no item is cut, or one that is continuous and not fixed
--   FramePoint c e marks t X  X / scale_at c t is a feasible point of frame t
--   LeadsFrame, LeadsFrames   a point leads those of a frame, and those of all frames
-- choice-frame: the filling of every choice is a point of a frame.
-- foremost-of-frames: so a feasible point that leads those of all frames is the first best point of the box.
-- by-mark: a mark is one of two.  scale-some: a divisor is not 0.
-- frame-trans: what leads a point that leads a frame leads the frame, so that the first of the frames' first points leads all.
-- choice-order, choice-out, choice-in, choice-first, choice-parts, choice-point: what a choice's ends, box and filling are.
use mathlib.Core.Path.{◌≡◌, refl, sym, ap, ap₂, ◌∙◌, subst}
use mathlib.Core.Bool.{Bool, true, false, cond}
use mathlib.Core.Logic.{◌≢◌, ◌⊎◌, inl, inr}
use Prim.Native.Nat.{ℕ, ◌≤◌, ◌<◌}
use native.Mathlib.Omega.{arith}
use borrow.Author.Tests.{ltb-true, ne_eqb}
use lib.Dec.{ltb, eqb}
use lib.IntN.{ℤ, pos, nat_abs, ◌+ℤ◌, ◌-ℤ◌, ◌*ℤ◌}
use lib.Signed.{◌≤ℤ◌, ◌<ℤ◌}
use Rattle.arith.proofs.Integers.{split, split3, zed, ≤ℤ-trans, ≤ℤ-reflexive, times-≤}
use Rattle.greedy.specs.declared.Columns.{Columns}
use Rattle.greedy.specs.declared.Ends.{Ends}
use Rattle.greedy.specs.Fill.{at, weight_of, price_of, item_of, rank_of, lightest, heaviest, width, fill, unit, stand}
use Rattle.greedy.specs.Ordered.{weight_at}
use Rattle.greedy.proofs.Greedy.{abs≥1}
use Rattle.greedy.proofs.Relaxed.{box_of, InOrder}
use Rattle.knapsack.proofs.Common.{valueᴰ, Feasibleᴰ}
use Rattle.knapsack.specs.declared.Mark.{Mark}
use Rattle.knapsack.specs.declared.Mark.TheVariants.{Integer, Continuous}
use Rattle.foremost.specs.Tied.{Tied}
use Rattle.foremost.proofs.Foremost.{Foremostᴰ}
use Rattle.foremost.proofs.Leads.{Leads, leads-trans}
use Rattle.foremost.proofs.Filling.{parts, filling, parts-by, parts-some, fill_stops, fill-foremost}
use Rattle.foremost.proofs.Choices.{Choice, foremost-of-choices}

abbrev pub scale_at : Columns → ℕ → ℕ
scale_at c t = cond (ltb t c.live) (nat_abs (at c.size t)) 1

abbrev pub Uncut : Columns → ℕ → ℕ → Type 0
Uncut c t k = t < c.live → rank_of c k ≢ t

pub data Frame (c : Columns) (e : Ends) (marks : ℕ → Mark) (t : ℕ) : Type 0 where
  last : t ≡ c.live → Frame c e marks t
  cuts : t < c.live → marks (item_of c t) ≡ Continuous → at e.lo (item_of c t) ≢ at e.hi (item_of c t) → Frame c e marks t

pub record FramePoint (c : Columns) (e : Ends) (marks : ℕ → Mark) (t : ℕ) (X : ℕ → ℤ) : Type 0 where
  pub feasible : Feasibleᴰ (box_of c e marks) (scale_at c t) X
  pub stands : (k : ℕ) → k < c.count → marks k ≡ Continuous → Uncut c t k → X k ≡ stand c e t k *ℤ pos (scale_at c t)

pub by-mark : (m : Mark) → (m ≡ Integer) ⊎ (m ≡ Continuous)
by-mark Integer = inl refl
by-mark Continuous = inr refl

-- ---- the filling of a choice

module _ (c : Columns) (e : Ends) (marks : ℕ → Mark) (b : InOrder c e) (f : Ends) (ch : Choice c e marks f) where
  pub choice-order : InOrder c f
  choice-order k l = go (by-mark (marks k))
    where
      go : (marks k ≡ Integer) ⊎ (marks k ≡ Continuous) → at f.lo k ≤ℤ at f.hi k
      go (inl m) = ≤ℤ-reflexive (ch.fixed k l m)
      go (inr m) = let h = ch.loose k l m in ≤ℤ-trans (≤ℤ-reflexive h.0) (≤ℤ-trans (b k l) (≤ℤ-reflexive (sym h.1)))

  -- what is within the choice's ends is within the box
  pub choice-out : (D : ℕ) (N : ℕ → ℤ) → Feasibleᴰ (box_of c f marks) D N → Feasibleᴰ (box_of c e marks) D N
  choice-out D N p = record {
    keeps = λ k l. record {
      marked = (p.keeps k l).marked;
      above = ≤ℤ-trans (times-≤ D _ _ (ch.low k l)) (p.keeps k l).above;
      below = ≤ℤ-trans (p.keeps k l).below (times-≤ D _ _ (ch.high k l));
    };
    fits = p.fits;
  }

  -- and a point of the box that has its integer amounts is within its ends
  pub choice-in : (D : ℕ) (N : ℕ → ℤ) → ((k : ℕ) → k < c.count → marks k ≡ Integer → N k ≡ at f.lo k *ℤ pos D) → Feasibleᴰ (box_of c e marks) D N
      → Feasibleᴰ (box_of c f marks) D N
  choice-in D N h p = record {
    keeps = λ k l. record { marked = (p.keeps k l).marked; above = low k l (by-mark (marks k)); below = high k l (by-mark (marks k)) };
    fits = p.fits;
  }
    where
      low : (k : ℕ) → k < c.count → (marks k ≡ Integer) ⊎ (marks k ≡ Continuous) → (at f.lo k *ℤ pos D) ≤ℤ N k
      low k l (inl m) = ≤ℤ-reflexive (sym (h k l m))
      low k l (inr m) = ≤ℤ-trans (≤ℤ-reflexive (ap (λ x. x *ℤ pos D) (ch.loose k l m).0)) (p.keeps k l).above

      high : (k : ℕ) → k < c.count → (marks k ≡ Integer) ⊎ (marks k ≡ Continuous) → N k ≤ℤ (at f.hi k *ℤ pos D)
      high k l (inl m) = ≤ℤ-reflexive (h k l m ∙ ap (λ x. x *ℤ pos D) (ch.fixed k l m))
      high k l (inr m) = ≤ℤ-trans (p.keeps k l).below (≤ℤ-reflexive (ap (λ x. x *ℤ pos D) (sym (ch.loose k l m).1)))

  module _ (o : Tied c) (room : pos 0 ≤ℤ (fill c f).room) where
    abbrev t : ℕ
    t = (fill c f).at

    pub choice-first : Foremostᴰ (box_of c f marks) (parts c f) (filling c f)
    choice-first = fill-foremost c f marks o choice-order room ch.fixed

    pub choice-parts : 1 ≤ parts c f
    choice-parts = parts-some c f marks o choice-order room

    pub scale-is : parts c f ≡ scale_at c t
    scale-is = parts-by c (fill c f)

    -- an item that is not cut stands
    uncut : (k : ℕ) → Uncut c t k → filling c f k ≡ stand c f t k *ℤ pos (parts c f)
    uncut k u = go (ltb t c.live) refl
      where
        plus-0 : (x : ℤ) → x +ℤ pos 0 ≡ x
        plus-0 = split _ (λ a b. simp zed (omega arith))

        go : (s : Bool) → ltb t c.live ≡ s
            → stand c f t k *ℤ pos (parts c f) +ℤ cond s (cond (eqb (rank_of c k) t) (unit (weight_of c k) *ℤ (fill c f).room) (pos 0)) (pos 0)
            ≡ stand c f t k *ℤ pos (parts c f)
        go true h = rw (ne_eqb (rank_of c k) t (u (ltb-true t c.live h))) (plus-0 (stand c f t k *ℤ pos (parts c f)))
        go false h = plus-0 (stand c f t k *ℤ pos (parts c f))

    -- a continuous item stands where it does in the box
    same-stand : (k : ℕ) → k < c.count → marks k ≡ Continuous → stand c f t k ≡ stand c e t k
    same-stand k l m = ap₂ (λ y z. cond (ltb (rank_of c k) t) (heaviest (weight_of c k) y z) (lightest (weight_of c k) (price_of c k) y z)) (ch.loose k l m).0
        (ch.loose k l m).1

    pub choice-point : FramePoint c e marks t (filling c f)
    choice-point = record {
      feasible = subst (λ q. Feasibleᴰ (box_of c e marks) q (filling c f)) scale-is (choice-out (parts c f) (filling c f) choice-first.optimal.feasible);
      stands = λ k l m u. uncut k u ∙ ap₂ (λ x q. x *ℤ pos q) (same-stand k l m) scale-is;
    }

    pub choice-frame : Frame c e marks t
    choice-frame = go (fill_stops c f marks o choice-order room)
      where
        none : (s x r : ℤ) → pos 0 ≤ℤ r → r <ℤ (s *ℤ (x -ℤ x)) → ⊥
        none = split3 _ (λ a b c e f g. simp zed (omega arith))

        apart : (fill c f).room <ℤ (at c.size t *ℤ width c f t) → at f.lo (item_of c t) ≢ at f.hi (item_of c t)
        apart h i = none (at c.size t) (at f.hi (item_of c t)) (fill c f).room room
            (subst (λ z. (fill c f).room <ℤ (at c.size t *ℤ (at f.hi (item_of c t) -ℤ z))) i h)

        made : (l : t < c.live) → at f.lo (item_of c t) ≢ at f.hi (item_of c t) → (marks (item_of c t) ≡ Integer) ⊎ (marks (item_of c t) ≡ Continuous)
            → Frame c e marks t
        made l h (inl m) = absurd (h (ch.fixed (item_of c t) (o.item_in t (omega (arith, o.live_in))) m))
        made l h (inr m) = let k = ch.loose (item_of c t) (o.item_in t (omega (arith, o.live_in))) m in cuts l m (λ i. h (k.0 ∙ i ∙ sym k.1))

        go : (t ≡ c.live) ⊎ ((t < c.live) × ((fill c f).room <ℤ (at c.size t *ℤ width c f t))) → Frame c e marks t
        go (inl h) = last h
        go (inr (l, h)) = made l (apart h) (by-mark (marks (item_of c t)))

-- ---- the first best point

module _ (c : Columns) (e : Ends) (marks : ℕ → Mark) where
  abbrev v : (ℕ → ℤ) → ℤ
  v = valueᴰ (box_of c e marks)

  abbrev pub LeadsFrame : ℕ → (ℕ → ℤ) → ℕ → Type 0
  LeadsFrame F Z t = (X : ℕ → ℤ) → FramePoint c e marks t X → Leads v c.count F Z (scale_at c t) X

  abbrev pub LeadsFrames : ℕ → (ℕ → ℤ) → Type 0
  LeadsFrames F Z = (t : ℕ) → Frame c e marks t → LeadsFrame F Z t

  module _ (o : Tied c) (b : InOrder c e) where
    pub foremost-of-frames : (F : ℕ) (Z : ℕ → ℤ) → 1 ≤ F → Feasibleᴰ (box_of c e marks) F Z → LeadsFrames F Z → Foremostᴰ (box_of c e marks) F Z
    foremost-of-frames F Z d p h = foremost-of-choices c e marks o b F d Z p (λ f ch room.
        subst (λ q. Leads v c.count F Z q (filling c f)) (sym (scale-is c e marks b f ch o room))
        (h (fill c f).at (choice-frame c e marks b f ch o room) (filling c f) (choice-point c e marks b f ch o room)))

  -- ---- frame after frame

  pub scale-some : Tied c → (t : ℕ) → 1 ≤ scale_at c t
  scale-some o t = go (ltb t c.live) refl
    where
      go : (s : Bool) → ltb t c.live ≡ s → 1 ≤ cond s (nat_abs (at c.size t)) 1
      go true h = let l = ltb-true t c.live h in omega (arith, ap nat_abs (o.sizes t l), abs≥1 (weight_at c t) (o.live-weight t l))
      go false h = omega arith

  pub frame-trans : Tied c → (F E : ℕ) (Z Y : ℕ → ℤ) (t : ℕ) → 1 ≤ F → 1 ≤ E → Leads v c.count F Z E Y → LeadsFrame E Y t → LeadsFrame F Z t
  frame-trans o F E Z Y t f g h k X p = leads-trans v c.count Y X Z (scale-some o t) g f h (k X p)
