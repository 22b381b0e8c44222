-- Covering: every feasible point of a box has a filling with the same integer amounts that is worth no less, and that does not come after it
-- if it is worth as much. So the first best point is the first of the best fillings, one for each choice of the integer amounts.
--   Pinned D m l u x l' u'   an integer item's ends are its amount x / D, a continuous item's ends stay
--   Completion c e marks D N    such a filling for the point N / D of the box
-- marks-differ: no mark is both.  fill-some: if anything is feasible, the filling has room.  covering: each feasible point is covered.
use mathlib.Core.Path.{◌≡◌, refl, sym, ap, ◌∙◌, subst}
use mathlib.Core.Logic.{◌⊎◌, inl, inr}
use Prim.Native.Nat.{ℕ, suc, ◌*◌, ◌≤◌, ◌<◌}
use native.Mathlib.Omega.{arith}
use native.Mathlib.Decide.{dec_lt}
use lib.IntN.{ℤ, pos, nat_abs, ◌*ℤ◌}
use lib.Signed.{◌≤ℤ◌, ◌<ℤ◌}
use Rattle.arith.proofs.Integers.{split, zed, ≤ℤ-trans, ≤ℤ-reflexive, ≤ℤ-antisym, ≤ℤ-or-<, times-≤, times-≤-back}
use Rattle.greedy.specs.declared.Columns.{Columns}
use Rattle.greedy.specs.declared.Ends.{Ends}
use Rattle.greedy.specs.Fill.{at, weight_of, fill}
use Rattle.greedy.proofs.Relaxed.{box_of, InOrder, fill-empty}
use Rattle.knapsack.proofs.Common.{KeepsMarkᴰ, valueᴰ, Feasibleᴰ}
use Rattle.knapsack.specs.declared.Mark.{Mark}
use Rattle.knapsack.specs.declared.Mark.TheVariants.{Integer, Continuous}
use Rattle.foremost.proofs.Foremost.{Foremostᴰ}
use Rattle.foremost.proofs.Leads.{Leads, foremost-leads}
use Rattle.foremost.proofs.Ghost.{most, most-is}
use Rattle.foremost.specs.Tied.{Tied}
use Rattle.foremost.proofs.Ties.{Large, ghosted, ghost-ordered, listed, listed_at}
use Rattle.foremost.proofs.Filling.{ghost-fill, parts, filling, Settled, fill-foremost, parts-some}

pub data Pinned (D : ℕ) (m : Mark) (l u x l' u' : ℤ) : Type 0 where
  set : m ≡ Integer → l' ≡ u' → x ≡ l' *ℤ pos D → Pinned D m l u x l' u'
  free : m ≡ Continuous → l' ≡ l → u' ≡ u → Pinned D m l u x l' u'

pub record Completion (c : Columns) (e : Ends) (marks : ℕ → Mark) (D : ℕ) (N : ℕ → ℤ) : Type 0 where
  pub ends : Ends
  pub pinned : (k : ℕ) → k < c.count → Pinned D (marks k) (at e.lo k) (at e.hi k) (N k) (at ends.lo k) (at ends.hi k)
  pub order : InOrder c ends
  pub settled : Settled c ends marks
  pub room : pos 0 ≤ℤ (fill c ends).room
  pub feasible : Feasibleᴰ (box_of c e marks) (parts c ends) (filling c ends)
  pub divisor : 1 ≤ parts c ends
  pub whole : (k : ℕ) → k < c.count → marks k ≡ Integer → filling c ends k *ℤ pos D ≡ N k *ℤ pos (parts c ends)
  pub leads : Leads (valueᴰ (box_of c e marks)) c.count (parts c ends) (filling c ends) D N

-- ---- room

pub fill-some : (c : Columns) (e : Ends) (marks : ℕ → Mark) → Tied c → InOrder c e → (D : ℕ) (N : ℕ → ℤ) → 1 ≤ D → Feasibleᴰ (box_of c e marks) D N
    → pos 0 ≤ℤ (fill c e).room
fill-some c e marks o b D N d p = go (≤ℤ-or-< (pos 0) (fill c e).room)
  where
    M : ℕ
    M = suc (suc (most c.count (λ k. 2 * nat_abs (weight_of c k))))

    large : Large M c
    large = record { two = omega arith; weights = λ k l. omega (arith, most-is c.count (λ k. 2 * nat_abs (weight_of c k)) k l) }

    go : (pos 0 ≤ℤ (fill c e).room) ⊎ ((fill c e).room <ℤ pos 0) → pos 0 ≤ℤ (fill c e).room
    go (inl h) = h
    go (inr h) = absurd (fill-empty (ghosted M c) e marks (ghost-ordered M c o large) b (subst (λ r. r <ℤ pos 0) (sym (ghost-fill M c e large.two).room) h)
        D N d
        (record { keeps = λ k l. record { marked = (p.keeps k l).marked; above = (p.keeps k l).above; below = (p.keeps k l).below }; fits = p.fits }))

-- ---- ends at the integer amounts

-- the whole amount of an integer item, and d for any other
whole_or : (D : ℕ) (m : Mark) (x d : ℤ) → KeepsMarkᴰ D m x → ℤ
whole_or D Integer x d (w, e) = w
whole_or D Continuous x d t = d

pins : (D : ℕ) (m : Mark) (l u x : ℤ) (k : KeepsMarkᴰ D m x) → Pinned D m l u x (whole_or D m x l k) (whole_or D m x u k)
unfolding whole_or
pins D Integer l u x (w, e) = set refl refl e
pins D Continuous l u x t = free refl refl refl

pin-order : {D : ℕ} {m : Mark} {l u x l' u' : ℤ} → Pinned D m l u x l' u' → l ≤ℤ u → l' ≤ℤ u'
pin-order (set f g h) o = ≤ℤ-reflexive g
pin-order (free f g h) o = ≤ℤ-trans (≤ℤ-reflexive g) (≤ℤ-trans o (≤ℤ-reflexive (sym h)))

-- the amount keeps the new ends
pin-above : {D : ℕ} {m : Mark} {l u x l' u' : ℤ} → Pinned D m l u x l' u' → (l *ℤ pos D) ≤ℤ x → (l' *ℤ pos D) ≤ℤ x
pin-above (set f g h) a = ≤ℤ-reflexive (sym h)
pin-above {D} (free f g h) a = ≤ℤ-trans (≤ℤ-reflexive (ap (λ z. z *ℤ pos D) g)) a

pin-below : {D : ℕ} {m : Mark} {l u x l' u' : ℤ} → Pinned D m l u x l' u' → x ≤ℤ (u *ℤ pos D) → x ≤ℤ (u' *ℤ pos D)
pin-below {D} (set f g h) a = ≤ℤ-reflexive (h ∙ ap (λ z. z *ℤ pos D) g)
pin-below {D} (free f g h) a = ≤ℤ-trans a (≤ℤ-reflexive (ap (λ z. z *ℤ pos D) (sym h)))

-- and the new ends are within the old
pub pin-low : (D : ℕ) {m : Mark} {l u x l' u' : ℤ} → 1 ≤ D → Pinned D m l u x l' u' → (l *ℤ pos D) ≤ℤ x → l ≤ℤ l'
pin-low D {m} {l} {u} {x} {l'} {u'} d (set f g h) a = times-≤-back D l l' d (≤ℤ-trans a (≤ℤ-reflexive h))
pin-low D d (free f g h) a = ≤ℤ-reflexive (sym g)

pub pin-high : (D : ℕ) {m : Mark} {l u x l' u' : ℤ} → 1 ≤ D → Pinned D m l u x l' u' → x ≤ℤ (u *ℤ pos D) → u' ≤ℤ u
pin-high D {m} {l} {u} {x} {l'} {u'} d (set f g h) a = times-≤-back D u' u d (≤ℤ-trans (≤ℤ-reflexive (ap (λ z. z *ℤ pos D) (sym g) ∙ sym h)) a)
pin-high D d (free f g h) a = ≤ℤ-reflexive h

pub marks-differ : {m : Mark} → m ≡ Integer → m ≡ Continuous → ⊥
marks-differ {m} e f = let z : ◌≡◌ {A = ℕ} 0 1 = cc in omega arith

pub pin-settled : {D : ℕ} {m : Mark} {l u x l' u' : ℤ} → Pinned D m l u x l' u' → m ≡ Integer → l' ≡ u'
pin-settled (set f g h) i = g
pin-settled (free f g h) i = absurd (marks-differ i f)

pub pin-loose : {D : ℕ} {m : Mark} {l u x l' u' : ℤ} → Pinned D m l u x l' u' → m ≡ Continuous → (l' ≡ l) × (u' ≡ u)
pin-loose (set f g h) i = absurd (marks-differ f i)
pin-loose (free f g h) i = (g, h)

-- between the new ends, an integer item's amount y / E is x / D
pin-whole : (D E : ℕ) {m : Mark} {l u x l' u' : ℤ} (y : ℤ) → Pinned D m l u x l' u' → m ≡ Integer → (l' *ℤ pos E) ≤ℤ y → y ≤ℤ (u' *ℤ pos E)
    → y *ℤ pos D ≡ x *ℤ pos E
pin-whole D E y (free f g h) i a b = absurd (marks-differ i f)
pin-whole D E {m} {l} {u} {x} {l'} {u'} y (set f g h) i a b = ap (λ z. z *ℤ pos D) (≤ℤ-antisym (≤ℤ-trans b (≤ℤ-reflexive (ap (λ z. z *ℤ pos E) (sym g)))) a)
    ∙ swap l' ∙ ap (λ z. z *ℤ pos E) (sym h)
  where
    swap : (z : ℤ) → (z *ℤ pos E) *ℤ pos D ≡ (z *ℤ pos D) *ℤ pos E
    swap = split _ (λ a b. simp zed (omega arith))

module _ (c : Columns) (e : Ends) (marks : ℕ → Mark) (o : Tied c) (b : InOrder c e) (D : ℕ) (D≥1 : 1 ≤ D) (N : ℕ → ℤ) (p : Feasibleᴰ (box_of c e marks) D N)
  where
    end-at : (ℕ → ℤ) → (k : ℕ) → Dec (k < c.count) → ℤ
    end-at d k (yes l) = whole_or D (marks k) (N k) (d k) (p.keeps k l).marked
    end-at d k (no l) = d k

    abbrev ends : Ends
    ends = record {
      lo = listed (λ k. end-at (at e.lo) k (dec_lt k c.count)) c.count;
      hi = listed (λ k. end-at (at e.hi) k (dec_lt k c.count)) c.count;
    }

    pinned : (k : ℕ) → k < c.count → Pinned D (marks k) (at e.lo k) (at e.hi k) (N k) (at ends.lo k) (at ends.hi k)
    unfolding end-at
    pinned k l = rw (
      listed_at (λ k. end-at (at e.lo) k (dec_lt k c.count)) c.count k l,
      listed_at (λ k. end-at (at e.hi) k (dec_lt k c.count)) c.count k l,
    ) (go (dec_lt k c.count))
      where
        go : (d : Dec (k < c.count)) → Pinned D (marks k) (at e.lo k) (at e.hi k) (N k) (end-at (at e.lo) k d) (end-at (at e.hi) k d)
        go (yes i) = pins D (marks k) (at e.lo k) (at e.hi k) (N k) (p.keeps k i).marked
        go (no i) = absurd (i l)

    in_order_lem : InOrder c ends
    in_order_lem k l = pin-order (pinned k l) (b k l)

    inside : Feasibleᴰ (box_of c ends marks) D N
    inside = record {
      keeps = λ k l. record {
        marked = (p.keeps k l).marked;
        above = pin-above (pinned k l) (p.keeps k l).above;
        below = pin-below (pinned k l) (p.keeps k l).below;
      };
      fits = p.fits;
    }

    fixed : Settled c ends marks
    fixed k l m = pin-settled (pinned k l) m

    outside : (E : ℕ) (X : ℕ → ℤ) → Feasibleᴰ (box_of c ends marks) E X → Feasibleᴰ (box_of c e marks) E X
    outside E X q = record {
      keeps = λ k l. record {
        marked = (q.keeps k l).marked;
        above = ≤ℤ-trans (times-≤ E _ _ (pin-low D D≥1 (pinned k l) (p.keeps k l).above)) (q.keeps k l).above;
        below = ≤ℤ-trans (q.keeps k l).below (times-≤ E _ _ (pin-high D D≥1 (pinned k l) (p.keeps k l).below));
      };
      fits = q.fits;
    }

    some : pos 0 ≤ℤ (fill c ends).room
    some = fill-some c ends marks o in_order_lem D N D≥1 inside

    point : Foremostᴰ (box_of c ends marks) (parts c ends) (filling c ends)
    point = fill-foremost c ends marks o in_order_lem some fixed

    pub covering : Completion c e marks D N
    covering = record {
      ends = ends;
      pinned = pinned;
      order = in_order_lem;
      settled = fixed;
      room = some;
      feasible = outside (parts c ends) (filling c ends) point.optimal.feasible;
      divisor = parts-some c ends marks o in_order_lem some;
      whole = λ k l m. pin-whole D (parts c ends) (filling c ends k) (pinned k l) m (point.optimal.feasible.keeps k l).above
          (point.optimal.feasible.keeps k l).below;
      leads = foremost-leads (box_of c ends marks) (parts c ends) (filling c ends) point D N D≥1 inside;
    }
