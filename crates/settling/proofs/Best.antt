-- Why a place is best: a feasible point that nothing beats has its whole amounts, and its filling is worth no less.
-- best_of: of such a point. kept-best: of an incumbent that nothing beats. found-best: of the first point of the frame that loses least.
-- found_first: in the last frame that point comes first, of those that are worth as much and whose other items stand as its do.
-- most-cells (end theorem): the most cells of `Settles` are those of 289 runs. settle-most: no box has more of them written.
use mathlib.Core.Path.{◌≡◌, refl, sym, ap, ◌∙◌, subst, subst₂}
use mathlib.Core.Bool.{Bool, true, false, cond}
use mathlib.Core.List.{List}
use mathlib.Core.Logic.{◌≢◌, ◌⊎◌, inl, inr}
use Prim.Native.Nat.{ℕ, zero, suc, ◌*◌, ◌≤◌, ◌<◌}
use native.Mathlib.Omega.{arith}
use native.Mathlib.Decide.{ℕ_discrete}
use borrow.Author.Tests.{le-ltb, eqb-true}
use lib.Dec.{eqb}
use lib.IntN.{ℤ, pos, nat_abs, ◌-ℤ◌, ◌*ℤ◌}
use lib.Signed.{◌≤ℤ◌, ◌<ℤ◌, ≤ℤ_refl}
use Rattle.arith.specs.declared.Mixed.{Mixed}
use Rattle.arith.proofs.Mixes.{over}
use Rattle.arith.proofs.Integers.{split, split2, zed, ≤ℤ-trans, ≤ℤ-reflexive, ≤ℤ-or-<, ≤ℤ-antisym, times-≤, times-≤-back}
use Rattle.arith.proofs.Parts.{impossible}
use Rattle.knapsack.specs.declared.Mark.{Mark}
use Rattle.knapsack.specs.declared.Mark.TheVariants.{Integer, Continuous}
use Rattle.knapsack.proofs.Common.{KeepsMarkᴰ, Keepsᴰ, valueᴰ, Feasibleᴰ, Optimalᴰ}
use Rattle.knapsack.proofs.Branch.{AtMost}
use Rattle.greedy.specs.declared.Columns.{Columns}
use Rattle.greedy.specs.declared.Ends.{Ends}
use Rattle.greedy.specs.Fill.{at, place, stand, fill, bound, solution}
use Rattle.greedy.specs.Ordered.{Ordered}
use Rattle.greedy.proofs.Relaxed.{box_of, InOrder, Stopped, fill-empty, fill-stopped, fill-bound, fill-value, fill-point, parts≥1}
use Rattle.ceiling.specs.declared.Limit.{Limit}
use Rattle.ceiling.specs.declared.Shown.{Shown}
use Rattle.ceiling.specs.Loss.{value_of, top_of, loss_of, Point}
use Rattle.ceiling.specs.Frames.{whole_at, cut_of, scale_of, frame_by, Marked, Unmarked, Levelled}
use Rattle.ceiling.specs.Least.{NotAfter, Placed, FirstIn}
use Rattle.ceiling.specs.Bound.{BestFrame, Bounded}
use Rattle.ceiling.proofs.Framing.{scale_in, frame-feasible, loose-cut}
use Rattle.ceiling.proofs.Limits.{levels-marked, levels-unmarked}
use Rattle.fillings.specs.Runs.{run_cells}
use Rattle.settling.specs.Settling.{Boxes, Levels, Fixes, Between, Tried, BestAt, Best, FirstPlace, most_cells, SettleWrites, empty, kept, framed}

-- ---- levels

-- the level of an item, if it has one
find : (level : List ℕ) (n k : ℕ) → ((d : ℕ) × (d < n) × (place level d ≡ k)) ⊎ ((d : ℕ) → d < n → place level d ≢ k)
find level zero k = inr (λ d l. absurd (omega arith))
find level (suc n) k = go (ℕ_discrete (place level n) k) (find level n k)
  where
    go : Dec (place level n ≡ k) → ((d : ℕ) × (d < n) × (place level d ≡ k)) ⊎ ((d : ℕ) → d < n → place level d ≢ k) →
        ((d : ℕ) × (d < suc n) × (place level d ≡ k)) ⊎ ((d : ℕ) → d < suc n → place level d ≢ k)
    go (yes e) r = inl (n, omega arith, e)
    go (no e) (inl (d, l, i)) = inl (d, omega arith, i)
    go (no e) (inr h) = inr (λ d l. again d l (ℕ_discrete d n))
      where
        again : (d : ℕ) → d < suc n → Dec (d ≡ n) → place level d ≢ k
        again d l (yes q) i = e (subst (λ m. place level m ≡ k) q i)
        again d l (no q) i = h d (omega arith) i

-- x / A ≤ y / B ≤ z / C
chain : (x y z : ℤ) (A B C : ℕ) → 1 ≤ B → (x *ℤ pos B) ≤ℤ (y *ℤ pos A) → (y *ℤ pos C) ≤ℤ (z *ℤ pos B) → (x *ℤ pos C) ≤ℤ (z *ℤ pos A)
chain x y z A B C b h k = times-≤-back B (x *ℤ pos C) (z *ℤ pos A) b (≤ℤ-trans (≤ℤ-reflexive (swap x C B))
    (≤ℤ-trans (times-≤ C _ _ h) (≤ℤ-trans (≤ℤ-reflexive (swap y A C)) (≤ℤ-trans (times-≤ A _ _ k) (≤ℤ-reflexive (swap z B A))))))
  where
    swap : (z : ℤ) (m n : ℕ) → (z *ℤ pos m) *ℤ pos n ≡ (z *ℤ pos n) *ℤ pos m
    swap = split _ (λ a b m n. simp zed (omega arith))

-- in the last frame points are whole
last-scale : (c : Columns) (t : ℕ) → t ≡ c.live → scale_of c t ≡ 1
last-scale c t i = ap (λ s. cond s (nat_abs (at c.size t)) 1) (le-ltb t c.live (omega arith))

-- ---- a point that nothing beats

module _ (c : Columns) (e : Ends) (level : List ℕ) (n : ℕ) (bx : Boxes c e level n) (P : ℕ → ℤ) (between : Between e level n P) (f : Ends)
    (fx : Fixes e level n P f) (marks : ℕ → Mark) (lv : Levels c level n marks) where
  -- an item's ends: at P, or as before
  data Its (k : ℕ) : Type 0 where
    fixed : (d : ℕ) → d < n → place level d ≡ k → at f.lo k ≡ P d → at f.hi k ≡ P d → Its k
    free : ((d : ℕ) → d < n → place level d ≢ k) → at f.lo k ≡ at e.lo k → at f.hi k ≡ at e.hi k → Its k

  its : (k : ℕ) → Its k
  its k = go (find level n k)
    where
      go : ((d : ℕ) × (d < n) × (place level d ≡ k)) ⊎ ((d : ℕ) → d < n → place level d ≢ k) → Its k
      go (inl (d, l, i)) = fixed d l i (subst (λ j. at f.lo j ≡ P d) i (fx.own d l).0) (subst (λ j. at f.hi j ≡ P d) i (fx.own d l).1)
      go (inr h) = free h (fx.other k h).0 (fx.other k h).1

  pub order-f : InOrder c f
  order-f k l = go (its k)
    where
      go : Its k → at f.lo k ≤ℤ at f.hi k
      go (fixed d m i x y) = rw (x, y) (≤ℤ_refl (P d))
      go (free h x y) = rw (x, y) (bx.in_order k l)

  ends-in : (k : ℕ) → k < c.count → (at e.lo k ≤ℤ at f.lo k) × (at f.hi k ≤ℤ at e.hi k)
  ends-in k l = go (its k)
    where
      go : Its k → (at e.lo k ≤ℤ at f.lo k) × (at f.hi k ≤ℤ at e.hi k)
      go (fixed d m i x y) = (rw x (subst (λ j. at e.lo j ≤ℤ P d) i (between d m).0), rw y (subst (λ j. P d ≤ℤ at e.hi j) i (between d m).1))
      go (free h x y) = (rw x (≤ℤ_refl (at e.lo k)), rw y (≤ℤ_refl (at e.hi k)))

  integers-fixed : (k : ℕ) → k < c.count → marks k ≡ Integer → at f.lo k ≡ at f.hi k
  integers-fixed k l i = let d = lv.of k l i in let o = fx.own d.0 d.1 in subst (λ j. at f.lo j ≡ at f.hi j) d.2 (o.0 ∙ sym o.1)

  -- what is feasible in f is so in e
  pub wider : (D : ℕ) (N : ℕ → ℤ) → Feasibleᴰ (box_of c f marks) D N → Feasibleᴰ (box_of c e marks) D N
  wider D N p = record {
    keeps = λ k l. record {
      marked = (p.keeps k l).marked;
      above = ≤ℤ-trans (times-≤ D _ _ (ends-in k l).0) (p.keeps k l).above;
      below = ≤ℤ-trans (p.keeps k l).below (times-≤ D _ _ (ends-in k l).1);
    };
    fits = p.fits;
  }

  module _ (D : ℕ) (N : ℕ → ℤ) (D≥1 : 1 ≤ D) (p : Feasibleᴰ (box_of c e marks) D N) (whole : (d : ℕ) → d < n → N (place level d) ≡ P d *ℤ pos D)
      (highest : (A : ℕ) (M : ℕ → ℤ) → 1 ≤ A → Feasibleᴰ (box_of c e marks) A M →
      (valueᴰ (box_of c e marks) M *ℤ pos D) ≤ℤ (valueᴰ (box_of c e marks) N *ℤ pos A)) where
    inside : Feasibleᴰ (box_of c f marks) D N
    inside = record {
      keeps = λ k l. record { marked = (p.keeps k l).marked; above = low k l (its k); below = high k l (its k) };
      fits = p.fits;
    }
      where
        low : (k : ℕ) → k < c.count → Its k → (at f.lo k *ℤ pos D) ≤ℤ N k
        low k l (fixed d m i x y) = ≤ℤ-reflexive (ap (λ z. z *ℤ pos D) x ∙ sym (whole d m) ∙ ap N i)
        low k l (free h x y) = subst (λ z. (z *ℤ pos D) ≤ℤ N k) (sym x) (p.keeps k l).above

        high : (k : ℕ) → k < c.count → Its k → N k ≤ℤ (at f.hi k *ℤ pos D)
        high k l (fixed d m i x y) = ≤ℤ-reflexive (sym (ap N i) ∙ whole d m ∙ ap (λ z. z *ℤ pos D) (sym y))
        high k l (free h x y) = subst (λ z. N k ≤ℤ (z *ℤ pos D)) (sym y) (p.keeps k l).below

    o : Ordered c
    o = bx.ordered

    roomy : pos 0 ≤ℤ (fill c f).room
    roomy = go (≤ℤ-or-< (pos 0) (fill c f).room)
      where
        go : (pos 0 ≤ℤ (fill c f).room) ⊎ ((fill c f).room <ℤ pos 0) → pos 0 ≤ℤ (fill c f).room
        go (inl h) = h
        go (inr h) = absurd (fill-empty c f marks o order-f h D N D≥1 inside)

    stopped : Stopped c f marks o order-f (fill c f)
    stopped = fill-stopped c f marks o order-f roomy

    -- the filling is worth no less than the point
    no_less : (valueᴰ (box_of c e marks) N *ℤ pos (bound c (fill c f)).parts) ≤ℤ (valueᴰ (box_of c e marks) (solution c f (fill c f)) *ℤ pos D)
    no_less = subst (λ v. (valueᴰ (box_of c e marks) N *ℤ pos (bound c (fill c f)).parts) ≤ℤ (v *ℤ pos D))
        (sym (fill-value c f marks o order-f (fill c f) stopped)) (fill-bound c f marks o order-f (fill c f) stopped D N D≥1 inside)

    pub best_of : BestAt c e marks f
    best_of = record {
      roomy = roomy;
      optimal = record {
        feasible = wider (bound c (fill c f)).parts (solution c f (fill c f)) (fill-point c f marks o order-f integers-fixed (fill c f) stopped);
        highest = λ A M a≥1 m. chain (valueᴰ (box_of c e marks) M) (valueᴰ (box_of c e marks) N) (valueᴰ (box_of c e marks) (solution c f (fill c f))) A D
            (bound c (fill c f)).parts D≥1 (highest A M a≥1 m) no_less;
      };
      value-is = fill-value c f marks o order-f (fill c f) stopped;
    }

-- ---- an incumbent that nothing beats

pub kept-best : (c : Columns) (e : Ends) (level : List ℕ) (n : ℕ) → Boxes c e level n → (P : ℕ → ℤ) (v : Mixed) (w : List Bool) → Levelled level n w →
    Tried c e level n P v
    → ((marks : ℕ → Mark) → Marked c w marks → AtMost (box_of c e marks) (over v) v.parts) → Best c e level n P
kept-best c e level n bx P v w lw t most = record { between = t.between; best = best }
  where
    best : (f : Ends) → Fixes e level n P f → (marks : ℕ → Mark) → Levels c level n marks → BestAt c e marks f
    best f fx marks lv = best_of c e level n bx P t.between f fx marks lv D N D≥1 (wider c e level n bx P t.between g t.fixes marks lv D N own)
        whole highest
      where
        g : Ends
        g = t.ends

        o : Ordered c
        o = bx.ordered

        og : InOrder c g
        og = order-f c e level n bx P t.between g t.fixes marks lv

        stopped : Stopped c g marks o og (fill c g)
        stopped = fill-stopped c g marks o og t.roomy

        D : ℕ
        D = (bound c (fill c g)).parts

        D≥1 : 1 ≤ D
        D≥1 = parts≥1 c g marks o og (fill c g) stopped

        N : ℕ → ℤ
        N = solution c g (fill c g)

        fixed : (k : ℕ) → k < c.count → marks k ≡ Integer → at g.lo k ≡ at g.hi k
        fixed k l i = let d = lv.of k l i in let q = t.fixes.own d.0 d.1 in subst (λ j. at g.lo j ≡ at g.hi j) d.2 (q.0 ∙ sym q.1)

        own : Feasibleᴰ (box_of c g marks) D N
        own = fill-point c g marks o og fixed (fill c g) stopped

        whole : (d : ℕ) → d < n → N (place level d) ≡ P d *ℤ pos D
        whole d l = let k = own.keeps (place level d) (bx.level_in d l) in let q = t.fixes.own d l in
            ≤ℤ-antisym (subst (λ z. N (place level d) ≤ℤ (z *ℤ pos D)) q.1 k.below) (subst (λ z. (z *ℤ pos D) ≤ℤ N (place level d)) q.0 k.above)

        highest : (A : ℕ) (M : ℕ → ℤ) → 1 ≤ A → Feasibleᴰ (box_of c e marks) A M → (valueᴰ (box_of c e marks) M *ℤ pos D) ≤ℤ (valueᴰ (box_of c e marks) N *ℤ pos A)
        highest A M a p = subst₂ (λ x y. (valueᴰ (box_of c e marks) M *ℤ pos x) ≤ℤ (y *ℤ pos A)) (ap (λ (m : Mixed). m.parts) t.value-is)
            (ap over t.value-is ∙ sym (fill-value c g marks o og (fill c g) stopped))
            (most marks (levels-marked c level n w marks lw lv.integer) A M a p)

-- ---- the first point of the frame that loses least

module _ (c : Columns) (e : Ends) (level : List ℕ) (n : ℕ) (bx : Boxes c e level n) (w : List Bool) (lw : Levelled level n w) (known : Bool) (v : Mixed)
    (r : Limit) (b : Bounded c e w known v r) (x : Shown) (h : BestFrame c e w r x) where
  abbrev t : ℕ
  t = x.at

  abbrev E : ℕ
  E = scale_of c t

  E≥1 : 1 ≤ E
  E≥1 = (scale_in c t bx.sized.columns).0

  not-cut : (k : ℕ) → k < c.count → whole_at w k ≡ true → k ≢ cut_of c t
  not-cut = loose-cut c w t bx.sized.columns.few h.at_in (λ m. (h.usable m).loose)

  abbrev g : FirstIn r.p r.q c e w t r.lost.num x.place
  g = h.first

  module _ (ys : List ℤ) (pl : Placed n (λ d. at x.place (place level d)) ys) where
    N : ℕ → ℤ
    N = g.point

    -- its whole amounts
    level-whole : (d : ℕ) → d < n → N (place level d) ≡ at ys d *ℤ pos E
    unfolding N
    level-whole d l = g.shown (place level d) (bx.level_in d l) (not-cut (place level d) (bx.level_in d l) (lw.marked d l)) ∙
        ap (λ z. z *ℤ pos E) (sym (pl.each d l))

    feasible : (marks : ℕ → Mark) → Unmarked c w marks → Feasibleᴰ (box_of c e marks) E N
    unfolding N
    feasible marks u = frame-feasible c e w t bx.in_order g.ends g.point g.framed g.is-point not-cut marks u

    between : Between e level n (at ys)
    between d l = (
      times-≤-back E _ _ E≥1 (subst (λ z. (at e.lo (place level d) *ℤ pos E) ≤ℤ z) (level-whole d l) k.above),
      times-≤-back E _ _ E≥1 (subst (λ z. z ≤ℤ (at e.hi (place level d) *ℤ pos E)) (level-whole d l) k.below),
    )
      where
        k : Keepsᴰ E ((box_of c e (λ j. Continuous)).item (place level d)) (N (place level d))
        k = (feasible (λ j. Continuous) (λ j m i. absurd (let z : ◌≡◌ {A = ℕ} 0 1 = cc in omega arith))).keeps (place level d) (bx.level_in d l)

    worth : pos r.q *ℤ value_of c N ≡ r.top *ℤ pos E -ℤ pos r.lost.num
    unfolding loss_of N
    worth = turn (r.top *ℤ pos E) (pos r.q *ℤ value_of c g.point) r.lost.num
        (ap (λ z. z *ℤ pos E -ℤ pos r.q *ℤ value_of c g.point) b.top-is ∙ g.loses)
      where
        turn : (T v : ℤ) (n : ℕ) → T -ℤ v ≡ pos n → v ≡ T -ℤ pos n
        turn = split2 _ (λ a b c e n. simp zed (omega arith))

    -- nothing beats it
    highest : (marks : ℕ → Mark) → Levels c level n marks → (A : ℕ) (M : ℕ → ℤ) → 1 ≤ A → Feasibleᴰ (box_of c e marks) A M →
        (valueᴰ (box_of c e marks) M *ℤ pos E) ≤ℤ (valueᴰ (box_of c e marks) N *ℤ pos A)
    highest marks lv A M a p = times-≤-back r.q _ _ b.q≥1 (≤ℤ-trans (≤ℤ-reflexive (left (value_of c M) E))
        (≤ℤ-trans at_most (≤ℤ-reflexive (ap (λ z. z *ℤ pos A) (sym worth) ∙ right (value_of c N) A))))
      where
        at_most : (value_of c M *ℤ pos (r.q * E)) ≤ℤ ((r.top *ℤ pos E -ℤ pos r.lost.num) *ℤ pos A)
        at_most = subst (λ x. (value_of c M *ℤ pos (r.q * x)) ≤ℤ ((r.top *ℤ pos x -ℤ pos r.lost.num) *ℤ pos A)) h.den-is
            (b.most marks (levels-marked c level n w marks lw lv.integer) A M a p)

        left : (x : ℤ) (d : ℕ) → (x *ℤ pos d) *ℤ pos r.q ≡ x *ℤ pos (r.q * d)
        left = split _ (λ a b d. simp zed (omega arith))

        right : (x : ℤ) (D : ℕ) → (pos r.q *ℤ x) *ℤ pos D ≡ (x *ℤ pos D) *ℤ pos r.q
        right = split _ (λ a b D. simp zed (omega arith))

    best-point : (marks : ℕ → Mark) → Levels c level n marks → Optimalᴰ (box_of c e marks) E N
    best-point marks lv = record { feasible = feasible marks (levels-unmarked c level n w marks lw lv.of); highest = highest marks lv }

    pub found-best : Best c e level n (at ys)
    found-best = record {
      between = between;
      best = λ f fx marks lv. best_of c e level n bx (at ys) between f fx marks lv E N E≥1 (best-point marks lv).feasible level-whole (highest marks lv);
    }

    -- ---- it comes first

    module _ (marks : ℕ → Mark) (lv : Levels c level n marks) (M : ℕ → ℤ) (p : Feasibleᴰ (box_of c e marks) E M)
        (as-much : valueᴰ (box_of c e marks) N ≤ℤ valueᴰ (box_of c e marks) M)
        (stands : (k : ℕ) → k < c.count → marks k ≡ Continuous → M k ≡ N k) where
      -- an item is whole, or stands as in N
      data Sort (k : ℕ) : Type 0 where
        whole : whole_at w k ≡ true → marks k ≡ Integer → Sort k
        other : whole_at w k ≡ false → M k ≡ N k → Sort k

      sort : (k : ℕ) → k < c.count → Sort k
      sort k l = go (whole_at w k) refl
        where
          loose : (m : Mark) → marks k ≡ m → whole_at w k ≡ false → M k ≡ N k
          loose Integer i o = absurd (impossible (sym o ∙ levels-unmarked c level n w marks lw lv.of k l i))
          loose Continuous i o = stands k l i

          go : (x : Bool) → whole_at w k ≡ x → Sort k
          go true o = whole o (levels-marked c level n w marks lw lv.integer k l o)
          go false o = other o (loose (marks k) refl o)

      in_frame : Point c g.ends E (cut_of c t) M
      unfolding N
      in_frame = record { above = λ k l. low k l (sort k l); below = λ k l. high k l (sort k l); fits = p.fits; whole = λ k l x. made k l x (sort k l) }
        where
          -- a whole item keeps its end
          free : (k : ℕ) (x z : ℤ) → whole_at w k ≡ true → z ≡ frame_by (whole_at w k) (eqb k (cut_of c t)) x (stand c e t k) → z ≡ x
          free k x z q h = h ∙ ap (λ a. frame_by a (eqb k (cut_of c t)) x (stand c e t k)) q

          low : (k : ℕ) → k < c.count → Sort k → (at g.ends.lo k *ℤ pos E) ≤ℤ M k
          low k l (whole q i) = subst (λ z. (z *ℤ pos E) ≤ℤ M k) (sym (free k (at e.lo k) (at g.ends.lo k) q (g.framed.low k l)))
              (p.keeps k l).above
          low k l (other q i) = subst (λ z. (at g.ends.lo k *ℤ pos E) ≤ℤ z) (sym i) (g.is-point.above k l)

          high : (k : ℕ) → k < c.count → Sort k → M k ≤ℤ (at g.ends.hi k *ℤ pos E)
          high k l (whole q i) = subst (λ z. M k ≤ℤ (z *ℤ pos E)) (sym (free k (at e.hi k) (at g.ends.hi k) q (g.framed.high k l)))
              (p.keeps k l).below
          high k l (other q i) = subst (λ z. z ≤ℤ (at g.ends.hi k *ℤ pos E)) (sym i) (g.is-point.below k l)

          made : (k : ℕ) → k < c.count → k ≢ cut_of c t → Sort k → (x : ℤ) × (M k ≡ x *ℤ pos E)
          made k l x (whole q i) = subst (λ m. KeepsMarkᴰ E m (M k)) i (p.keeps k l).marked
          made k l x (other q i) = let y = g.is-point.whole k l x in (y.0, i ∙ y.1)

      as-good : value_of c M ≡ value_of c N
      as-good = ≤ℤ-antisym (times-≤-back E _ _ E≥1 (highest marks lv E M E≥1 p)) as-much

      comes-first : NotAfter c.count N M
      unfolding N loss_of
      comes-first = g.first M in_frame (ap (λ z. top_of r.p r.q c e *ℤ pos E -ℤ pos r.q *ℤ z) as-good ∙ g.loses)

    -- in the last frame it is whole
    pub found_first : eqb t c.live ≡ true → FirstPlace c e level n 1 (at ys)
    found_first i = subst (λ D. FirstPlace c e level n D (at ys)) (last-scale c t (eqb-true t c.live i))
        (record { point = N; at_place = level-whole; optimal = best-point; first = comes-first })

-- ---- how much is written

pub most-cells : most_cells ≡ 289 * run_cells
most-cells = refl

pub settle-most : {c : Columns} {e : Ends} {level : List ℕ} {n : ℕ} {known : Bool} {v : Mixed} {f : Bool} {k : ℕ}
    → SettleWrites c e level n known v f k → k ≤ most_cells
settle-most (empty h) = omega arith
settle-most (kept w b r l h f) = omega (arith, h.few)
settle-most (framed w b x r l h f) = omega (arith, h.few)
