-- Frames as the code makes them, and the losses of their points.
-- framed-made: the ends of a frame. frame-floor: a bound of a frame's losses, with what the frame itself loses.
-- frame-feasible: a point of a frame is feasible in the box; loose-cut: where no whole item is cut.
-- ordered-ranked: an order by price per weight is an order.
-- frame-scale, frame-sized, frame-modest, frame-cut, of-floor, frame-narrow: a frame as the code has it.
-- own-floor, own-none, own-later, own_first: the first of its points that lose so much.
-- lowered-counted, lowered-new, lowered-old: the least so far.  last-bound: the latest frame that can be needed stands for the last one.
--   Sofar p q c e w known t b   b is the least of what is known and the frames before t that can be needed
-- sofar-first, -step, -any, -done: from frame to frame.
use Rattle.std.specs.Prelude.{None}
use mathlib.Core.Path.{◌≡◌, refl, sym, ap, ◌∙◌, subst, subst₂}
use mathlib.Core.Bool.{Bool, true, false, cond}
use mathlib.Core.List.{List}
use mathlib.Core.Logic.{◌≢◌, ◌⊎◌, inl, inr}
use Prim.Native.Nat.{ℕ, suc, ◌+◌, ◌*◌, ◌-◌, ◌/◌, ◌≤◌, ◌<◌}
use native.Mathlib.Omega.{arith}
use native.Mathlib.Nat.{mul-le-mul, mul-le-mul_left, mul-le-mul_right, le_of_mul-le-mul_right, lt-div-mul-add, le-div_iff_mul-le}
use native.Mathlib.Decide.{ℕ_discrete, dec_lt}
use lib.Dec.{ltb, eqb}
use lib.IntN.{ℤ, pos, nat_abs, ◌+ℤ◌, ◌-ℤ◌, ◌*ℤ◌}
use lib.Signed.{◌≤ℤ◌, ◌<ℤ◌, ≤ℤ_refl, lt_z}
use borrow.Author.Tests.{ltb-true, lt-ltb, le-ltb, eq-eqb, ne_eqb}
use Rattle.arith.specs.Within.{Within}
use Rattle.arith.proofs.Integers.{split, split2, split3, zed, +ℤ-mono, ≤ℤ-trans, ≤ℤ-or-<, ≤ℤ-antisym, times-≤, times-≤-back}
use Rattle.arith.proofs.Parts.{within-abs, impossible}
use Rattle.arith.proofs.Sums.{sum_mono, sum-times}
use Rattle.knapsack.specs.declared.Mark.{Mark}
use Rattle.knapsack.specs.declared.Mark.TheVariants.{Integer, Continuous}
use Rattle.knapsack.proofs.Common.{KeepsMarkᴰ, Feasibleᴰ}
use Rattle.fillings.specs.Foremost.{least_cells}
use Rattle.greedy.specs.declared.Columns.{Columns}
use Rattle.greedy.specs.declared.Ends.{Ends}
use Rattle.greedy.specs.Fill.{at, weight_of, price_of, item_of, rank_of, lightest, heaviest, stand}
use Rattle.greedy.specs.Ordered.{Ordered}
use Rattle.greedy.specs.Sized.{Sized, SizedColumns}
use Rattle.greedy.proofs.Relaxed.{box_of, InOrder}
use Rattle.greedy.proofs.Sizes.{cond-within, light-within, heavy-within}
use Rattle.ceiling.specs.declared.Frame.{Frame}
use Rattle.ceiling.specs.declared.Lost.{Lost}
use Rattle.ceiling.specs.declared.Least.{Least}
use Rattle.ceiling.specs.Loss.{score_of, good_of, value_of, weigh_of, top_of, loss_of, Point, Floor}
use Rattle.ceiling.specs.Sizes.{Modest, Cut, Narrow, Spanned}
use Rattle.ceiling.specs.Frames.{Altered, whole_at, cut_of, scale_of, frame_by, frame_lo, frame_hi, frame_end_by, Framed, Usable, Loses, FrameBound, Unmarked}
use Rattle.ceiling.specs.Frames.{FrameEnds, FrameFloor, Counted, Ranked, Ready}
use Rattle.ceiling.specs.Least.{FirstPoint, IsFrame, Same, AtFrame, Lowered, Considered, Found, Gone, begun, onward, some, none, LeastLoss, FirstIn}
use Rattle.ceiling.specs.Pieces.{amount_of, whole_of}
use Rattle.ceiling.proofs.Loss.{good-above}
use Rattle.ceiling.proofs.Lists.{altered-within}
use Rattle.ceiling.proofs.Covering.{framed_ends, framed-ends, ceiling-of}
use Rattle.ceiling.proofs.Pieces.{abs-pos}
use Rattle.ceiling.proofs.Rooms.{floor-zero}

-- ---- the ends

abbrev In : ℤ → ℤ → ℤ → Type 0
In l u x = (l ≤ℤ x) × (x ≤ℤ u)

cond-in : (b : Bool) (l u x y : ℤ) → In l u x → In l u y → In l u (cond b x y)
cond-in true l u x y h k = h
cond-in false l u x y h k = k

module _ (c : Columns) (e : Ends) (w : List Bool) (t : ℕ) (o : InOrder c e) where
  stand-in : (k : ℕ) → k < c.count → In (at e.lo k) (at e.hi k) (stand c e t k)
  stand-in k l = cond-in (ltb (rank_of c k) t) L U _ _ (cond-in (lt_z (weight_of c k) (pos 0)) L U L U at-l at-u)
      (cond-in (lt_z (pos 0) (weight_of c k)) L U _ _ at-l (cond-in (lt_z (weight_of c k) (pos 0)) L U _ _ at-u
      (cond-in (lt_z (pos 0) (price_of c k)) L U U L at-u at-l)))
    where
      L : ℤ
      L = at e.lo k

      U : ℤ
      U = at e.hi k

      at-l : In L U L
      at-l = (≤ℤ_refl L, o k l)

      at-u : In L U U
      at-u = (o k l, ≤ℤ_refl U)

  frame-in : (b s : Bool) (x : ℤ) (k : ℕ) → k < c.count → In (at e.lo k) (at e.hi k) x → In (at e.lo k) (at e.hi k) (frame_by b s x (stand c e t k))
  frame-in b s x k l h = cond-in b (at e.lo k) (at e.hi k) x _ h (cond-in s (at e.lo k) (at e.hi k) x _ h (stand-in k l))

  frame-order : (b s : Bool) (x y z : ℤ) → x ≤ℤ y → frame_by b s x z ≤ℤ frame_by b s y z
  frame-order true s x y z h = h
  frame-order false true x y z h = h
  frame-order false false x y z h = ≤ℤ_refl z

  pub framed-made : (cut : ℕ) (lo hi : List ℤ) → Sized c e → cut ≡ cut_of c t → Altered c.count (frame_end_by c e w cut t e.lo) e.lo lo →
      Altered c.count (frame_end_by c e w cut t e.hi) e.hi hi
      → FrameEnds c e w t (record { lo = lo; hi = hi })
  framed-made cut lo hi z h al ah = record {
    framed = record {
      low = λ k l. al.first k l ∙ ap (λ n. frame_by (whole_at w k) (eqb k n) (at e.lo k) (stand c e t k)) h;
      high = λ k l. ah.first k l ∙ ap (λ n. frame_by (whole_at w k) (eqb k n) (at e.hi k) (stand c e t k)) h;
    };
    sized = record {
      lo-in = altered-within al (λ k l. small (whole_at w k) (eqb k cut) (at e.lo k) k (z.ends.lo-in k)) z.ends.lo-in;
      hi-in = altered-within ah (λ k l. small (whole_at w k) (eqb k cut) (at e.hi k) k (z.ends.hi-in k)) z.ends.hi-in;
    };
    ordered = λ k l. subst₂ ◌≤ℤ◌ (sym (al.first k l)) (sym (ah.first k l))
        (frame-order (whole_at w k) (eqb k cut) (at e.lo k) (at e.hi k) (stand c e t k) (o k l));
  }
    where
      small : (b s : Bool) (x : ℤ) (k : ℕ) → Within 300000000 x → Within 300000000 (frame_by b s x (stand c e t k))
      small b s x k h = cond-within b h (cond-within s h (cond-within (ltb (rank_of c k) t) (heavy-within c e z k) (light-within c e z k)))

  -- ---- the top of a frame is not above that of the box

  module _ (p q : ℕ) (e' : Ends) (fr : Framed c e w t e') where
    top_below : top_of p q c e' ≤ℤ top_of p q c e
    unfolding top_of
    top_below = +ℤ-mono (≤ℤ_refl (pos p *ℤ c.capacity)) (sum_mono c.count (λ k. score_of p q c k *ℤ good_of p q c e' k)
        (λ k. score_of p q c k *ℤ good_of p q c e k) (λ k l. each k l))
      where
        inside : (k : ℕ) → k < c.count → In (at e.lo k) (at e.hi k) (good_of p q c e' k)
        inside k l = cond-in (lt_z (pos 0) (score_of p q c k)) (at e.lo k) (at e.hi k) (at e'.hi k) (at e'.lo k)
            (subst (λ x. In (at e.lo k) (at e.hi k) x) (sym (fr.high k l))
            (frame-in (whole_at w k) (eqb k (cut_of c t)) (at e.hi k) k l (o k l, ≤ℤ_refl (at e.hi k))))
            (subst (λ x. In (at e.lo k) (at e.hi k) x) (sym (fr.low k l))
            (frame-in (whole_at w k) (eqb k (cut_of c t)) (at e.lo k) k l (≤ℤ_refl (at e.lo k), o k l)))

        one-l : (x y : ℤ) → x ≤ℤ y → (x *ℤ pos 1) ≤ℤ y
        one-l = split2 _ (λ a b c e. simp zed (omega arith))

        one-u : (x y : ℤ) → x ≤ℤ y → x ≤ℤ (y *ℤ pos 1)
        one-u = split2 _ (λ a b c e. simp zed (omega arith))

        close : (r g x : ℤ) → pos 0 ≤ℤ (r *ℤ (g *ℤ pos 1 -ℤ x)) → (r *ℤ x) ≤ℤ (r *ℤ g)
        close = split3 _ (λ a b c e f g. simp zed (omega arith))

        each : (k : ℕ) → k < c.count → (score_of p q c k *ℤ good_of p q c e' k) ≤ℤ (score_of p q c k *ℤ good_of p q c e k)
        each k l = close (score_of p q c k) (good_of p q c e k) (good_of p q c e' k)
            (good-above 1 (score_of p q c k) (at e.lo k) (at e.hi k) (good_of p q c e' k) (one-l _ _ (inside k l).0) (one-u _ _ (inside k l).1))

    -- what the frame itself loses
    pub frame-less : pos (nat_abs (top_of p q c e -ℤ top_of p q c e')) ≡ top_of p q c e -ℤ top_of p q c e'
    frame-less = sym (abs-pos _ (gap (top_of p q c e') (top_of p q c e) top_below))
      where
        gap : (x y : ℤ) → x ≤ℤ y → pos 0 ≤ℤ (y -ℤ x)
        gap = split2 _ (λ a b c e. simp zed (omega arith))

    -- with it, a bound of the losses within the frame's own ends is one of those in the box
    pub frame-floor : (r d m : ℕ) → Floor p q c e' (scale_of c t) (cut_of c t) r → d ≡ nat_abs (top_of p q c e -ℤ top_of p q c e') → m ≤ scale_of c t * d + r →
        FrameFloor p q c e w t m
    unfolding loss_of
    frame-floor r d m f h k = record { floor = λ e'' fr'' M pt. go M (f.floor M (move e'' fr'' M pt)) }
      where
        E : ℕ
        E = scale_of c t

        move : (e'' : Ends) → Framed c e w t e'' → (M : ℕ → ℤ) → Point c e'' E (cut_of c t) M → Point c e' E (cut_of c t) M
        move e'' fr'' M pt = record {
          above = λ k l. subst (λ x. (x *ℤ pos E) ≤ℤ M k) (fr''.low k l ∙ sym (fr.low k l)) (pt.above k l);
          below = λ k l. subst (λ x. M k ≤ℤ (x *ℤ pos E)) (fr''.high k l ∙ sym (fr.high k l)) (pt.below k l);
          fits = pt.fits;
          whole = pt.whole;
        }

        less-is : pos d ≡ top_of p q c e -ℤ top_of p q c e'
        less-is = ap pos h ∙ frame-less

        close : (m r d E : ℕ) (T S v : ℤ) → m ≤ E * d + r → pos d ≡ T -ℤ S → pos r ≤ℤ (S *ℤ pos E -ℤ v) → pos m ≤ℤ (T *ℤ pos E -ℤ v)
        close m r d E = split3 _ (λ a b x y u z h. simp zed (λ i j. omega (arith, ap (λ (n : ℕ). n * E) i)))

        go : (M : ℕ → ℤ) → pos r ≤ℤ (top_of p q c e' *ℤ pos E -ℤ pos q *ℤ value_of c M) → pos m ≤ℤ (top_of p q c e *ℤ pos E -ℤ pos q *ℤ value_of c M)
        go M j = close m r d E (top_of p q c e) (top_of p q c e') (pos q *ℤ value_of c M) k less-is j

  -- a point of a frame that does not cut a whole item is feasible
  pub frame-feasible : (e' : Ends) (M : ℕ → ℤ) → Framed c e w t e' → Point c e' (scale_of c t) (cut_of c t) M →
      ((k : ℕ) → k < c.count → whole_at w k ≡ true → k ≢ cut_of c t)
      → (marks : ℕ → Mark) → Unmarked c w marks → Feasibleᴰ (box_of c e marks) (scale_of c t) M
  frame-feasible e' M fr pt ne marks u = record {
    keeps = λ k l. record {
      marked = mark k l (marks k) (marks k) refl (u k l);
      above = ≤ℤ-trans (times-≤ E _ _ (subst (λ x. at e.lo k ≤ℤ x) (sym (fr.low k l))
          (frame-in (whole_at w k) (eqb k (cut_of c t)) (at e.lo k) k l (≤ℤ_refl (at e.lo k), o k l)).0)) (pt.above k l);
      below = ≤ℤ-trans (pt.below k l) (times-≤ E _ _ (subst (λ x. x ≤ℤ at e.hi k) (sym (fr.high k l))
          (frame-in (whole_at w k) (eqb k (cut_of c t)) (at e.hi k) k l (o k l, ≤ℤ_refl (at e.hi k))).1));
    };
    fits = pt.fits;
  }
    where
      E : ℕ
      E = scale_of c t

      mark : (k : ℕ) → k < c.count → (m x : Mark) → x ≡ m → (x ≡ Integer → whole_at w k ≡ true) → KeepsMarkᴰ E m (M k)
      mark k l Integer x i h = pt.whole k l (ne k l (h i))
      mark k l Continuous x i h = tt

-- a frame that can be needed cuts no whole item, nor does the last one
pub loose-cut : (c : Columns) (w : List Bool) (t : ℕ) → c.count ≤ 16 → t ≤ c.live → (t < c.live → whole_at w (item_of c t) ≡ false) → (k : ℕ) → k < c.count →
    whole_at w k ≡ true → k ≢ cut_of c t
loose-cut c w t few t-in loose k l h e = go (ltb t c.live) refl e
  where
    go : (b : Bool) → ltb t c.live ≡ b → k ≡ cond b (item_of c t) 16 → ⊥
    go true q i = impossible (sym (loose (ltb-true t c.live q)) ∙ ap (whole_at w) (sym i) ∙ h)
    go false q i = off k l i
      where
        off : (k : ℕ) → k < c.count → k ≡ 16 → ⊥
        off k m i = omega arith

-- ---- sizes

scale-by : (c : Columns) (t : ℕ) (b : Bool) → SizedColumns c → ltb t c.live ≡ b → (1 ≤ cond b (nat_abs (at c.size t)) 1) ×
    (cond b (nat_abs (at c.size t)) 1 ≤ 1000)
scale-by c t true z h = (z.live-sizes t (ltb-true t c.live h), within-abs (at c.size t) (z.sizes-in t))
scale-by c t false z h = (omega arith, omega arith)

pub scale_in : (c : Columns) (t : ℕ) → SizedColumns c → (1 ≤ scale_of c t) × (scale_of c t ≤ 1000)
scale_in c t z = scale-by c t (ltb t c.live) z refl

pub ordered-ranked : (c : Columns) → Ordered c → Ranked c
ordered-ranked c o = record { item_in = o.item_in; live_in = o.live_in; sizes = o.sizes }

pub cut-is : (c : Columns) (t : ℕ) → SizedColumns c → Ranked c → Cut c (scale_of c t) (cut_of c t)
cut-is c t z o = go (ltb t c.live) refl
  where
    go : (b : Bool) → ltb t c.live ≡ b → cond b (item_of c t) 16 < c.count →
        nat_abs (weight_of c (cond b (item_of c t) 16)) ≡ cond b (nat_abs (at c.size t)) 1
    go true h l = sym (ap nat_abs (o.sizes t (ltb-true t c.live h)))
    go false h l = absurd (omega (arith, z.few))

-- ---- what the frame itself loses, against the cap

pub past : (cap E d : ℕ) → 1 ≤ E → cap / E < d → cap < E * d
past cap E d h k = omega (arith, lt-div-mul-add {a = cap} {b = E} h, mul-le-mul_right E k)

pub still : (cap E d : ℕ) → 1 ≤ E → (cap / E < d → ⊥) → E * d ≤ cap
still cap E d h k = omega (arith, (le-div_iff_mul-le {k = E} {x = d} {y = cap} h).0 (omega arith))

-- ---- a frame as the code has it

module _ {p q : ℕ} {c : Columns} {e : Ends} {w : List Bool} {t : ℕ} {f : Frame} (h : IsFrame p q c e w t f) (r : Ready c e p q) where
  pub frame-scale : (1 ≤ f.scale) × (f.scale ≤ 1000)
  frame-scale = rw h.scale-is (scale_in c t r.sized.columns)

  pub frame-sized : Sized c f.ends
  frame-sized = record { columns = r.sized.columns; ends = h.ends-are.sized }

  pub frame-modest : Modest p q f.scale
  frame-modest = record { p-in = r.p-in; q-in = r.q-in; scale_in = frame-scale.1; scale≥1 = frame-scale.0 }

  pub frame-cut : Cut c f.scale f.cut
  frame-cut = subst₂ (λ x y. Cut c x y) (sym h.scale-is) (sym h.cut-is) (cut-is c t r.sized.columns r.ranked)

  -- losses within the frame's ends, as losses in the box
  pub of-floor : (m n : ℕ) → Floor p q c f.ends f.scale f.cut m → n ≤ f.scale * f.less + m → FrameFloor p q c e w t n
  of-floor m n fl l = frame-floor c e w t r.in_order p q f.ends h.ends-are.framed m f.less n
      (subst₂ (λ x y. Floor p q c f.ends x y m) h.scale-is h.cut-is fl) h.less-is (subst (λ x. n ≤ x * f.less + m) h.scale-is l)

  -- what a point loses in the box and within the frame's ends
  frame-loss : (M : ℕ → ℤ) → loss_of p q c e f.scale M ≡ loss_of p q c f.ends f.scale M +ℤ pos (f.scale * f.less)
  unfolding loss_of
  frame-loss M = go f.less f.scale (top_of p q c e) (top_of p q c f.ends) (pos q *ℤ value_of c M)
      (ap pos h.less-is ∙ frame-less c e w t r.in_order p q f.ends h.ends-are.framed)
    where
      go : (d E : ℕ) (T S v : ℤ) → pos d ≡ T -ℤ S → T *ℤ pos E -ℤ v ≡ (S *ℤ pos E -ℤ v) +ℤ pos (E * d)
      go d E = split3 _ (λ a b x y u z. simp zed (λ i. omega (arith, ap (λ (n : ℕ). n * E) i)))

  pub frame-narrow : Spanned c e → Narrow f.ends f.scale f.cut c.count
  frame-narrow s l = subst₂ (λ x y. f.scale * nat_abs (x -ℤ y) ≤ 900000000) (sym high) (sym low)
      (subst (λ n. n * nat_abs (at e.hi f.cut -ℤ at e.lo f.cut) ≤ 900000000) (frame-cut l) (s f.cut l))
    where
      keeps : (b : Bool) (x y : ℤ) → frame_by b (eqb f.cut (cut_of c t)) x y ≡ x
      keeps b x y = rw (eq-eqb f.cut (cut_of c t) h.cut-is) (pick b)
        where
          pick : (b : Bool) → cond b x x ≡ x
          pick true = refl
          pick false = refl

      low : at f.ends.lo f.cut ≡ at e.lo f.cut
      low = h.ends-are.framed.low f.cut l ∙ keeps (whole_at w f.cut) (at e.lo f.cut) (stand c e t f.cut)

      high : at f.ends.hi f.cut ≡ at e.hi f.cut
      high = h.ends-are.framed.high f.cut l ∙ keeps (whole_at w f.cut) (at e.hi f.cut) (stand c e t f.cut)

  -- the same point of the frame with the ends that the code has
  own-point : (e' : Ends) (M : ℕ → ℤ) → Framed c e w t e' → Point c e' (scale_of c t) (cut_of c t) M → Point c f.ends f.scale f.cut M
  own-point e' M fr pt = subst₂ (λ x y. Point c f.ends x y M) (sym h.scale-is) (sym h.cut-is) (record {
    above = λ k l. subst (λ x. (x *ℤ pos (scale_of c t)) ≤ℤ M k) (fr.low k l ∙ sym (h.ends-are.framed.low k l)) (pt.above k l);
    below = λ k l. subst (λ x. M k ≤ℤ (x *ℤ pos (scale_of c t))) (fr.high k l ∙ sym (h.ends-are.framed.high k l)) (pt.below k l);
    fits = pt.fits;
    whole = pt.whole;
  })

  box-point : (M : ℕ → ℤ) → Point c f.ends f.scale f.cut M → Point c f.ends (scale_of c t) (cut_of c t) M
  box-point M pt = subst₂ (λ x y. Point c f.ends x y M) h.scale-is h.cut-is pt

  module _ (m : ℕ) where
    abbrev off : ℕ
    off = f.scale * f.less

    -- a bound of the frame's losses within its ends
    pub own-floor : off ≤ m → FrameFloor p q c e w t m → Floor p q c f.ends f.scale f.cut (m - off)
    own-floor l fl = record {
      floor = λ N pt. less (m - off) off (loss_of p q c f.ends f.scale N)
          (subst (λ z. pos m ≤ℤ z) (frame-loss N) (subst (λ x. pos m ≤ℤ loss_of p q c e x N) (sym h.scale-is)
          (fl.floor f.ends h.ends-are.framed N (box-point N pt)))) (omega arith);
    }
      where
        less : (x y : ℕ) (z : ℤ) → pos m ≤ℤ (z +ℤ pos y) → m ≡ x + y → pos x ≤ℤ z
        less x y = split _ (λ a b. simp zed (omega arith))

    -- no point loses less than the frame itself
    pub own-none : m < off → (e' : Ends) → Framed c e w t e' → (M : ℕ → ℤ) → Point c e' (scale_of c t) (cut_of c t) M → pos m <ℤ loss_of p q c e (scale_of c t) M
    own-none l e' fr M pt = subst (λ x. pos m <ℤ loss_of p q c e x M) h.scale-is
        (subst (λ z. pos m <ℤ z) (sym (frame-loss M)) (more off (loss_of p q c f.ends f.scale M)
        ((floor-zero p q c f.ends f.scale f.cut).floor M (own-point e' M fr pt)) l))
      where
        more : (y : ℕ) (z : ℤ) → pos 0 ≤ℤ z → m < y → pos m <ℤ (z +ℤ pos y)
        more y = split _ (λ a b. simp zed (omega arith))

    pub own-later : off ≤ m → ((M : ℕ → ℤ) → Point c f.ends f.scale f.cut M → pos (m - off) <ℤ loss_of p q c f.ends f.scale M) → (e' : Ends) →
        Framed c e w t e' → (M : ℕ → ℤ) → Point c e' (scale_of c t) (cut_of c t) M → pos m <ℤ loss_of p q c e (scale_of c t) M
    own-later l n e' fr M pt = subst (λ x. pos m <ℤ loss_of p q c e x M) h.scale-is
        (subst (λ z. pos m <ℤ z) (sym (frame-loss M)) (more (m - off) off (loss_of p q c f.ends f.scale M) (n M (own-point e' M fr pt)) (omega arith)))
      where
        more : (x y : ℕ) (z : ℤ) → pos x <ℤ z → m ≡ x + y → pos m <ℤ (z +ℤ pos y)
        more x y = split _ (λ a b. simp zed (omega arith))

    -- the first point that loses n within its ends
    pub own_first : (n : ℕ) → m ≡ off + n → (ys : ℕ → ℕ) (place : List ℤ) →
        FirstPoint p q c f.ends f.scale f.cut n (amount_of c f.ends f.scale f.cut ys) →
        ((k : ℕ) → k < 16 → at place k ≡ whole_of c f.ends ys k) → FirstIn p q c e w t m place
    own_first n l ys place g made = record {
      ends = f.ends;
      framed = h.ends-are.framed;
      point = N;
      is-point = box-point N g.is-point;
      loses = subst (λ x. loss_of p q c e x N ≡ pos m) h.scale-is (frame-loss N ∙ ap (λ z. z +ℤ pos off) g.loses ∙
          plus n off ∙ ap pos (omega arith));
      first = λ M pt i. g.first M (subst₂ (λ x y. Point c f.ends x y M) (sym h.scale-is) (sym h.cut-is) pt)
          (same M (subst (λ x. loss_of p q c e x M ≡ pos m) (sym h.scale-is) i));
      shown = λ k i ne. shown k i (λ j. ne (j ∙ h.cut-is));
    }
      where
        N : ℕ → ℤ
        N = amount_of c f.ends f.scale f.cut ys

        plus : (x y : ℕ) → pos x +ℤ pos y ≡ pos (x + y)
        plus x y = simp zed (omega arith)

        same : (M : ℕ → ℤ) → loss_of p q c e f.scale M ≡ pos m → loss_of p q c f.ends f.scale M ≡ pos n
        same M i = minus (loss_of p q c f.ends f.scale M) n off (sym (frame-loss M) ∙ i) (omega arith)
          where
            minus : (z : ℤ) (x y : ℕ) → z +ℤ pos y ≡ pos m → m ≡ x + y → z ≡ pos x
            minus = split _ (λ a b x y. simp zed (omega arith))

        shown : (k : ℕ) → k < c.count → k ≢ f.cut → N k ≡ at place k *ℤ pos (scale_of c t)
        shown k i ne = rw (made k (omega (arith, r.sized.columns.few)), ne_eqb k f.cut ne, ← h.scale-is)
            (whole (lt_z (weight_of c k) (pos 0)) (at f.ends.lo k) (at f.ends.hi k) (ys k))
          where
            whole : (s : Bool) (x y : ℤ) (n : ℕ) → cond s (y *ℤ pos f.scale -ℤ pos (n * f.scale)) (x *ℤ pos f.scale +ℤ pos (n * f.scale)) ≡ cond s
                (y -ℤ pos n) (x +ℤ pos n) *ℤ pos f.scale
            whole true x y n = dn y n
              where
                dn : (y : ℤ) (n : ℕ) → y *ℤ pos f.scale -ℤ pos (n * f.scale) ≡ (y -ℤ pos n) *ℤ pos f.scale
                dn = split _ (λ a b n. simp zed (omega arith))
            whole false x y n = up x n
              where
                up : (x : ℤ) (n : ℕ) → x *ℤ pos f.scale +ℤ pos (n * f.scale) ≡ (x +ℤ pos n) *ℤ pos f.scale
                up = split _ (λ a b n. simp zed (omega arith))

-- ---- the least loss so far

pub cap-small : (E n d : ℕ) → E ≤ 1000 → Counted n d → E * n + (d - 1) ≤ 10000000000999
cap-small E n d h k = omega (arith, mul-le-mul h (num-small n d k), k.few)
  where
    num-small : (n d : ℕ) → Counted n d → n ≤ 10000000000
    num-small n d k = omega (arith, k.small, k.few)

pub cap-least : (E n d : ℕ) → E ≤ 1000 → Counted n d → (E * n + (d - 1)) / d ≤ 10000000000
cap-least E n d h k = go (dec_lt 10000000000 ((E * n + (d - 1)) / d))
  where
    go : Dec (10000000000 < (E * n + (d - 1)) / d) → (E * n + (d - 1)) / d ≤ 10000000000
    go (yes l) = absurd (omega (arith, (le-div_iff_mul-le {k = d} {x = 10000000001} {y = E * n + (d - 1)} k.some).0 l, mul-le-mul h k.small, k.some))
    go (no l) = omega arith

module _ (p q : ℕ) (c : Columns) (e : Ends) (w : List Bool) (t n d r : ℕ) (k : Counted n d) (f : FrameFloor p q c e w t r) where
  abbrev E : ℕ
  E = scale_of c t

  abbrev cap : ℕ
  cap = (E * n + (d - 1)) / d

  -- below the cap: less than n / d
  pub below-cap : r < cap → r * d < E * n
  below-cap h = omega (arith, (le-div_iff_mul-le {k = d} {x = suc r} {y = E * n + (d - 1)} k.some).0 h, k.some)

  pub lowered-counted : (1 ≤ E) × (E ≤ 1000) → r < cap → Counted r E
  lowered-counted s h = record {
    few = s.1;
    some = s.0;
    small = le_of_mul-le-mul_right {k = d}
        (omega (arith, below-cap h, mul-le-mul_left E k.small)) k.some;
  }

  pub lowered-new : FrameBound p q c e w r E t
  unfolding Loses
  lowered-new = record { bound = λ e' fr M pt. times E r (loss_of p q c e E M) (f.floor e' fr M pt) }
    where
      times : (E r : ℕ) (x : ℤ) → pos r ≤ℤ x → (pos r *ℤ pos E) ≤ℤ (pos E *ℤ x)
      times E r = split _ (λ a b. simp zed (λ h. omega (arith, mul-le-mul_left E h)))

  pub lowered-old : cap ≤ r → FrameBound p q c e w n d t
  unfolding Loses
  lowered-old h = record { bound = λ e' fr M pt. times (loss_of p q c e E M) (f.floor e' fr M pt) }
    where
      enough : E * n ≤ d * r
      enough = omega (arith, lt-div-mul-add {a = E * n + (d - 1)} {b = d} k.some, mul-le-mul_left d h, k.some)

      times : (x : ℤ) → pos r ≤ℤ x → (pos n *ℤ pos E) ≤ℤ (pos d *ℤ x)
      times x h = go E n d r x enough h
        where
          go : (E n d r : ℕ) (x : ℤ) → E * n ≤ d * r → pos r ≤ℤ x → (pos n *ℤ pos E) ≤ℤ (pos d *ℤ x)
          go E n d r = split _ (λ a b k. simp zed (λ h. omega (arith, mul-le-mul_left d h)))

-- a lesser loss bounds what a greater one does
pub bound-lower : (p q : ℕ) (c : Columns) (e : Ends) (w : List Bool) (t n d n' d' : ℕ) → 1 ≤ d → n' * d ≤ n * d' → FrameBound p q c e w n d t →
    FrameBound p q c e w n' d' t
unfolding Loses
bound-lower p q c e w t n d n' d' h k f = record { bound = λ e' fr M pt. go (scale_of c t) (loss_of p q c e (scale_of c t) M) (f.bound e' fr M pt) }
  where
    go : (E : ℕ) (x : ℤ) → (pos n *ℤ pos E) ≤ℤ (pos d *ℤ x) → (pos n' *ℤ pos E) ≤ℤ (pos d' *ℤ x)
    go E x m = times-≤-back d (pos n' *ℤ pos E) (pos d' *ℤ x) h (close E x m)
      where
        close : (E : ℕ) (x : ℤ) → (pos n *ℤ pos E) ≤ℤ (pos d *ℤ x) → ((pos n' *ℤ pos E) *ℤ pos d) ≤ℤ ((pos d' *ℤ x) *ℤ pos d)
        close E = split _ (λ a b. simp zed (λ m. omega (arith, mul-le-mul_left d' m, mul-le-mul_left E k)))

-- ---- the last frame

-- u is the last rank before t whose frame can be needed
pub record Latest (c : Columns) (e : Ends) (w : List Bool) (t u : ℕ) : Type 0 where
  pub before : u < t
  pub usable : Usable c e w u
  pub others : (s : ℕ) → u < s → s < t → Usable c e w s → ⊥

-- a point of the last frame is one of the latest frame that can be needed
module _ (p q : ℕ) (c : Columns) (e : Ends) (w : List Bool) (n d u : ℕ) (z : SizedColumns c) (o : Ordered c) (b : InOrder c e) (h : Latest c e w c.live u)
    (f : FrameBound p q c e w n d u) where
  abbrev S : ℕ
  S = scale_of c u

  abbrev J : ℕ
  J = item_of c u

  S≥1 : 1 ≤ S
  S≥1 = (scale_in c u z).0

  cut-u : cut_of c u ≡ J
  cut-u = ap (λ s. cond s (item_of c u) 16) (lt-ltb u c.live h.before)

  cut-last : cut_of c c.live ≡ 16
  cut-last = ap (λ s. cond s (item_of c c.live) 16) (le-ltb c.live c.live (omega arith))

  scale-last : scale_of c c.live ≡ 1
  scale-last = ap (λ s. cond s (nat_abs (at c.size c.live)) 1) (le-ltb c.live c.live (omega arith))

  not_last : (k : ℕ) → k < c.count → eqb k (cut_of c c.live) ≡ false
  not_last k l = rw cut-last (ne_eqb k 16 (λ i. off k l i))
    where
      off : (k : ℕ) → k < c.count → k ≡ 16 → ⊥
      off k l i = omega (arith, z.few)

  -- a continuous item that is not cut stands as in the last frame
  same-stand : (k : ℕ) → k < c.count → whole_at w k ≡ false → k ≢ J → stand c e u k ≡ stand c e c.live k
  same-stand k l i ne = go (dec_lt (rank_of c k) u) (dec_lt (rank_of c k) c.live)
    where
      item : item_of c (rank_of c k) ≡ k
      item = o.item-rank k l

      fixed : u < rank_of c k → rank_of c k < c.live → at e.lo k ≡ at e.hi k
      fixed m m' = again (≤ℤ-or-< (at e.hi k) (at e.lo k))
        where
          again : (at e.hi k ≤ℤ at e.lo k) ⊎ (at e.lo k <ℤ at e.hi k) → at e.lo k ≡ at e.hi k
          again (inl v) = ≤ℤ-antisym (b k l) v
          again (inr v) = absurd (h.others (rank_of c k) m m' (record { loose = rw item i; free = λ g. less (at e.lo k) (at e.hi k) v (rw item at g) }))
            where
              less : (x y : ℤ) → x <ℤ y → x ≡ y → ⊥
              less = split2 _ (λ a b c e. simp zed (omega arith))

      one : (x y a v : ℤ) → x ≡ y → lightest a v x y ≡ heaviest a x y
      one x y a v g = rw g (pick (lt_z (pos 0) a) (lt_z a (pos 0)) (lt_z (pos 0) v))
        where
          pick : (r s t : Bool) → cond r y (cond s y (cond t y y)) ≡ cond s y y
          pick true true t = refl
          pick true false t = refl
          pick false true t = refl
          pick false false true = refl
          pick false false false = refl

      not-u : rank_of c k ≡ u → ⊥
      not-u g = ne (sym item ∙ ap (item_of c) g)

      go : Dec (rank_of c k < u) → Dec (rank_of c k < c.live) → stand c e u k ≡ stand c e c.live k
      go (yes m) e' = rw (lt-ltb (rank_of c k) u m, lt-ltb (rank_of c k) c.live (omega (arith, h.before)))
      go (no m) (no m') = rw (le-ltb (rank_of c k) u (omega arith), le-ltb (rank_of c k) c.live (omega arith))
      go (no m) (yes m') = rw (le-ltb (rank_of c k) u (omega arith), lt-ltb (rank_of c k) c.live m')
          (one (at e.lo k) (at e.hi k) (weight_of c k) (price_of c k) (fixed (omega (arith, not-u)) m'))

  module _ (e' : Ends) (fr : Framed c e w c.live e') (M : ℕ → ℤ) (pt : Point c e' (scale_of c c.live) (cut_of c c.live) M) where
    above-1 : (k : ℕ) → k < c.count → at e'.lo k ≤ℤ M k
    above-1 k l = subst (λ x. x ≤ℤ M k) (times-one (at e'.lo k)) (subst (λ m. (at e'.lo k *ℤ pos m) ≤ℤ M k) scale-last (pt.above k l))
      where
        times-one : (x : ℤ) → x *ℤ pos 1 ≡ x
        times-one = split _ (λ a b. simp zed (omega arith))

    below-1 : (k : ℕ) → k < c.count → M k ≤ℤ at e'.hi k
    below-1 k l = subst (λ x. M k ≤ℤ x) (times-one (at e'.hi k)) (subst (λ m. M k ≤ℤ (at e'.hi k *ℤ pos m)) scale-last (pt.below k l))
      where
        times-one : (x : ℤ) → x *ℤ pos 1 ≡ x
        times-one = split _ (λ a b. simp zed (omega arith))

    M' : ℕ → ℤ
    M' k = M k *ℤ pos S

    -- the ends of the last frame lie within those of the latest one
    ends-in : (k : ℕ) → k < c.count → (frame_lo c e w u k ≤ℤ at e'.lo k) × (at e'.hi k ≤ℤ frame_hi c e w u k)
    ends-in k l = go (whole_at w k) refl (ℕ_discrete k J)
      where
        lo-is : (s : Bool) → whole_at w k ≡ s → at e'.lo k ≡ cond s (at e.lo k) (stand c e c.live k)
        lo-is s i = fr.low k l ∙ rw (i, not_last k l)

        hi-is : (s : Bool) → whole_at w k ≡ s → at e'.hi k ≡ cond s (at e.hi k) (stand c e c.live k)
        hi-is s i = fr.high k l ∙ rw (i, not_last k l)

        inside : (at e.lo k ≤ℤ stand c e c.live k) × (stand c e c.live k ≤ℤ at e.hi k)
        inside = stand-in c e w c.live b k l

        go : (s : Bool) → whole_at w k ≡ s → Dec (k ≡ J) → (frame_by s (eqb k (cut_of c u)) (at e.lo k) (stand c e u k) ≤ℤ at e'.lo k) ×
            (at e'.hi k ≤ℤ frame_by s (eqb k (cut_of c u)) (at e.hi k) (stand c e u k))
        go true i g = (rw (lo-is true i) (≤ℤ_refl (at e.lo k)), rw (hi-is true i) (≤ℤ_refl (at e.hi k)))
        go false i (yes g) = (
          rw (lo-is false i, eq-eqb k (cut_of c u) (g ∙ sym cut-u)) inside.0,
          rw (hi-is false i, eq-eqb k (cut_of c u) (g ∙ sym cut-u)) inside.1,
        )
        go false i (no g) = (
          rw (lo-is false i, ne_eqb k (cut_of c u) (λ v. g (v ∙ cut-u)), same-stand k l i g) (≤ℤ_refl (stand c e c.live k)),
          rw (hi-is false i, ne_eqb k (cut_of c u) (λ v. g (v ∙ cut-u)), same-stand k l i g) (≤ℤ_refl (stand c e c.live k)),
        )

    point-u : Point c (framed_ends c e w u) S (cut_of c u) M'
    unfolding M'
    point-u = record {
      above = λ k l. rw ((framed-ends c e w u z.few).low k l) (times-≤ S _ _ (≤ℤ-trans (ends-in k l).0 (above-1 k l)));
      below = λ k l. rw ((framed-ends c e w u z.few).high k l) (times-≤ S _ _ (≤ℤ-trans (below-1 k l) (ends-in k l).1));
      fits = subst (λ x. x ≤ℤ (c.capacity *ℤ pos S)) (sym (sum-times c.count (weight_of c) M S))
          (times-≤ S _ _ (subst (λ x. weigh_of c M ≤ℤ x) (one_more c.capacity) (subst (λ m. weigh_of c M ≤ℤ (c.capacity *ℤ pos m)) scale-last pt.fits)));
      whole = λ k l ne. (M k, refl);
    }
      where
        one_more : (x : ℤ) → x *ℤ pos 1 ≡ x
        one_more = split _ (λ a b. simp zed (omega arith))

    loss-times : loss_of p q c e S M' ≡ loss_of p q c e 1 M *ℤ pos S
    unfolding loss_of M'
    loss-times = ap (λ v. top_of p q c e *ℤ pos S -ℤ pos q *ℤ v) (sum-times c.count (price_of c) M S) ∙ ring (top_of p q c e) (value_of c M)
      where
        ring : (T v : ℤ) → T *ℤ pos S -ℤ pos q *ℤ (v *ℤ pos S) ≡ (T *ℤ pos 1 -ℤ pos q *ℤ v) *ℤ pos S
        ring = split2 _ (λ a b c e. simp zed (omega arith))

    pub last-loses : Loses p q c e n d (scale_of c c.live) M
    unfolding Loses
    last-loses = rw scale-last (back (loss_of p q c e 1 M) (subst (λ x. (pos n *ℤ pos S) ≤ℤ (pos d *ℤ x)) loss-times
        (f.bound _ (framed-ends c e w u z.few) M' point-u)))
      where
        back : (x : ℤ) → (pos n *ℤ pos S) ≤ℤ (pos d *ℤ (x *ℤ pos S)) → (pos n *ℤ pos 1) ≤ℤ (pos d *ℤ x)
        back x i = times-≤-back S _ _ S≥1 (turn x i)
          where
            turn : (x : ℤ) → (pos n *ℤ pos S) ≤ℤ (pos d *ℤ (x *ℤ pos S)) → ((pos n *ℤ pos 1) *ℤ pos S) ≤ℤ ((pos d *ℤ x) *ℤ pos S)
            turn = split _ (λ a b. simp zed (omega arith))

  pub last-bound : FrameBound p q c e w n d c.live
  last-bound = record { bound = λ e' fr M pt. last-loses e' fr M pt }

-- ---- from frame to frame

-- the loss that was known, or that of a frame
abbrev pub Exact : (p q : ℕ) (c : Columns) (e : Ends) (w : List Bool) (known : Lost) (b : Least) → Type 0
Exact p q c e w known b = ((b.shown ≡ None) × (b.lost ≡ known)) ⊎ Found p q c e w b

pub record Sofar (p q : ℕ) (c : Columns) (e : Ends) (w : List Bool) (known : Lost) (t : ℕ) (b : Least) : Type 0 where
  pub counted : Counted b.lost.num b.lost.den
  pub bounds : (s : ℕ) → s < t → Usable c e w s → FrameBound p q c e w b.lost.num b.lost.den s
  pub exact : Exact p q c e w known b
  pub latest : b.any ≡ true → (u : ℕ) × Latest c e w t u
  pub few : b.written ≤ t * least_cells
  pub gone : Gone p q c e w known t b

pub sofar-first : (p q : ℕ) (c : Columns) (e : Ends) (w : List Bool) (known : Lost) → Counted known.num known.den →
    Sofar p q c e w known 0 (record { lost = known; shown = None; any = false; written = 0 })
sofar-first p q c e w known k = record {
  counted = k;
  bounds = λ s l u. absurd (omega arith);
  exact = inl (refl, refl);
  latest = λ h. absurd (impossible h);
  few = omega arith;
  gone = begun;
}

-- a frame that is found stays found while the loss stays
stay : {p q : ℕ} {c : Columns} {e : Ends} {w : List Bool} {known : Lost} {b r : Least} → Same b r → Exact p q c e w known b → Exact p q c e w known r
stay (i, j) (inl (g, h)) = inl (j ∙ g, i ∙ h)
stay (i, j) (inr f) = inr (record {
  at = f.at;
  at_in = f.at_in;
  usable = f.usable;
  frame = record {
    place = f.frame.place;
    shown-is = j ∙ f.frame.shown-is;
    den-is = ap (λ (x : Lost). x.den) i ∙ f.frame.den-is;
    deep = rw i f.frame.deep;
    floor = rw i f.frame.floor;
    first = rw i f.frame.first;
  };
})

module _ {p q : ℕ} {c : Columns} {e : Ends} {w : List Bool} {known : Lost} {t : ℕ} {b : Least} (h : Sofar p q c e w known t b) where
  pub sofar-step : (r : Least) → t < c.live → Considered p q c e w t b r → Sofar p q c e w known (t + 1) r
  sofar-step r l k = record {
    counted = k.counted;
    bounds = λ s i u. bounds s i u (ℕ_discrete s t);
    exact = exact k.exact;
    latest = λ i. latest i k.any;
    few = omega (arith, k.few, h.few);
    gone = onward t b r h.gone k;
  }
    where
      bounds : (s : ℕ) → s < t + 1 → Usable c e w s → Dec (s ≡ t) → FrameBound p q c e w r.lost.num r.lost.den s
      bounds s i u (yes j) = subst (λ m. FrameBound p q c e w r.lost.num r.lost.den m) (sym j) (k.bound (subst (λ m. Usable c e w m) j u))
      bounds s i u (no j) = bound-lower p q c e w s b.lost.num b.lost.den r.lost.num r.lost.den h.counted.some k.lower
          (h.bounds s (omega arith) u)

      exact : Same b r ⊎ (Usable c e w t × AtFrame p q c e w t r) → Exact p q c e w known r
      exact (inl i) = stay i h.exact
      exact (inr (u, f)) = inr (record {
        at = t;
        at_in = omega arith;
        usable = λ m. u;
        frame = f;
      })

      latest : r.any ≡ true → (Usable c e w t × (r.any ≡ true)) ⊎ ((Usable c e w t → ⊥) × (r.any ≡ b.any)) → (u : ℕ) × Latest c e w (t + 1) u
      latest i (inl (u, j)) = (t, record { before = omega arith; usable = u; others = λ s m n v. absurd (omega arith) })
      latest i (inr (no-use, j)) = let v = h.latest (sym j ∙ i) in
          (v.0, record { before = omega (arith, v.1.before); usable = v.1.usable; others = λ s m n x. others s m n x (ℕ_discrete s t) })
        where
          others : (s : ℕ) → (h.latest (sym j ∙ i)).0 < s → s < t + 1 → Usable c e w s → Dec (s ≡ t) → ⊥
          others s m n x (yes g) = no-use (subst (λ y. Usable c e w y) g x)
          others s m n x (no g) = (h.latest (sym j ∙ i)).1.others s m (omega arith) x

  -- another frame stands for the last one
  pub sofar-any : t ≡ c.live → SizedColumns c → Ordered c → InOrder c e → b.any ≡ true → LeastLoss p q c e w known b
  sofar-any i z o ord any = record {
    counted = h.counted;
    ceiling = ceiling-of p q c e w b.lost.num b.lost.den o ord z.few (λ s m u. h.bounds s (omega arith) u)
        (last-bound p q c e w b.lost.num b.lost.den v.0 z o ord (subst (λ m. Latest c e w m v.0) i v.1)
        (h.bounds v.0 v.1.before v.1.usable));
    exact = h.exact;
    few = omega (arith, h.few, z.live-few);
    writes = some b (subst (λ m. Gone p q c e w known m b) i h.gone) any;
  }
    where
      v : (u : ℕ) × Latest c e w t u
      v = h.latest any

  -- the last frame
  pub sofar-done : (r : Least) → t ≡ c.live → SizedColumns c → Ordered c → InOrder c e → b.any ≡ false → Lowered p q c e w c.live b r →
      LeastLoss p q c e w known r
  sofar-done r i z o ord unused l = record {
    counted = l.counted;
    ceiling = ceiling-of p q c e w r.lost.num r.lost.den o ord z.few
        (λ s m u. bound-lower p q c e w s b.lost.num b.lost.den r.lost.num r.lost.den h.counted.some l.lower
        (h.bounds s (omega arith) u)) l.bound;
    exact = exact l.exact;
    few = omega (arith, l.few, h.few, z.live-few);
    writes = none b r (subst (λ m. Gone p q c e w known m b) i h.gone) unused l;
  }
    where
      exact : Same b r ⊎ AtFrame p q c e w c.live r → Exact p q c e w known r
      exact (inl j) = stay j h.exact
      exact (inr f) = inr (record {
        at = c.live;
        at_in = omega arith;
        usable = λ m. absurd (omega (arith, m));
        frame = f;
      })
