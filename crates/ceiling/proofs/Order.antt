-- The first point that loses r, from the first filling that costs r.
-- amount-less: fewer pieces, an amount that comes first, or last where it falls. first-point: the point. first-none: there is none.
use mathlib.Core.Path.{◌≡◌, sym, ap, ◌∙◌, subst}
use mathlib.Core.Bool.{Bool, true, false, cond}
use mathlib.Core.List.{List}
use mathlib.Core.Logic.{◌⊎◌, inl, inr}
use Prim.Native.Nat.{ℕ, ◌+◌, ◌*◌, ◌≤◌, ◌<◌}
use native.Mathlib.Omega.{arith}
use native.Mathlib.Nat.{mul-le-mul_right}
use native.Mathlib.Decide.{dec_lt}
use lib.Dec.{eqb}
use lib.IntN.{ℤ, pos, nat_abs, ◌+ℤ◌, ◌-ℤ◌, ◌*ℤ◌}
use lib.ListN.{length}
use lib.Signed.{◌≤ℤ◌, ◌<ℤ◌, lt_z}
use Rattle.arith.proofs.Integers.{split, zed}
use Rattle.arith.proofs.Sums.{sum-cong}
use Rattle.scales.specs.Filling as filling
use Rattle.fillings.specs.declared.Parts.{Parts}
use Rattle.fillings.specs.Ranges.{num, flag, items_in}
use Rattle.fillings.specs.Runs as runs
use Rattle.fillings.specs.Foremost.{FirstAt}
use Rattle.greedy.specs.declared.Columns.{Columns}
use Rattle.greedy.specs.declared.Ends.{Ends}
use Rattle.greedy.specs.Fill.{at, weight_of, price_of}
use Rattle.greedy.proofs.Relaxed.{InOrder}
use Rattle.ceiling.specs.Loss.{weigh_of, top_of, loss_of, Point, Floor}
use Rattle.ceiling.specs.Pieces.{amount_by, amount_of, room_by, Pieces}
use Rattle.ceiling.specs.Least.{Earlier, NotAfter, FirstPoint}
use Rattle.ceiling.proofs.Bounded.{way, way-within, way_fills, way-costs, way-makes}
use Rattle.ceiling.proofs.Attained.{made-point, made-loses}

amount-less : (b : Bool) (E : ℕ) (a l u : ℤ) (y z : ℕ) → 1 ≤ E → runs.less_by (lt_z a (pos 0)) y z → amount_by b E a l u y <ℤ amount_by b E a l u z
amount-less b E a l u y z h k = go (lt_z a (pos 0)) k
  where
    some : (b : Bool) → 1 ≤ cond b 1 E
    some true = omega arith
    some false = h

    step : (x y z s : ℕ) → 1 ≤ s → y < z → y * s < z * s
    step x y z s h k = omega (arith, mul-le-mul_right s k)

    up : (x : ℤ) (m n : ℕ) → m < n → (x +ℤ pos m) <ℤ (x +ℤ pos n)
    up = split _ (λ a b m n. simp zed (omega arith))

    dn : (x : ℤ) (m n : ℕ) → m < n → (x -ℤ pos n) <ℤ (x -ℤ pos m)
    dn = split _ (λ a b m n. simp zed (omega arith))

    go : (s : Bool) → runs.less_by s y z → cond s (u *ℤ pos E -ℤ pos (y * cond b 1 E)) (l *ℤ pos E +ℤ pos (y * cond b 1 E)) <ℤ cond s
        (u *ℤ pos E -ℤ pos (z * cond b 1 E)) (l *ℤ pos E +ℤ pos (z * cond b 1 E))
    go true i = dn (u *ℤ pos E) (z * cond b 1 E) (y * cond b 1 E) (step 0 z y (cond b 1 E) (some b) i)
    go false i = up (l *ℤ pos E) (y * cond b 1 E) (z * cond b 1 E) (step 0 y z (cond b 1 E) (some b) i)

module _ (p q : ℕ) (c : Columns) (e : Ends) (E cut : ℕ) (few : c.count ≤ 16) (E≥1 : 1 ≤ E) (cut-size : cut < c.count →
    nat_abs (weight_of c cut) ≡ E) (o : InOrder c e)
    (room : ℕ) (room-is : pos room ≡ room_by c e) (ps : Parts) (b : Pieces p q c e E cut room c.count ps) (r : ℕ) where
  abbrev n : ℕ
  n = c.count

  -- a bound of losses is one of costs
  pub floor-bounds : Floor p q c e E cut r → filling.Bounds (items_in ps) room r
  floor-bounds f y w fl = back r (filling.cost (items_in ps) y)
      (subst (λ z. pos r ≤ℤ z) (made-loses p q c e E cut few E≥1 cut-size o room room-is ps b y w fl)
      (f.floor (amount_of c e E cut y) (made-point p q c e E cut few E≥1 cut-size o room room-is ps b y w fl)))
    where
      back : (m n : ℕ) → pos m ≤ℤ pos n → m ≤ n
      back m n = simp zed (omega arith)

  -- no filling that costs so little, no point
  pub first-none : ((y : ℕ → ℕ) → filling.Within (items_in ps) y → filling.load (items_in ps) y ≡ room → r + 1 ≤ filling.cost (items_in ps) y) → (M : ℕ → ℤ) →
      Point c e E cut M → pos r <ℤ loss_of p q c e E M
  first-none h M pt = subst (λ z. pos r <ℤ z) (way-costs p q c e E cut few E≥1 cut-size M pt room room-is ps b)
      (up r _ (h (way p q c e E cut few E≥1 cut-size M pt room room-is) (way-within p q c e E cut few E≥1 cut-size M pt room room-is ps b)
      (way_fills p q c e E cut few E≥1 cut-size M pt room room-is ps b)))
    where
      up : (m n : ℕ) → m + 1 ≤ n → pos m <ℤ pos n
      up m n h = simp zed (omega arith)

  module _ (ys : List ℕ) (h : FirstAt ps room r ys) where
    abbrev y : ℕ → ℕ
    y = h.amounts

    abbrev N : ℕ → ℤ
    N = amount_of c e E cut (num ys)

    same : (k : ℕ) → k < n → N k ≡ amount_of c e E cut y k
    same k l = ap (amount_by (eqb k cut) E (weight_of c k) (at e.lo k) (at e.hi k)) (h.shown k (omega (arith, few)))

    N-point : Point c e E cut (amount_of c e E cut y)
    N-point = made-point p q c e E cut few E≥1 cut-size o room room-is ps b y h.within h.fills

    -- an amount that is earlier by its pieces
    earlier : (M : ℕ → ℤ) (z : ℕ → ℕ) → filling.Within (items_in ps) z → ((k : ℕ) → k < n → M k ≡ amount_of c e E cut z k) → runs.Earlier ps 16 y z →
        Earlier n (amount_of c e E cut y) M
    earlier M z w makes i = go (dec_lt i.place n)
      where
        j : ℕ
        j = i.place

        go : Dec (j < n) → Earlier n (amount_of c e E cut y) M
        go (yes l) = record {
          place = j;
          below = l;
          same = λ k m. ap (amount_by (eqb k cut) E (weight_of c k) (at e.lo k) (at e.hi k)) (i.same k m) ∙ sym (makes k (omega arith));
          less = subst (λ v. amount_of c e E cut y j <ℤ v) (sym (makes j l))
              (amount-less (eqb j cut) E (weight_of c j) (at e.lo j) (at e.hi j) (y j) (z j) E≥1
              (subst (λ v. runs.less_by v (y j) (z j)) (b.falls.items j l) i.less));
        }
        go (no l) = absurd (none (flag ps.falls j) (h.within j j-in) (w j j-in) i.less)
          where
            j-in : j < length ps.weight
            j-in = omega (arith, i.below, b.weights.long)

            zero-range : num ps.range j ≡ 0
            zero-range = b.ranges.none j (omega arith) i.below

            none : (v : Bool) → y j ≤ num ps.range j → z j ≤ num ps.range j → runs.less_by v (y j) (z j) → ⊥
            none true f g k = omega (arith, zero-range)
            none false f g k = omega (arith, zero-range)

    loss-same : loss_of p q c e E N ≡ loss_of p q c e E (amount_of c e E cut y)
    unfolding loss_of
    loss-same = ap (λ v. top_of p q c e *ℤ pos E -ℤ pos q *ℤ v)
        (sum-cong n (λ k. price_of c k *ℤ N k) (λ k. price_of c k *ℤ amount_of c e E cut y k) (λ k l. ap (λ z. price_of c k *ℤ z) (same k l)))

    pub first-point : FirstPoint p q c e E cut r N
    first-point = record {
      is-point = record {
        above = λ k l. rw (same k l) (N-point.above k l);
        below = λ k l. rw (same k l) (N-point.below k l);
        fits = subst (λ z. z ≤ℤ (c.capacity *ℤ pos E)) (sym weigh-same) N-point.fits;
        whole = λ k l ne. rw (same k l) (N-point.whole k l ne);
      };
      loses = loss-same ∙ made-loses p q c e E cut few E≥1 cut-size o room room-is ps b y h.within h.fills ∙ ap pos h.costs;
      first = first;
    }
      where
        weigh-same : weigh_of c N ≡ weigh_of c (amount_of c e E cut y)
        weigh-same = sum-cong n (λ k. weight_of c k *ℤ N k) (λ k. weight_of c k *ℤ amount_of c e E cut y k) (λ k l. ap (λ z. weight_of c k *ℤ z) (same k l))

        first : (M : ℕ → ℤ) → Point c e E cut M → loss_of p q c e E M ≡ pos r → NotAfter n N M
        first M pt l = go (h.first z w (way_fills p q c e E cut few E≥1 cut-size M pt room room-is ps b)
            (inj (filling.cost (items_in ps) z) r (way-costs p q c e E cut few E≥1 cut-size M pt room room-is ps b ∙ l)))
          where
            z : ℕ → ℕ
            z = way p q c e E cut few E≥1 cut-size M pt room room-is

            w : filling.Within (items_in ps) z
            w = way-within p q c e E cut few E≥1 cut-size M pt room room-is ps b

            makes : (k : ℕ) → k < n → M k ≡ amount_of c e E cut z k
            makes = way-makes p q c e E cut few E≥1 cut-size M pt room room-is ps b

            inj : (m n : ℕ) → pos m ≡ pos n → m ≡ n
            inj m n = simp zed (omega arith)

            go : ((j : ℕ) → j < 16 → y j ≡ z j) ⊎ runs.Earlier ps 16 y z → NotAfter n N M
            go (inl i) = inl (λ k l. same k l ∙ ap (amount_by (eqb k cut) E (weight_of c k) (at e.lo k) (at e.hi k))
                (i k (omega (arith, few))) ∙ sym (makes k l))
            go (inr i) = let v = earlier M z w makes i in inr
                (record {
                  place = v.place;
                  below = v.below;
                  same = λ k m. same k (omega (arith, v.below)) ∙ v.same k m;
                  less = subst (λ x. x <ℤ M v.place) (sym (same v.place v.below)) v.less;
                })
