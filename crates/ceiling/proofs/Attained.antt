-- The other way round: a way to fill the room is a point of the box that loses just what it costs.
--   Made b E a r l u y x    the amount x is y pieces: it lies between the ends, weighs and loses what they do
-- made-whole, made-cut: the amounts. made-point, made-loses: the point.
use mathlib.Core.Path.{◌≡◌, refl, sym, ap, ap₂, ◌∙◌}
use mathlib.Core.Bool.{Bool, true, false, cond}
use mathlib.Core.Logic.{◌≢◌}
use Prim.Native.Nat.{ℕ, ◌+◌, ◌*◌, ◌-◌, ◌≤◌, ◌<◌}
use native.Mathlib.Omega.{arith}
use native.Mathlib.Nat.{mul-le-mul_right}
use native.Mathlib.Decide.{ℕ_discrete}
use lib.Dec.{eqb}
use lib.IntN.{ℤ, pos, nat_abs, ◌+ℤ◌, ◌-ℤ◌, ◌*ℤ◌}
use lib.ListN.{length}
use lib.Signed.{◌≤ℤ◌, lt_z}
use borrow.Author.Tests.{eq-eqb, ne_eqb}
use Rattle.arith.specs.Sum.{sum}
use Rattle.arith.proofs.Integers.{split, split2, split3, zed}
use Rattle.arith.proofs.Sums.{sum-cong, sum-diff, sum-times, sum-scale}
use Rattle.greedy.specs.declared.Columns.{Columns}
use Rattle.greedy.specs.declared.Ends.{Ends}
use Rattle.greedy.specs.Fill.{at, weight_of}
use Rattle.greedy.proofs.Relaxed.{InOrder}
use Rattle.scales.specs.Filling as filling
use Rattle.fillings.specs.declared.Parts.{Parts}
use Rattle.fillings.specs.Ranges.{num, items_in}
use Rattle.ceiling.specs.Loss.{score_of, good_end, weigh_of, loss_of, Point}
use Rattle.ceiling.specs.Pieces.{foot_by, size_by, span_by, cost_by, heavy_by, amount_by, size_of, span_of, taken_of, left_of, foot_of, amount_of, room_by, Pieces}
use Rattle.ceiling.proofs.Loss.{term, loss-is}
use Rattle.ceiling.proofs.Pieces.{Apart, apart, abs-pos}
use Rattle.ceiling.proofs.Bounded.{pos_sum, sum-tail, sum-last, cong-sum}

pub record Made (b : Bool) (E : ℕ) (a r l u : ℤ) (y : ℕ) (x : ℤ) : Type 0 where
  pub above : (l *ℤ pos E) ≤ℤ x
  pub below : x ≤ℤ (u *ℤ pos E)
  pub weigh : pos (size_by b a * y) *ℤ pos E ≡ a *ℤ x -ℤ (a *ℤ foot_by a l u) *ℤ pos E
  pub lose : r *ℤ (good_end r l u *ℤ pos E -ℤ x) ≡ pos (cost_by b E r * cond (heavy_by a r) (span_by b E l u - y) y)

-- it lies between the ends
amount-in : (E : ℕ) (l u : ℤ) (f : ℕ) (s : Bool) → l ≤ℤ u → f ≤ nat_abs (u -ℤ l) * E
    → ((l *ℤ pos E) ≤ℤ cond s (u *ℤ pos E -ℤ pos f) (l *ℤ pos E +ℤ pos f)) × (cond s (u *ℤ pos E -ℤ pos f) (l *ℤ pos E +ℤ pos f) ≤ℤ (u *ℤ pos E))
amount-in E l u f s o h = go s (nat_abs (u -ℤ l)) (abs-pos (u -ℤ l) (gap l u o)) h
  where
    gap : (x y : ℤ) → x ≤ℤ y → pos 0 ≤ℤ (y -ℤ x)
    gap = split2 _ (λ a b c e. simp zed (omega arith))

    down : (l u : ℤ) (W f : ℕ) → u -ℤ l ≡ pos W → f ≤ W * E → ((l *ℤ pos E) ≤ℤ (u *ℤ pos E -ℤ pos f)) × ((u *ℤ pos E -ℤ pos f) ≤ℤ (u *ℤ pos E))
    down = split2 _ (λ a b c e W f. simp zed (λ i h. (omega (arith, ap (λ (n : ℕ). n * E) i), omega arith)))

    up : (l u : ℤ) (W f : ℕ) → u -ℤ l ≡ pos W → f ≤ W * E → ((l *ℤ pos E) ≤ℤ (l *ℤ pos E +ℤ pos f)) × ((l *ℤ pos E +ℤ pos f) ≤ℤ (u *ℤ pos E))
    up = split2 _ (λ a b c e W f. simp zed (λ i h. (omega arith, omega (arith, ap (λ (n : ℕ). n * E) i))))

    go : (s : Bool) (W : ℕ) → u -ℤ l ≡ pos W → f ≤ W * E → ((l *ℤ pos E) ≤ℤ cond s (u *ℤ pos E -ℤ pos f) (l *ℤ pos E +ℤ pos f)) ×
        (cond s (u *ℤ pos E -ℤ pos f) (l *ℤ pos E +ℤ pos f) ≤ℤ (u *ℤ pos E))
    go true W i h = down l u W f i h
    go false W i h = up l u W f i h

module _ (E : ℕ) (a r l u : ℤ) (E≥1 : 1 ≤ E) (o : l ≤ℤ u) (y : ℕ) where
  -- the pieces of a whole item
  made-whole : y ≤ nat_abs (u -ℤ l) → Made false E a r l u y (amount_by false E a l u y)
  made-whole h = record {
    above = i.0;
    below = i.1;
    weigh = turn (nat_abs a) p.far far-is ∙ sym p.weigh;
    lose = p.lose ∙ ap pos (go (heavy_by a r));
  }
    where
      i : ((l *ℤ pos E) ≤ℤ amount_by false E a l u y) × (amount_by false E a l u y ≤ℤ (u *ℤ pos E))
      i = amount-in E l u (y * E) (lt_z a (pos 0)) o (mul-le-mul_right E h)

      p : Apart E a r l u (amount_by false E a l u y)
      p = apart E l u (amount_by false E a l u y) i.0 i.1 E≥1 a r

      far-is : p.far ≡ y * E
      far-is = p.far-is (y * E) refl

      turn : (m f : ℕ) → f ≡ y * E → pos (m * y) *ℤ pos E ≡ pos (m * f)
      turn m f h = rw h (simp zed (omega arith))

      rest-is : p.rest ≡ (nat_abs (u -ℤ l) - y) * E
      rest-is = close (nat_abs (u -ℤ l)) (nat_abs (u -ℤ l) - y) p.rest (omega arith) (omega (arith, far-is, p.both))
        where
          close : (w v r : ℕ) → w ≡ y + v → y * E + r ≡ w * E → r ≡ v * E
          close w v r i j = omega (arith, ap (λ (n : ℕ). n * E) i)

      go : (v : Bool) → nat_abs r * cond v p.rest p.far ≡ (E * nat_abs r) * cond v (nat_abs (u -ℤ l) - y) y
      go true = omega (arith, ap (λ (n : ℕ). nat_abs r * n) rest-is)
      go false = omega (arith, ap (λ (n : ℕ). nat_abs r * n) far-is)

  -- those of the item cut
  made-cut : nat_abs a ≡ E → y ≤ E * nat_abs (u -ℤ l) → Made true E a r l u y (amount_by true E a l u y)
  made-cut same h = record {
    above = i.0;
    below = i.1;
    weigh = turn (nat_abs a) p.far far-is same ∙ sym p.weigh;
    lose = p.lose ∙ ap pos (go (heavy_by a r));
  }
    where
      i : ((l *ℤ pos E) ≤ℤ amount_by true E a l u y) × (amount_by true E a l u y ≤ℤ (u *ℤ pos E))
      i = amount-in E l u (y * 1) (lt_z a (pos 0)) o (omega arith)

      p : Apart E a r l u (amount_by true E a l u y)
      p = apart E l u (amount_by true E a l u y) i.0 i.1 E≥1 a r

      far-is : p.far ≡ y
      far-is = p.far-is (y * 1) refl ∙ omega arith

      turn : (m f : ℕ) → f ≡ y → m ≡ E → pos (1 * y) *ℤ pos E ≡ pos (m * f)
      turn m f h k = rw (h, k) (simp zed (omega arith))

      rest-is : p.rest ≡ E * nat_abs (u -ℤ l) - y
      rest-is = omega (arith, far-is, p.both)

      go : (v : Bool) → nat_abs r * cond v p.rest p.far ≡ nat_abs r * cond v (E * nat_abs (u -ℤ l) - y) y
      go true = ap (λ (n : ℕ). nat_abs r * n) rest-is
      go false = ap (λ (n : ℕ). nat_abs r * n) far-is

module _ (p q : ℕ) (c : Columns) (e : Ends) (E cut : ℕ) (few : c.count ≤ 16) (E≥1 : 1 ≤ E) (cut-size : cut < c.count →
    nat_abs (weight_of c cut) ≡ E) (o : InOrder c e)
    (room : ℕ) (room-is : pos room ≡ room_by c e) (ps : Parts) (b : Pieces p q c e E cut room c.count ps)
    (y : ℕ → ℕ) (within : filling.Within (items_in ps) y) (fills : filling.load (items_in ps) y ≡ room) where
  abbrev n : ℕ
  n = c.count

  abbrev N : ℕ → ℤ
  N = amount_of c e E cut y

  made : (k : ℕ) → k < n → Made (eqb k cut) E (weight_of c k) (score_of p q c k) (at e.lo k) (at e.hi k) (y k) (N k)
  made k l = go (ℕ_discrete k cut) (omega (arith, within k (omega (arith, b.weights.long)), b.ranges.items k l))
    where
      go : Dec (k ≡ cut) → y k ≤ span_of e E cut k → Made (eqb k cut) E (weight_of c k) (score_of p q c k) (at e.lo k) (at e.hi k) (y k)
          (amount_by (eqb k cut) E (weight_of c k) (at e.lo k) (at e.hi k) (y k))
      go (yes i) m = rw (eq-eqb k cut i) (made-cut E (weight_of c k) (score_of p q c k) (at e.lo k) (at e.hi k) E≥1 (o k l) (y k)
          (ap (λ j. nat_abs (weight_of c j)) i ∙ cut-size (omega arith)) (rw (eq-eqb k cut i) at m))
      go (no i) m = rw (ne_eqb k cut i) (made-whole E (weight_of c k) (score_of p q c k) (at e.lo k) (at e.hi k) E≥1 (o k l) (y k)
          (rw (ne_eqb k cut i) at m))

  whole : (k : ℕ) → k ≢ cut → (x : ℤ) × (N k ≡ x *ℤ pos E)
  whole k i = rw (ne_eqb k cut i) (go (lt_z (weight_of c k) (pos 0)))
    where
      down : (u : ℤ) (y : ℕ) → u *ℤ pos E -ℤ pos (y * E) ≡ (u -ℤ pos y) *ℤ pos E
      down = split _ (λ a b y. simp zed (omega arith))

      up : (l : ℤ) (y : ℕ) → l *ℤ pos E +ℤ pos (y * E) ≡ (l +ℤ pos y) *ℤ pos E
      up = split _ (λ a b y. simp zed (omega arith))

      go : (s : Bool) → (x : ℤ) × (cond s (at e.hi k *ℤ pos E -ℤ pos (y k * E)) (at e.lo k *ℤ pos E +ℤ pos (y k * E)) ≡ x *ℤ pos E)
      go true = (at e.hi k -ℤ pos (y k), down (at e.hi k) (y k))
      go false = (at e.lo k +ℤ pos (y k), up (at e.lo k) (y k))

  -- a sum over all places: over the items, and the slack
  over-all : (f : ℕ → ℕ) → ((k : ℕ) → n ≤ k → k < 16 → f k ≡ 0) → filling.sum (length ps.weight) f ≡ filling.sum n f + f 16
  over-all f i = sum-last (length ps.weight) 16 f b.weights.long ∙ ap (λ m. m + f 16) (sum-tail 16 n f few i)

  loaded : ℕ
  loaded = filling.sum n (λ k. size_of c cut k * y k)

  room-filled : loaded + y 16 ≡ room
  unfolding loaded
  room-filled = sym (over-all (λ j. num ps.weight j * y j) (λ k l m. rw (b.weights.none k l m) (omega arith))
      ∙ ap₂ ◌+◌ (cong-sum n (λ j. num ps.weight j * y j) (λ k. size_of c cut k * y k) (λ k l. ap (λ (m : ℕ). m * y k) (b.weights.items k l)))
      (ap (λ (m : ℕ). m * y 16) b.weights.last ∙ omega arith))
      ∙ fills

  abbrev spent : ℕ → ℕ
  spent k = taken_of p q c E cut k * y k + left_of p q c E cut k * (span_of e E cut k - y k)

  cost-is : filling.sum n spent + (E * p) * y 16 ≡ filling.cost (items_in ps) y
  cost-is = sym (over-all (λ j. num ps.taken j * y j + num ps.left j * (num ps.range j - y j))
      (λ k l m. rw (b.takens.none k l m, b.lefts.none k l m) (omega arith))
      ∙ ap₂ ◌+◌ (cong-sum n (λ j. num ps.taken j * y j + num ps.left j * (num ps.range j - y j)) spent
      (λ k l. rw (b.takens.items k l, b.lefts.items k l, b.ranges.items k l)))
      (rw (b.takens.last, b.lefts.last) (omega arith)))

  -- what each item loses
  term_is : (k : ℕ) → k < n → term p q c e E N k ≡ pos (spent k)
  term_is k l = (made k l).lose ∙ ap pos (sym (go (heavy_by (weight_of c k) (score_of p q c k)) (cost_by (eqb k cut) E (score_of p q c k)) (y k)
      (span_of e E cut k - y k)))
    where
      go : (v : Bool) (m a d : ℕ) → cond v 0 m * a + cond v m 0 * d ≡ m * cond v d a
      go true m a d = omega arith
      go false m a d = omega arith

  loaded-is : pos loaded *ℤ pos E ≡ weigh_of c N -ℤ sum n (λ k. weight_of c k *ℤ foot_of c e k) *ℤ pos E
  unfolding loaded
  loaded-is = ap (λ z. z *ℤ pos E) (pos_sum n (λ k. size_of c cut k * y k))
      ∙ swap (sum n (λ k. pos (size_of c cut k * y k)))
      ∙ sym (sum-scale n (pos E) (λ k. pos (size_of c cut k * y k)))
      ∙ sum-cong n (λ k. pos E *ℤ pos (size_of c cut k * y k)) (λ k. weight_of c k *ℤ (N k -ℤ foot_of c e k *ℤ pos E))
      (λ k l. sym (swap (pos (size_of c cut k * y k))) ∙ (made k l).weigh ∙ out (weight_of c k) (N k) (foot_of c e k))
      ∙ sum-diff n (weight_of c) N (λ k. foot_of c e k *ℤ pos E)
      ∙ ap (λ z. weigh_of c N -ℤ z) (sum-times n (weight_of c) (foot_of c e) E)
    where
      swap : (x : ℤ) → x *ℤ pos E ≡ pos E *ℤ x
      swap = split _ (λ a b. simp zed (omega arith))

      out : (a x f : ℤ) → a *ℤ x -ℤ (a *ℤ f) *ℤ pos E ≡ a *ℤ (x -ℤ f *ℤ pos E)
      out = split3 _ (λ a b c e f g. simp zed (omega arith))

  -- what is left of the capacity
  slack-is : pos (y 16) *ℤ pos E ≡ c.capacity *ℤ pos E -ℤ weigh_of c N
  slack-is = close (weigh_of c N) (sum n (λ k. weight_of c k *ℤ foot_of c e k)) c.capacity loaded room (y 16) loaded-is room-is room-filled
    where
      close : (W F B : ℤ) (m n s : ℕ) → pos m *ℤ pos E ≡ W -ℤ F *ℤ pos E → pos n ≡ B -ℤ F → m + s ≡ n → pos s *ℤ pos E ≡ B *ℤ pos E -ℤ W
      close = split3 _ (λ a b c e f g m n s. simp zed (λ i j k. omega (arith, ap (λ (x : ℕ). x * E) j, ap (λ (x : ℕ). x * E) k)))

  fits : weigh_of c N ≤ℤ (c.capacity *ℤ pos E)
  fits = close (weigh_of c N) (c.capacity *ℤ pos E) (y 16) slack-is
    where
      close : (W B : ℤ) (s : ℕ) → pos s *ℤ pos E ≡ B -ℤ W → W ≤ℤ B
      close = split2 _ (λ a b c e s. simp zed (omega arith))

  pub made-loses : loss_of p q c e E N ≡ pos (filling.cost (items_in ps) y)
  made-loses = loss-is p q c e E N
      ∙ ap₂ ◌+ℤ◌ (sum-cong n (term p q c e E N) (λ k. pos (spent k)) (λ k l. term_is k l) ∙ sym (pos_sum n spent))
      (ap (λ z. pos p *ℤ z) (sym slack-is) ∙ priced (y 16))
      ∙ plus (filling.sum n spent) ((E * p) * y 16)
      ∙ ap pos cost-is
    where
      priced : (s : ℕ) → pos p *ℤ (pos s *ℤ pos E) ≡ pos ((E * p) * s)
      priced s = simp zed (omega arith)

      plus : (m n : ℕ) → pos m +ℤ pos n ≡ pos (m + n)
      plus m n = simp zed (omega arith)

  pub made-point : Point c e E cut N
  made-point = record { above = λ k l. (made k l).above; below = λ k l. (made k l).below; fits = fits; whole = λ k l i. whole k i }
