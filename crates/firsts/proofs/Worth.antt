-- What an optimal point is worth, and what it loses at the critical item's price.
-- worth-made: the filling at an optimal place is an optimal point.  worth-room: the box has room.
-- fair: what it loses is not below 0, and little.  fits-made: so its numbers are small.
-- losing-made: and no feasible point loses less.
use mathlib.Core.Path.{◌≡◌, refl, sym, ap, ◌∙◌, subst}
use mathlib.Core.List.{List}
use mathlib.Core.Logic.{◌⊎◌, inl, inr}
use Prim.Native.Nat.{ℕ, zero, suc, ◌+◌, ◌*◌, ◌-◌, ◌≤◌, ◌<◌}
use native.Mathlib.Omega.{arith}
use native.Mathlib.Nat.{mul-le-mul, mul-le-mul_left, mul-le-mul_right, le_of_mul-le-mul_right}
use lib.IntN.{ℤ, pos, negsuc, nat_abs, ◌+ℤ◌, ◌-ℤ◌, ◌*ℤ◌}
use lib.Signed.{◌≤ℤ◌, ◌<ℤ◌, ≤ℤ_refl}
use Rattle.arith.specs.Mixed.{Proper}
use Rattle.arith.specs.Sum.{sum}
use Rattle.arith.specs.Within.{Within}
use Rattle.arith.specs.declared.Mixed.{Mixed}
use Rattle.arith.proofs.Integers.{split2, split3, zed, +ℤ-mono, ≤ℤ-or-<}
use Rattle.arith.proofs.Mixes.{over}
use Rattle.arith.proofs.Parts.{abs-within, within-abs, within-sub}
use Rattle.greedy.specs.declared.Columns.{Columns}
use Rattle.greedy.specs.declared.Ends.{Ends}
use Rattle.greedy.specs.Fill.{at, fill, bound}
use Rattle.greedy.proofs.Bounds.{bound-proper}
use Rattle.greedy.proofs.Relaxed.{box_of, fill-empty}
use Rattle.greedy.proofs.Sizes.{fill-sized}
use Rattle.knapsack.proofs.Common.{valueᴰ, Feasibleᴰ, Optimalᴰ}
use Rattle.knapsack.specs.declared.Mark.{Mark}
use Rattle.ceiling.specs.Bound.{Priced}
use Rattle.ceiling.specs.Loss.{good_end, score_by, value_of, top_of, loss_of}
use Rattle.ceiling.specs.declared.Price.{Price}
use Rattle.ceiling.proofs.Loss.{term, loss-is, terms≥0, slack≥0}
use Rattle.ceiling.proofs.Shallow.{Shallow, shallow}
use Rattle.foremost.specs.Order.{TiedOf}
use Rattle.foremost.proofs.Earlier.{cross-trans}
use Rattle.foremost.proofs.Filling.{parts, filling}
use Rattle.foremost.proofs.First.{tied-box}
use Rattle.foremost.proofs.Losses.{LosesMore}
use Rattle.foremost.proofs.Worth.{filling-worth}
use Rattle.setting.specs.declared.Setting.{Setting}
use Rattle.setting.specs.Ready.{Marked}
use Rattle.firsts.specs.declared.Optimum.{Optimum}
use Rattle.firsts.specs.Leading.{Tying, ends_at, OptimalAt, IsWorth, Fair, IsLosing, LossOf}
use Rattle.firsts.proofs.Places.{some-marks, place-sized, place-room, place-leads, place-feasible}

-- ---- the filling at an optimal place

module _ (s : Setting) (c : Columns) (y : Tying s c) (P : ℕ → ℤ) (b : OptimalAt s P) where
  abbrev f : Ends
  f = ends_at s P

  best : (marks : ℕ → Mark) → Marked s marks → Optimalᴰ (box_of c s.ends marks) b.divisor b.point
  best marks m = subst (λ i. Optimalᴰ i b.divisor b.point) (sym (tied-box s.cols c s.ends marks y.tied)) (b.optimal marks m)

  pub worth-room : pos 0 ≤ℤ (fill c f).room
  worth-room = let m = some-marks s in
      place-room s c y P b.inside m.0 m.1 b.divisor b.point b.some (best m.0 m.1).feasible b.at_place

  pub worth-made : IsWorth s c (bound c (fill c f))
  worth-made = record {
    proper = bound-proper c (fill c f) (fill-sized c f (place-sized s c y P b.inside));
    point = filling c f;
    value-is = filling-worth c f (some-marks s).0 y.tied.tied y.tied.rated worth-room;
    optimal = λ marks m. record {
      feasible = place-feasible s c y P b.inside marks m worth-room;
      highest = λ A M a q. cross-trans (valueᴰ (box_of c s.ends marks) M) (valueᴰ (box_of c s.ends marks) b.point)
          (valueᴰ (box_of c s.ends marks) (filling c f)) A b.divisor (parts c f) b.some ((best marks m).highest A M a q)
          (place-leads s c y P b.inside marks m b.divisor b.point b.some (best marks m).feasible b.at_place).worth;
    };
  }

-- ---- losses

-- the order of filling plays no part in them
tied-loss : (c r : Columns) (e : Ends) (p q E : ℕ) (N : ℕ → ℤ) → TiedOf c r → loss_of p q r e E N ≡ loss_of p q c e E N
unfolding loss_of top_of
tied-loss c r e p q E N t = go r.weight r.price r.count r.capacity t.weight t.price t.count t.capacity
  where
    loss_by : List ℤ → List ℤ → ℕ → ℤ → ℤ
    loss_by w v n b = (pos p *ℤ b +ℤ sum n (λ k. score_by p q (at w k) (at v k) *ℤ good_end (score_by p q (at w k) (at v k)) (at e.lo k)
        (at e.hi k))) *ℤ pos E
        -ℤ pos q *ℤ sum n (λ k. at v k *ℤ N k)

    go : (w v : List ℤ) (n : ℕ) (b : ℤ) → w ≡ c.weight → v ≡ c.price → n ≡ c.count → b ≡ c.capacity
        → loss_by w v n b ≡ loss_by c.weight c.price c.count c.capacity
    go w v n b hw hv hn hb = cc

sum≥0 : (n : ℕ) (f : ℕ → ℤ) → ((k : ℕ) → k < n → pos 0 ≤ℤ f k) → pos 0 ≤ℤ sum n f
sum≥0 zero f h = ≤ℤ_refl (pos 0)
sum≥0 (suc n) f h = +ℤ-mono {x = pos 0} (sum≥0 n f (λ k l. h k (omega arith))) (h n (omega arith))

loss≥0 : (p q : ℕ) (c : Columns) (e : Ends) (marks : ℕ → Mark) (E : ℕ) (N : ℕ → ℤ) → Feasibleᴰ (box_of c e marks) E N → pos 0 ≤ℤ loss_of p q c e E N
loss≥0 p q c e marks E N x = rw (loss-is p q c e E N) (+ℤ-mono {x = pos 0}
    (sum≥0 c.count (term p q c e E N) (λ k l. terms≥0 p q c e E N (λ j m. (x.keeps j m).above) (λ j m. (x.keeps j m).below) x.fits k l))
    (slack≥0 p q c e E N (λ j m. (x.keeps j m).above) (λ j m. (x.keeps j m).below) x.fits))

module _ (s : Setting) (c : Columns) (y : Tying s c) (v : Mixed) (b : IsWorth s c v) where
  abbrev marks : ℕ → Mark
  marks = (some-marks s).0

  marked : Marked s marks
  marked = (some-marks s).1

  parts≥1 : 1 ≤ v.parts
  parts≥1 = omega (arith, b.proper.low)

  feasible : Feasibleᴰ (box_of c s.ends marks) v.parts b.point
  feasible = (b.optimal marks marked).feasible

  box-room : pos 0 ≤ℤ (fill s.cols s.ends).room
  box-room = go (≤ℤ-or-< (pos 0) (fill s.cols s.ends).room)
    where
      go : (pos 0 ≤ℤ (fill s.cols s.ends).room) ⊎ ((fill s.cols s.ends).room <ℤ pos 0) → pos 0 ≤ℤ (fill s.cols s.ends).room
      go (inl h) = h
      go (inr h) = absurd (fill-empty s.cols s.ends marks y.ready.ordered y.ready.in_order h v.parts b.point parts≥1
          (subst (λ i. Feasibleᴰ i v.parts b.point) (tied-box s.cols c s.ends marks y.tied) feasible))

  module _ (r : Price) (pr : Priced s.cols s.ends r) (top : ℤ) (top-is : top ≡ top_of r.p r.q c s.ends) where
    abbrev p : ℕ
    p = r.p

    abbrev q : ℕ
    q = r.q

    loss-of : (E : ℕ) (N : ℕ → ℤ) → loss_of p q c s.ends E N ≡ top *ℤ pos E -ℤ pos q *ℤ value_of c N
    unfolding loss_of
    loss-of E N = ap (λ t. t *ℤ pos E -ℤ pos q *ℤ value_of c N) (sym top-is)

    little : Shallow p q s.cols s.ends
    little = shallow s.cols s.ends y.ready.ordered y.ready.in_order box-room p q pr.p-is pr.q-is pr.p-in pr.q-in pr.q≥1

    pub fair : Fair top q v
    fair = record {
      above = subst (λ z. pos 0 ≤ℤ (top *ℤ pos v.parts -ℤ pos q *ℤ z)) b.value-is
          (subst (λ z. pos 0 ≤ℤ z) (loss-of v.parts b.point) (loss≥0 p q c s.ends marks v.parts b.point feasible));
      below = less v.parts q top (value_of c little.point) (over v) parts≥1
          (subst (λ z. z <ℤ pos 10000000) (sym (tied-loss s.cols c s.ends p q 1 little.point y.tied) ∙ loss-of 1 little.point)
          little.little)
          (subst (λ z. (value_of c little.point *ℤ pos v.parts) ≤ℤ (z *ℤ pos 1)) b.value-is
          ((b.optimal marks marked).highest 1 little.point (omega arith)
          (subst (λ i. Feasibleᴰ i 1 little.point) (sym (tied-box s.cols c s.ends marks y.tied)) (little.feasible marks))));
    }
      where
        less : (m q : ℕ) (t x z : ℤ) → 1 ≤ m → (t *ℤ pos 1 -ℤ pos q *ℤ x) <ℤ pos 10000000 → (x *ℤ pos m) ≤ℤ (z *ℤ pos 1)
            → (t *ℤ pos m -ℤ pos q *ℤ z) <ℤ pos (10000000 * m)
        less m q = split3 _ (λ a b c e f g. simp zed (λ h i j. omega (arith, mul-le-mul_right m i, mul-le-mul_left q j)))

-- ---- numbers

pub record Fits (top : ℤ) (q : ℕ) (v : Mixed) : Type 0 where
  pub whole : ℕ
  pub whole_is : pos whole ≡ top -ℤ pos q *ℤ v.whole
  pub small : whole ≤ 10001000
  pub product : Within 100000000010001000 (pos q *ℤ v.whole)
  pub part : q * v.part ≤ whole * v.parts
  pub num-is : pos (whole * v.parts - q * v.part) ≡ top *ℤ pos v.parts -ℤ pos q *ℤ over v
  pub num-in : whole * v.parts - q * v.part < 10000000 * v.parts

pub fits-made : (top : ℤ) (q : ℕ) (v : Mixed) → q ≤ 1000 → Within 100000000000000000 top → Proper v → Fair top q v → Fits top q v
fits-made top q v q-in t pv f = go (top -ℤ pos q *ℤ v.whole) refl
  where
    m : ℕ
    m = v.parts

    i : ℕ
    i = v.part

    apart : (t w : ℤ) (q m i : ℕ) → t *ℤ pos m -ℤ pos q *ℤ (w *ℤ pos m +ℤ pos i) ≡ (t -ℤ pos q *ℤ w) *ℤ pos m -ℤ pos (q * i)
    apart t w q m i = ring t w
      where
        ring : (t w : ℤ) → t *ℤ pos m -ℤ pos q *ℤ (w *ℤ pos m +ℤ pos i) ≡ (t -ℤ pos q *ℤ w) *ℤ pos m -ℤ pos (q * i)
        ring = split2 _ (λ a b c e. simp zed (omega arith))

    back : (t x : ℤ) (n : ℕ) → t -ℤ x ≡ pos n → x ≡ t -ℤ pos n
    back = split2 _ (λ a b c e n. simp zed (omega arith))

    near : (t : ℤ) (n : ℕ) → nat_abs t ≤ 100000000000000000 → n ≤ 10001000 → nat_abs (t -ℤ pos n) ≤ 100000000010001000
    near t n h k = within-abs (t -ℤ pos n) (within-sub (abs-within t h) (abs-within (pos n) k))

    go : (z : ℤ) → top -ℤ pos q *ℤ v.whole ≡ z → Fits top q v
    go (negsuc n) e = absurd (off n m (q * i) (omega (arith, pv.low)) (subst (λ x. pos 0 ≤ℤ x)
        (apart top v.whole q m i ∙ ap (λ x. x *ℤ pos m -ℤ pos (q * i)) e) f.above))
      where
        off : (n m j : ℕ) → 1 ≤ m → pos 0 ≤ℤ (negsuc n *ℤ pos m -ℤ pos j) → ⊥
        off n m j h = simp zed (λ k. omega (arith, mul-le-mul_left (suc n) h))
    go (pos n) e = record {
      whole = n;
      whole_is = sym e;
      small = small;
      product = subst (λ x. Within 100000000010001000 x) (sym (back top (pos q *ℤ v.whole) n e))
          (abs-within (top -ℤ pos n) (near top n (within-abs top t) small));
      part = part;
      num-is = num;
      num-in = under;
    }
      where
        loss : top *ℤ pos m -ℤ pos q *ℤ over v ≡ pos n *ℤ pos m -ℤ pos (q * i)
        loss = apart top v.whole q m i ∙ ap (λ x. x *ℤ pos m -ℤ pos (q * i)) e

        part : q * i ≤ n * m
        part = off n m (q * i) (subst (λ x. pos 0 ≤ℤ x) loss f.above)
          where
            off : (n m j : ℕ) → pos 0 ≤ℤ (pos n *ℤ pos m -ℤ pos j) → j ≤ n * m
            off n m j = simp zed (omega arith)

        num : pos (n * m - q * i) ≡ top *ℤ pos m -ℤ pos q *ℤ over v
        num = diff n m (q * i) (n * m - q * i) (omega (arith, part)) ∙ sym loss
          where
            diff : (n m j d : ℕ) → d + j ≡ n * m → pos d ≡ pos n *ℤ pos m -ℤ pos j
            diff n m j d h = simp zed (omega arith)

        under : n * m - q * i < 10000000 * m
        under = off (n * m - q * i) (10000000 * m) (subst (λ x. x <ℤ pos (10000000 * m)) (sym num) f.below)
          where
            off : (a b : ℕ) → pos a <ℤ pos b → a < b
            off a b = simp zed (omega arith)

        small : n ≤ 10001000
        small = le_of_mul-le-mul_right {k = m} (bound (n * m) (q * i) m part under (mul-le-mul q-in (omega (arith, pv.low)))) (omega (arith, pv.low))
          where
            bound : (a j m : ℕ) → j ≤ a → a - j < 10000000 * m → j ≤ 1000 * m → a ≤ 10001000 * m
            bound a j m h k l = omega arith

-- ---- the least loss

pub losing-made : (s : Setting) (c : Columns) (y : Tying s c) (v : Mixed) → IsWorth s c v → (l : Optimum)
    → Priced s.cols s.ends (record { p = l.p; q = l.q }) → l.top ≡ top_of l.p l.q c s.ends → Within 100000000000000000 l.top
    → LossOf v l → l.num < 10000000 * l.den → IsLosing s c l
losing-made s c y v b l priced top-is top_in lv small = record {
  priced = priced;
  top-is = top-is;
  top_in = top_in;
  den≥1 = omega (arith, lv.den-is, b.proper.low);
  den-in = omega (arith, lv.den-is, b.proper.few);
  small = small;
  all = λ marks m E X e x. subst (λ d. LosesMore l.top l.q (valueᴰ (box_of c s.ends marks)) l.num d E X) (sym lv.den-is)
      (more v.parts E l.q l.num l.top (valueᴰ (box_of c s.ends marks) X) (valueᴰ (box_of c s.ends marks) b.point)
      (lv.num-is ∙ ap (λ z. l.top *ℤ pos v.parts -ℤ pos l.q *ℤ z) (sym b.value-is)) ((b.optimal marks m).highest E X e x));
}
  where
    more : (m E q n : ℕ) (t x z : ℤ) → pos n ≡ t *ℤ pos m -ℤ pos q *ℤ z → (x *ℤ pos m) ≤ℤ (z *ℤ pos E)
        → (pos n *ℤ pos E) ≤ℤ (pos m *ℤ (t *ℤ pos E -ℤ pos q *ℤ x))
    more m E q n = split3 _ (λ a b c e f g. simp zed (λ h k. omega (arith, ap (λ (i : ℕ). i * E) h, mul-le-mul_left q k)))
