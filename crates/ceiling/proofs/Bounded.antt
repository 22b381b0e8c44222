-- What the pieces say of the points of a box: each is a way to fill the room, and costs what it loses. So a least cost bounds losses.
-- way-within, way_fills, way-costs, way-makes: the way of a point. bounds-loss: the bound.
use mathlib.Core.Path.{◌≡◌, refl, sym, ap, ap₂, ◌∙◌, subst, subst₂}
use Prim.Native.Nat.{ℕ, zero, suc, ◌+◌, ◌*◌, ◌-◌, ◌≤◌, ◌<◌}
use native.Mathlib.Omega.{arith}
use native.Mathlib.Decide.{ℕ_discrete, dec_lt}
use lib.Dec.{eqb}
use lib.IntN.{ℤ, pos, nat_abs, ◌+ℤ◌, ◌-ℤ◌, ◌*ℤ◌}
use lib.ListN.{length}
use lib.Signed.{◌≤ℤ◌}
use borrow.Author.Tests.{eq-eqb, ne_eqb}
use Rattle.arith.specs.Sum.{sum, pick}
use Rattle.arith.proofs.Integers.{split, split2, split3, zed, times-≤-back}
use Rattle.arith.proofs.Sums.{sum-cong, sum-diff, sum-times, sum-scale, pick_ind}
use Rattle.greedy.specs.declared.Columns.{Columns}
use Rattle.greedy.specs.declared.Ends.{Ends}
use Rattle.greedy.specs.Fill.{at, weight_of}
use Rattle.scales.specs.Filling as filling
use Rattle.ceiling.specs.Loss.{score_of, weigh_of, loss_of, Point}
use Rattle.fillings.specs.declared.Parts.{Parts}
use Rattle.fillings.specs.Ranges.{num, items_in}
use Rattle.ceiling.specs.Pieces.{size_of, span_of, taken_of, left_of, foot_of, room_by, amount_by, amount_of, Pieces}
use Rattle.ceiling.proofs.Loss.{term, loss-is}
use Rattle.ceiling.proofs.Pieces.{Apart, Counted, apart, count-whole, count_cut}

-- ---- sums of natural numbers

pub pos_sum : (n : ℕ) (f : ℕ → ℕ) → pos (filling.sum n f) ≡ sum n (λ k. pos (f k))
pos_sum zero f = refl
pos_sum (suc n) f = rw (← pos_sum n f) (add (filling.sum n f) (f n))
  where
    add : (m n : ℕ) → pos (m + n) ≡ pos m +ℤ pos n
    add m n = simp zed (omega arith)

-- the places from n on hold nothing
pub sum-tail : (m n : ℕ) (f : ℕ → ℕ) → n ≤ m → ((k : ℕ) → n ≤ k → k < m → f k ≡ 0) → filling.sum m f ≡ filling.sum n f
sum-tail zero n f l h = rw (zero_is n l)
  where
    zero_is : (n : ℕ) → n ≤ 0 → n ≡ 0
    zero_is n h = omega arith
sum-tail (suc m) n f l h = go (ℕ_discrete n (suc m)) (λ o. sum-tail m n f o (λ k i j. h k i (omega arith)))
  where
    go : Dec (n ≡ suc m) → (n ≤ m → filling.sum m f ≡ filling.sum n f) → filling.sum m f + f m ≡ filling.sum n f
    go (yes e) ih = rw e
    go (no e) ih = omega (arith, ih (omega arith), h m (omega arith) (omega arith))

pub sum-last : (n m : ℕ) (f : ℕ → ℕ) → n ≡ suc m → filling.sum n f ≡ filling.sum m f + f m
sum-last n m f e = rw e

pub cong-sum : (m : ℕ) (f g : ℕ → ℕ) → ((k : ℕ) → k < m → f k ≡ g k) → filling.sum m f ≡ filling.sum m g
cong-sum zero f g h = refl
cong-sum (suc m) f g h = ap₂ ◌+◌ (cong-sum m f g (λ k l. h k (omega arith))) (h m (omega arith))

-- ---- the pieces of a point

-- y pieces of item k make its amount x
record IsCount (p q : ℕ) (c : Columns) (e : Ends) (E cut : ℕ) (N : ℕ → ℤ) (k y : ℕ) : Type 0 where
  pub inside : y ≤ span_of e E cut k
  pub weigh : pos (size_of c cut k * y) *ℤ pos E ≡ weight_of c k *ℤ N k -ℤ (weight_of c k *ℤ foot_of c e k) *ℤ pos E
  pub costs : pos (taken_of p q c E cut k * y + left_of p q c E cut k * (span_of e E cut k - y)) ≡ term p q c e E N k
  pub makes : N k ≡ amount_by (eqb k cut) E (weight_of c k) (at e.lo k) (at e.hi k) y

is-count : (p q : ℕ) (c : Columns) (e : Ends) (E cut : ℕ) (N : ℕ → ℤ) (k : ℕ)
    (t : Counted (eqb k cut) E (weight_of c k) (score_of p q c k) (at e.lo k) (at e.hi k) (N k)) → IsCount p q c e E cut N k t.units
is-count p q c e E cut N k t = record { inside = t.inside; weigh = t.weigh; costs = t.costs; makes = t.makes }

module _ (p q : ℕ) (c : Columns) (e : Ends) (E cut : ℕ) (few : c.count ≤ 16) (E≥1 : 1 ≤ E) (cut-size : cut < c.count → nat_abs (weight_of c cut) ≡ E)
    (N : ℕ → ℤ) (pt : Point c e E cut N) where
  abbrev n : ℕ
  n = c.count

  counted : (k : ℕ) → k < n → Counted (eqb k cut) E (weight_of c k) (score_of p q c k) (at e.lo k) (at e.hi k) (N k)
  counted k l = go (ℕ_discrete k cut)
    where
      a : Apart E (weight_of c k) (score_of p q c k) (at e.lo k) (at e.hi k) (N k)
      a = apart E (at e.lo k) (at e.hi k) (N k) (pt.above k l) (pt.below k l) E≥1 (weight_of c k) (score_of p q c k)

      go : Dec (k ≡ cut) → Counted (eqb k cut) E (weight_of c k) (score_of p q c k) (at e.lo k) (at e.hi k) (N k)
      go (yes h) = rw (eq-eqb k cut h) (count_cut E (weight_of c k) (score_of p q c k) (at e.lo k) (at e.hi k) (N k)
          (ap (λ i. nat_abs (weight_of c i)) h ∙ cut-size (omega arith)) a)
      go (no h) = rw (ne_eqb k cut h) (let w = pt.whole k l h in
          count-whole E (weight_of c k) (score_of p q c k) (at e.lo k) (at e.hi k) (N k) E≥1 w.0 w.1 a)

  units_by : (k : ℕ) → Dec (k < n) → ℕ
  units_by k (yes l) = (counted k l).units
  units_by k (no l) = 0

  units : ℕ → ℕ
  units k = units_by k (dec_lt k n)

  units-item : (k : ℕ) → k < n → IsCount p q c e E cut N k (units k)
  unfolding units units_by
  units-item k l = go (dec_lt k n)
    where
      go : (d : Dec (k < n)) → IsCount p q c e E cut N k (units_by k d)
      go (yes m) = is-count p q c e E cut N k (counted k m)
      go (no m) = absurd (m l)

  units-none : (k : ℕ) → n ≤ k → units k ≡ 0
  unfolding units units_by
  units-none k l = go (dec_lt k n)
    where
      go : (d : Dec (k < n)) → units_by k d ≡ 0
      go (yes m) = absurd (omega arith)
      go (no m) = refl

  -- what the pieces of the items weigh
  loaded : ℕ
  loaded = filling.sum n (λ k. size_of c cut k * units k)

  loaded-is : pos loaded *ℤ pos E ≡ weigh_of c N -ℤ sum n (λ k. weight_of c k *ℤ foot_of c e k) *ℤ pos E
  unfolding loaded
  loaded-is = ap (λ z. z *ℤ pos E) (pos_sum n (λ k. size_of c cut k * units k))
      ∙ swap (sum n (λ k. pos (size_of c cut k * units k)))
      ∙ sym (sum-scale n (pos E) (λ k. pos (size_of c cut k * units k)))
      ∙ sum-cong n (λ k. pos E *ℤ pos (size_of c cut k * units k)) (λ k. weight_of c k *ℤ (N k -ℤ foot_of c e k *ℤ pos E))
      (λ k l. sym (swap (pos (size_of c cut k * units k))) ∙ (units-item k l).weigh ∙ out (weight_of c k) (N k) (foot_of c e k))
      ∙ sum-diff n (weight_of c) N (λ k. foot_of c e k *ℤ pos E)
      ∙ ap (λ z. weigh_of c N -ℤ z) (sum-times n (weight_of c) (foot_of c e) E)
    where
      swap : (x : ℤ) → x *ℤ pos E ≡ pos E *ℤ x
      swap = split _ (λ a b. simp zed (omega arith))

      out : (a x f : ℤ) → a *ℤ x -ℤ (a *ℤ f) *ℤ pos E ≡ a *ℤ (x -ℤ f *ℤ pos E)
      out = split3 _ (λ a b c e f g. simp zed (omega arith))

  module _ (room : ℕ) (room-is : pos room ≡ room_by c e) where
    fits-room : loaded ≤ room
    fits-room = close E E≥1 (weigh_of c N) (sum n (λ k. weight_of c k *ℤ foot_of c e k)) c.capacity loaded room loaded-is room-is pt.fits
      where
        cancel : (m n E : ℕ) → 1 ≤ E → (pos m *ℤ pos E) ≤ℤ (pos n *ℤ pos E) → m ≤ n
        cancel m n E h k = back (times-≤-back E (pos m) (pos n) h k)
          where
            back : pos m ≤ℤ pos n → m ≤ n
            back = simp zed (omega arith)

        close : (E : ℕ) → 1 ≤ E → (W F B : ℤ) (m n : ℕ) → pos m *ℤ pos E ≡ W -ℤ F *ℤ pos E → pos n ≡ B -ℤ F → W ≤ℤ (B *ℤ pos E) → m ≤ n
        close E h W F B m n i j k = cancel m n E h (subst₂ ◌≤ℤ◌ (sym i) (ap (λ z. z *ℤ pos E) (sym j)) (final W F B k))
          where
            final : (W F B : ℤ) → W ≤ℤ (B *ℤ pos E) → (W -ℤ F *ℤ pos E) ≤ℤ ((B -ℤ F) *ℤ pos E)
            final = split3 _ (λ a b c e f g. simp zed (omega arith))

    slack : ℕ
    slack = room - loaded

    -- what is left of the capacity
    slack-is : pos slack *ℤ pos E ≡ c.capacity *ℤ pos E -ℤ weigh_of c N
    unfolding slack
    slack-is = close (weigh_of c N) (sum n (λ k. weight_of c k *ℤ foot_of c e k)) c.capacity loaded room (room - loaded) loaded-is room-is
        (omega (arith, fits-room))
      where
        close : (W F B : ℤ) (m n s : ℕ) → pos m *ℤ pos E ≡ W -ℤ F *ℤ pos E → pos n ≡ B -ℤ F → m + s ≡ n → pos s *ℤ pos E ≡ B *ℤ pos E -ℤ W
        close W F B m n s i j k = fin (pos m *ℤ pos E) W (F *ℤ pos E) (B *ℤ pos E) (pos s *ℤ pos E) i (ring (pos m) (pos s) (pos n) B F (plus m s n k) j)
          where
            plus : (m s n : ℕ) → m + s ≡ n → pos m +ℤ pos s ≡ pos n
            plus m s n h = simp zed (omega arith)

            dist : (m s : ℤ) → m *ℤ pos E +ℤ s *ℤ pos E ≡ (m +ℤ s) *ℤ pos E
            dist = split2 _ (λ a b c e. simp zed (omega arith))

            dist' : (B F : ℤ) → (B -ℤ F) *ℤ pos E ≡ B *ℤ pos E -ℤ F *ℤ pos E
            dist' = split2 _ (λ a b c e. simp zed (omega arith))

            ring : (m s n B F : ℤ) → m +ℤ s ≡ n → n ≡ B -ℤ F → m *ℤ pos E +ℤ s *ℤ pos E ≡ B *ℤ pos E -ℤ F *ℤ pos E
            ring m s n B F h i = dist m s ∙ ap (λ z. z *ℤ pos E) (h ∙ i) ∙ dist' B F

            fin : (M W F B s : ℤ) → M ≡ W -ℤ F → M +ℤ s ≡ B -ℤ F → s ≡ B -ℤ W
            fin M W F B s h i = add (W -ℤ F) s (B -ℤ F) (sym (ap (λ z. z +ℤ s) h) ∙ i) ∙ last W F B
              where
                add : (x s y : ℤ) → x +ℤ s ≡ y → s ≡ y -ℤ x
                add = split3 _ (λ a b c e f g. simp zed (omega arith))

                last : (W F B : ℤ) → (B -ℤ F) -ℤ (W -ℤ F) ≡ B -ℤ W
                last = split3 _ (λ a b c e f g. simp zed (omega arith))

    slack-small : slack ≤ room
    unfolding slack
    slack-small = omega arith

    -- the way to fill the room
    pub way : ℕ → ℕ
    way k = pick (ℕ_discrete k 16) slack (units k)

    way-item : (k : ℕ) → k < 16 → way k ≡ units k
    unfolding way
    way-item k l = pick_ind (λ z. z ≡ units k) (ℕ_discrete k 16) slack (units k) (λ h. absurd (omega arith)) (λ h. refl)

    way-slack : way 16 ≡ slack
    unfolding way
    way-slack = pick_ind (λ z. z ≡ slack) (ℕ_discrete 16 16) slack (units 16) (λ h. refl) (λ h. absurd (h refl))

    module _ (ps : Parts) (b : Pieces p q c e E cut room n ps) where
      abbrev I : filling.Items
      I = items_in ps

      -- a sum over all places: over the items, and the slack
      over-all : (f : ℕ → ℕ) → ((k : ℕ) → n ≤ k → k < 16 → f k ≡ 0) → filling.sum (length ps.weight) f ≡ filling.sum n f + f 16
      over-all f h = sum-last (length ps.weight) 16 f b.weights.long ∙ ap (λ m. m + f 16) (sum-tail 16 n f few h)

      pub way-within : filling.Within I way
      way-within j l = go (ℕ_discrete j 16) (dec_lt j n)
        where
          j-in : j < 17
          j-in = omega (arith, b.weights.long)

          go : Dec (j ≡ 16) → Dec (j < n) → way j ≤ num ps.range j
          go (yes h) d = rw h (omega (arith, way-slack, b.ranges.last, slack-small))
          go (no h) (yes m) = omega (arith, way-item j (omega arith), b.ranges.items j m, (units-item j m).inside)
          go (no h) (no m) = omega (arith, way-item j (omega arith), units-none j (omega arith))

      pub way_fills : filling.load I way ≡ room
      unfolding loaded slack
      way_fills = over-all (λ j. num ps.weight j * way j) (λ k l m. rw (b.weights.none k l m) (omega arith))
          ∙ ap₂ ◌+◌ (cong-sum n (λ j. num ps.weight j * way j) (λ k. size_of c cut k * units k)
          (λ k l. ap₂ ◌*◌ (b.weights.items k l) (way-item k (omega arith)))) (ap₂ ◌*◌ b.weights.last way-slack)
          ∙ omega (arith, fits-room)

      abbrev spent : ℕ → ℕ
      spent k = taken_of p q c E cut k * units k + left_of p q c E cut k * (span_of e E cut k - units k)

      cost-is : filling.cost I way ≡ filling.sum n spent + (E * p) * slack
      cost-is = over-all (λ j. num ps.taken j * way j + num ps.left j * (num ps.range j - way j))
          (λ k l m. rw (b.takens.none k l m, b.lefts.none k l m) (omega arith))
          ∙ ap₂ ◌+◌ (cong-sum n (λ j. num ps.taken j * way j + num ps.left j * (num ps.range j - way j)) spent
          (λ k l. rw (b.takens.items k l, b.lefts.items k l, b.ranges.items k l, way-item k (omega arith))))
          (rw (b.takens.last, b.lefts.last, way-slack) (omega arith))

      -- it costs just what the point loses
      pub way-costs : pos (filling.cost I way) ≡ loss_of p q c e E N
      way-costs = ap pos cost-is ∙ plus (filling.sum n spent) ((E * p) * slack)
          ∙ ap₂ ◌+ℤ◌ (pos_sum n spent ∙ sum-cong n (λ k. pos (spent k)) (term p q c e E N) (λ k l. (units-item k l).costs))
          (priced E p slack ∙ ap (λ z. pos p *ℤ z) slack-is)
          ∙ sym (loss-is p q c e E N)
        where
          plus : (m n : ℕ) → pos (m + n) ≡ pos m +ℤ pos n
          plus m n = simp zed (omega arith)

          priced : (E p s : ℕ) → pos ((E * p) * s) ≡ pos p *ℤ (pos s *ℤ pos E)
          priced E p s = simp zed (omega arith)

      -- and makes the point
      pub way-makes : (k : ℕ) → k < n → N k ≡ amount_of c e E cut way k
      way-makes k l = (units-item k l).makes ∙ ap (amount_by (eqb k cut) E (weight_of c k) (at e.lo k) (at e.hi k)) (sym (way-item k (omega arith)))

      -- so what bounds the ways to fill the room bounds the losses
      pub bounds-loss : (r : ℕ) → filling.Bounds I room r → pos r ≤ℤ loss_of p q c e E N
      bounds-loss r h = subst (λ z. pos r ≤ℤ z) way-costs (le r (filling.cost I way) (h way way-within way_fills))
        where
          le : (m n : ℕ) → m ≤ n → pos m ≤ℤ pos n
          le m n h = simp zed (omega arith)
