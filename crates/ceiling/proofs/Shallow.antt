-- At the critical item's price some point loses little: the relaxation with the critical item rounded towards its light end. What it loses is the price
-- of the slack, which weighs less than a unit of that item.
--   Shallow p q c e    a point of whole amounts that is feasible whatever the marks, and loses less than 10,000,000
-- top-most: no end promises more than the relaxation. shallow: the point. too-deep: so 10,000,000 is not the least loss.
use mathlib.Core.Path.{◌≡◌, refl, sym, ap, ap₂, ◌∙◌, subst, subst₂}
use mathlib.Core.Bool.{Bool, true, false, cond}
use mathlib.Core.List.{List}
use mathlib.Core.Logic.{◌≢◌, ◌⊎◌, inl, inr}
use Prim.Native.Nat.{ℕ, zero, suc, ◌+◌, ◌*◌, ◌/◌, ◌%◌, ◌≤◌, ◌<◌}
use native.Mathlib.Omega.{arith}
use native.Mathlib.Nat.{mul-le-mul, mul-le-mul_left, div-add-mod', mod-lt}
use native.Mathlib.Decide.{ℕ_discrete, dec_lt}
use lib.Dec.{ltb}
use lib.IntN.{ℤ, pos, negsuc, neg_ℤ, nat_abs, ◌+ℤ◌, ◌-ℤ◌, ◌*ℤ◌}
use lib.Signed.{◌≤ℤ◌, ◌<ℤ◌, ≤ℤ_refl, lt_z}
use borrow.Author.Tests.{lt-ltb, le-ltb}
use Rattle.arith.specs.Sum.{sum, bump}
use Rattle.arith.specs.Signs.{times_sign}
use Rattle.arith.proofs.Integers.{split, split2, split3, split4, zed, ≤ℤ-or-<, ≤ℤ-antisym}
use Rattle.arith.proofs.Sums.{sum-cong, sum_bump, bump-same, bump-other}
use Rattle.arith.proofs.Words.{lt_yes, le-no}
use Rattle.knapsack.specs.declared.Mark.{Mark}
use Rattle.knapsack.specs.declared.Mark.TheVariants.{Integer, Continuous}
use Rattle.knapsack.proofs.Common.{KeepsMarkᴰ, Keepsᴰ, weighsᴰ, Feasibleᴰ}
use Rattle.knapsack.proofs.Dual.{score, sum-score}
use Rattle.greedy.specs.declared.Columns.{Columns}
use Rattle.greedy.specs.declared.Ends.{Ends}
use Rattle.greedy.specs.declared.Fill.{Fill}
use Rattle.greedy.specs.Fill.{at, weight_of, price_of, item_of, rank_of, lightest, heaviest, width, fill, unit, stand}
use Rattle.greedy.specs.Ordered.{Idle, Ordered}
use Rattle.greedy.proofs.Relaxed.{box_of, InOrder, Good, Stopped, fill-stopped, fill-slope}
use Rattle.ceiling.specs.Loss.{score_by, score_of, good_end, good_of, value_of, weigh_of, top_of, loss_of}
use Rattle.ceiling.specs.Frames.{Loses, Ceiling}

pub record Shallow (p q : ℕ) (c : Columns) (e : Ends) : Type 0 where
  pub point : ℕ → ℤ
  pub feasible : (marks : ℕ → Mark) → Feasibleᴰ (box_of c e marks) 1 point
  pub little : loss_of p q c e 1 point <ℤ pos 10000000

-- the deepest loss is not the least
pub too-deep : (p q : ℕ) (c : Columns) (e : Ends) (w : List Bool) → Shallow p q c e → (n d : ℕ) → n ≡ 10000000 → d ≡ 1 → Ceiling p q c e w n d → ⊥
unfolding Loses
too-deep p q c e w s n d i j h = clash (loss_of p q c e 1 s.point) s.little
    (subst₂ (λ x y. (pos x *ℤ pos 1) ≤ℤ (pos y *ℤ loss_of p q c e 1 s.point)) i j
    (h.all (λ k. Integer) (λ k l m. refl) 1 s.point (omega arith) (s.feasible (λ k. Integer))))
  where
    clash : (x : ℤ) → x <ℤ pos 10000000 → (pos 10000000 *ℤ pos 1) ≤ℤ (pos 1 *ℤ x) → ⊥
    clash = split _ (λ a b. simp zed (omega arith))

-- ---- the top, by the point of all good ends

good-in : (r l u : ℤ) → l ≤ℤ u → (l ≤ℤ good_end r l u) × (good_end r l u ≤ℤ u)
good-in r l u o = go (lt_z (pos 0) r)
  where
    go : (b : Bool) → (l ≤ℤ cond b u l) × (cond b u l ≤ℤ u)
    go true = (o, ≤ℤ_refl u)
    go false = (≤ℤ_refl l, o)

module _ (p q : ℕ) (c : Columns) (e : Ends) where
  G : ℕ → ℤ
  G k = good_of p q c e k

  top-is : top_of p q c e ≡ pos q *ℤ value_of c G +ℤ pos p *ℤ (c.capacity -ℤ weigh_of c G)
  unfolding top_of G score
  top-is = ap (λ z. pos p *ℤ c.capacity +ℤ z) (sum-score c.count p q (weight_of c) (price_of c) G) ∙ ring c.capacity (value_of c G) (weigh_of c G)
    where
      ring : (b v w : ℤ) → pos p *ℤ b +ℤ (pos q *ℤ v -ℤ pos p *ℤ w) ≡ pos q *ℤ v +ℤ pos p *ℤ (b -ℤ w)
      ring = split3 _ (λ a b c e f g. simp zed (omega arith))

  keeps-whole : (marks : ℕ → Mark) (N : ℕ → ℤ) → ((k : ℕ) → k < c.count → (at e.lo k ≤ℤ N k) × (N k ≤ℤ at e.hi k)) → (k : ℕ) → k < c.count →
      Keepsᴰ 1 ((box_of c e marks).item k) (N k)
  keeps-whole marks N h k l = record {
    marked = mark (marks k);
    above = subst (λ x. x ≤ℤ N k) (sym (one (at e.lo k))) (h k l).0;
    below = subst (λ x. N k ≤ℤ x) (sym (one (at e.hi k))) (h k l).1;
  }
    where
      one : (x : ℤ) → x *ℤ pos 1 ≡ x
      one = split _ (λ a b. simp zed (omega arith))

      mark : (m : Mark) → KeepsMarkᴰ 1 m (N k)
      mark Integer = (N k, sym (one (N k)))
      mark Continuous = tt

-- ---- where all live ranks fit: at no price for weight everything stands at its good end

times-sign-up : (a c : ℤ) → pos 0 <ℤ a → times_sign a c ≡ c
times-sign-up (pos n) c h = refl
times-sign-up (negsuc n) c h = absurd (no h)
  where
    no : pos 0 <ℤ negsuc n → ⊥
    no = simp zed (omega arith)

times-sign-dn : (a c : ℤ) → a <ℤ pos 0 → times_sign a c ≡ neg_ℤ c
times-sign-dn (pos n) c h = absurd (no h)
  where
    no : pos n <ℤ pos 0 → ⊥
    no = simp zed (omega arith)
times-sign-dn (negsuc n) c h = refl

-- an item that is raised if it is worth its weight, and else is not, stands where its price wants it
best-end : (raised : Bool) (a c l u : ℤ) → (raised ≡ true → (a ≢ pos 0) × (pos 0 <ℤ times_sign a c)) → (raised ≡ false → Idle a c)
    → score_by 0 1 a c *ℤ good_end (score_by 0 1 a c) l u ≡ score_by 0 1 a c *ℤ cond raised (heaviest a l u) (lightest a c l u)
best-end raised a c l u up idle = subst (λ s. s *ℤ good_end s l u ≡ s *ℤ cond raised (heaviest a l u) (lightest a c l u)) (sym (plain a c)) (go raised up idle)
  where
    plain : (a c : ℤ) → score_by 0 1 a c ≡ c
    plain = split2 _ (λ x y v w. simp zed (omega arith))

    above : (a : ℤ) → pos 0 ≤ℤ a → a ≢ pos 0 → pos 0 <ℤ a
    above = split _ (λ x y. simp zed (omega arith))

    neg : (c : ℤ) → pos 0 <ℤ neg_ℤ c → c <ℤ pos 0
    neg = split _ (λ x y. simp zed (omega arith))

    weak : (c : ℤ) → c <ℤ pos 0 → c ≤ℤ pos 0
    weak = split _ (λ x y. simp zed (omega arith))

    none : (x y c : ℤ) → c ≡ pos 0 → c *ℤ x ≡ c *ℤ y
    none x y c h = rw h (zero-times x y)
      where
        zero-times : (x y : ℤ) → pos 0 *ℤ x ≡ pos 0 *ℤ y
        zero-times = split2 _ (λ a b c e. simp zed (omega arith))

    neg_low : (c : ℤ) → neg_ℤ c ≤ℤ pos 0 → pos 0 ≤ℤ c
    neg_low = split _ (λ x y. simp zed (omega arith))

    go : (b : Bool) → (b ≡ true → (a ≢ pos 0) × (pos 0 <ℤ times_sign a c)) → (b ≡ false → Idle a c) →
        c *ℤ good_end c l u ≡ c *ℤ cond b (heaviest a l u) (lightest a c l u)
    go true f g = heavy (≤ℤ-or-< (pos 0) a)
      where
        heavy : (pos 0 ≤ℤ a) ⊎ (a <ℤ pos 0) → c *ℤ good_end c l u ≡ c *ℤ heaviest a l u
        heavy (inl h) = let pa = above a h (f refl).0 in rw (le-no h, lt_yes (subst (λ z. pos 0 <ℤ z) (times-sign-up a c pa) (f refl).1))
        heavy (inr h) = rw (lt_yes h, le-no (weak c (neg c (subst (λ z. pos 0 <ℤ z) (times-sign-dn a c h) (f refl).1))))
    go false f g = light (g refl) (≤ℤ-or-< (pos 0) a) (≤ℤ-or-< a (pos 0))
      where
        light : Idle a c → (pos 0 ≤ℤ a) ⊎ (a <ℤ pos 0) → (a ≤ℤ pos 0) ⊎ (pos 0 <ℤ a) → c *ℤ good_end c l u ≡ c *ℤ lightest a c l u
        light i (inl h) (inl k) = rw (le-no h, le-no k)
        light (inl z) (inl h) (inr k) = absurd (off a z k)
          where
            off : (a : ℤ) → a ≡ pos 0 → pos 0 <ℤ a → ⊥
            off = split _ (λ x y. simp zed (omega arith))
        light (inr z) (inl h) (inr k) = rw (lt_yes k, le-no (subst (λ w. w ≤ℤ pos 0) (times-sign-up a c k) z))
        light (inl z) (inr h) k = absurd (off a z h)
          where
            off : (a : ℤ) → a ≡ pos 0 → a <ℤ pos 0 → ⊥
            off = split _ (λ x y. simp zed (omega arith))
        light (inr z) (inr h) k = rw (le-no (weak a h), lt_yes h) (last (≤ℤ-or-< c (pos 0)))
          where
            last : (c ≤ℤ pos 0) ⊎ (pos 0 <ℤ c) → c *ℤ good_end c l u ≡ c *ℤ u
            last (inr m) = rw (lt_yes m)
            last (inl m) = none (good_end c l u) u c (≤ℤ-antisym m (neg_low c (subst (λ w. w ≤ℤ pos 0) (times-sign-dn a c h) z)))

module _ (c : Columns) (e : Ends) (o : Ordered c) (b : InOrder c e) (room≥0 : pos 0 ≤ℤ (fill c e).room) where
  abbrev f : Fill
  f = fill c e

  abbrev t : ℕ
  t = f.at

  abbrev marks : ℕ → Mark
  marks k = Integer

  stopped : Stopped c e marks o b f
  stopped = fill-stopped c e marks o b room≥0

  good : Good c e marks o b f
  good = stopped.good

  S : ℕ → ℤ
  S = stand c e t

  stand-in : (k : ℕ) → k < c.count → (at e.lo k ≤ℤ S k) × (S k ≤ℤ at e.hi k)
  unfolding S
  stand-in k l = go (ltb (rank_of c k) t) (lt_z (weight_of c k) (pos 0)) (lt_z (pos 0) (weight_of c k)) (lt_z (pos 0) (price_of c k))
    where
      x : ℤ
      x = at e.lo k

      y : ℤ
      y = at e.hi k

      at_x : (x ≤ℤ x) × (x ≤ℤ y)
      at_x = (≤ℤ_refl x, b k l)

      at_y : (x ≤ℤ y) × (y ≤ℤ y)
      at_y = (b k l, ≤ℤ_refl y)

      go : (r s u v : Bool) → (x ≤ℤ cond r (cond s x y) (cond u x (cond s y (cond v y x)))) × (cond r (cond s x y) (cond u x (cond s y (cond v y x))) ≤ℤ y)
      go true true u v = at_x
      go true false u v = at_y
      go false s true v = at_x
      go false true false v = at_y
      go false false false true = at_y
      go false false false false = at_x

  -- all live ranks fit
  module _ (all : t ≡ c.live) where
    ends-best : (k : ℕ) → k < c.count → score_of 0 1 c k *ℤ good_of 0 1 c e k ≡ score_of 0 1 c k *ℤ S k
    unfolding S
    ends-best k l = best-end (ltb (rank_of c k) t) (weight_of c k) (price_of c k) (at e.lo k) (at e.hi k) (λ h. live (rank-of h)) (λ h. dead (rank-off h))
      where
        rank-of : ltb (rank_of c k) t ≡ true → rank_of c k < c.live
        rank-of h = go (dec_lt (rank_of c k) t)
          where
            go : Dec (rank_of c k < t) → rank_of c k < c.live
            go (yes m) = omega (arith, all)
            go (no m) = absurd (let z : ◌≡◌ {A = Bool} true false = sym h ∙ le-ltb (rank_of c k) t (omega arith) in let y : ◌≡◌ {A = ℕ} 0 1 = cc in omega arith)

        rank-off : ltb (rank_of c k) t ≡ false → c.live ≤ rank_of c k
        rank-off h = go (dec_lt (rank_of c k) t)
          where
            go : Dec (rank_of c k < t) → c.live ≤ rank_of c k
            go (yes m) = absurd (let z : ◌≡◌ {A = Bool} true false = sym (lt-ltb (rank_of c k) t m) ∙ h in let y : ◌≡◌ {A = ℕ} 0 1 = cc in omega arith)
            go (no m) = omega (arith, all)

        live : rank_of c k < c.live → (weight_of c k ≢ pos 0) × (pos 0 <ℤ times_sign (weight_of c k) (price_of c k))
        live m = subst (λ i. (weight_of c i ≢ pos 0) × (pos 0 <ℤ times_sign (weight_of c i) (price_of c i))) (o.item-rank k l)
            (o.live-weight (rank_of c k) m, o.live-rate (rank_of c k) m)

        dead : c.live ≤ rank_of c k → Idle (weight_of c k) (price_of c k)
        dead m = subst (λ i. Idle (weight_of c i) (price_of c i)) (o.item-rank k l) (o.idle (rank_of c k) m (o.rank-in k l))

    pub shallow-all : Shallow 0 1 c e
    unfolding loss_of top_of S
    shallow-all = record {
      point = S;
      feasible = λ marks'. record { keeps = keeps-whole 0 1 c e marks' S stand-in; fits = fits };
      little = subst (λ z. z <ℤ pos 10000000) (sym none) tiny;
    }
      where
        tiny : pos 0 <ℤ pos 10000000
        tiny = simp zed (omega arith)

        fits : weighsᴰ (box_of c e marks) S ≤ℤ (c.capacity *ℤ pos 1)
        fits = go (weighsᴰ (box_of c e marks) S) f.room c.capacity good.inv.level room≥0
          where
            go : (w r b : ℤ) → w +ℤ r ≡ b → pos 0 ≤ℤ r → w ≤ℤ (b *ℤ pos 1)
            go = split3 _ (λ a b c e f g. simp zed (omega arith))

        none : (pos 0 *ℤ c.capacity +ℤ sum c.count (λ k. score_of 0 1 c k *ℤ good_of 0 1 c e k)) *ℤ pos 1 -ℤ pos 1 *ℤ value_of c S ≡ pos 0
        none = ap (λ z. (pos 0 *ℤ c.capacity +ℤ z) *ℤ pos 1 -ℤ pos 1 *ℤ value_of c S)
            (sum-cong c.count (λ k. score_of 0 1 c k *ℤ good_of 0 1 c e k) (λ k. price_of c k *ℤ S k)
            (λ k l. ends-best k l ∙ ap (λ z. z *ℤ S k) (plain (weight_of c k) (price_of c k)))) ∙ ring c.capacity (value_of c S)
          where
            plain : (a c : ℤ) → score_by 0 1 a c ≡ c
            plain = split2 _ (λ x y v w. simp zed (omega arith))

            ring : (b v : ℤ) → (pos 0 *ℤ b +ℤ v) *ℤ pos 1 -ℤ pos 1 *ℤ v ≡ pos 0
            ring = split2 _ (λ a b c e. simp zed (omega arith))

  -- the critical item takes whole units
  module _ (l : t < c.live) (short : f.room <ℤ (at c.size t *ℤ width c e t)) (p q : ℕ) (p-is : at c.rate t ≡ pos p) (q-is : at c.size t ≡ pos q)
      (p-in : p ≤ 10000) (q-in : q ≤ 1000) (q≥1 : 1 ≤ q) where
    abbrev k* : ℕ
    k* = item_of c t

    k-in : k* < c.count
    k-in = o.item_in t (omega (arith, o.live_in))

    R : ℕ
    R = nat_abs f.room

    room-is : f.room ≡ pos R
    unfolding R
    room-is = go f.room room≥0
      where
        go : (z : ℤ) → pos 0 ≤ℤ z → z ≡ pos (nat_abs z)
        go (pos n) h = refl
        go (negsuc n) h = absurd h.le

    m : ℕ
    m = R / q

    rest : ℕ
    rest = R % q

    split-room : m * q + rest ≡ R
    unfolding m rest
    split-room = div-add-mod' R q

    rest_in : rest < q
    unfolding rest
    rest_in = mod-lt R q≥1

    a : ℤ
    a = weight_of c k*

    N : ℕ → ℤ
    N = bump S k* (unit a *ℤ pos m)

    -- at its light end, and m units more
    weight-abs : pos q ≡ pos (nat_abs (weight_of c k*))
    weight-abs = sym q-is ∙ o.sizes t l

    rate-abs : pos p ≡ times_sign (weight_of c k*) (price_of c k*)
    rate-abs = sym p-is ∙ o.rates t l

    unit-weight : (w : ℤ) → w *ℤ (unit w *ℤ pos m) ≡ pos (nat_abs w * m)
    unit-weight (pos n) = simp zed (omega arith)
    unit-weight (negsuc n) = simp zed (omega arith)

    unit-price : (w v : ℤ) → v *ℤ (unit w *ℤ pos m) ≡ times_sign w v *ℤ pos m
    unit-price (pos n) v = up v
      where
        up : (v : ℤ) → v *ℤ (pos 1 *ℤ pos m) ≡ v *ℤ pos m
        up = split _ (λ x y. simp zed (omega arith))
    unit-price (negsuc n) v = dn v
      where
        dn : (v : ℤ) → v *ℤ (negsuc 0 *ℤ pos m) ≡ neg_ℤ v *ℤ pos m
        dn = split _ (λ x y. simp zed (omega arith))

    weighs_is : weigh_of c N ≡ weigh_of c S +ℤ pos (q * m)
    unfolding N a
    weighs_is = sum_bump c.count (weight_of c) S k* (unit (weight_of c k*) *ℤ pos m) k-in ∙
        ap (λ z. weigh_of c S +ℤ z) (unit-weight (weight_of c k*) ∙ ap (λ (n : ℕ). pos (n * m)) (inj (nat_abs (weight_of c k*)) q (sym weight-abs)))
      where
        inj : (x y : ℕ) → pos x ≡ pos y → x ≡ y
        inj x y = simp zed (omega arith)

    value-is : value_of c N ≡ f.worth +ℤ pos (p * m)
    unfolding N a S
    value-is = sum_bump c.count (price_of c) S k* (unit (weight_of c k*) *ℤ pos m) k-in ∙
        ap₂ ◌+ℤ◌ good.worth-is (unit-price (weight_of c k*) (price_of c k*) ∙ ap (λ z. z *ℤ pos m) (sym rate-abs) ∙ both p m)
      where
        both : (x y : ℕ) → pos x *ℤ pos y ≡ pos (x * y)
        both x y = simp zed (omega arith)

    level-is : weigh_of c S ≡ c.capacity -ℤ pos R
    unfolding S
    level-is = go (weigh_of c (stand c e t)) f.room c.capacity R good.inv.level room-is
      where
        go : (w r b : ℤ) (n : ℕ) → w +ℤ r ≡ b → r ≡ pos n → w ≡ b -ℤ pos n
        go = split3 _ (λ x y v w x' y' n. simp zed (omega arith))

    -- no end promises more than the relaxation
    top-most : top_of p q c e ≤ℤ (pos q *ℤ f.worth +ℤ pos p *ℤ pos R)
    unfolding G
    top-most = subst (λ z. z ≤ℤ (pos q *ℤ f.worth +ℤ pos p *ℤ pos R)) (sym (top-is p q c e))
        (close (value_of c (G p q c e)) (weigh_of c (G p q c e)) f.worth c.capacity
        (subst₂ (λ x y. (x *ℤ (value_of c (G p q c e) -ℤ f.worth *ℤ pos 1)) ≤ℤ (y *ℤ (weigh_of c (G p q c e) -ℤ (c.capacity -ℤ f.room) *ℤ pos 1))) q-is p-is
        slope-at))
      where
        slope-at : (at c.size t *ℤ (value_of c (G p q c e) -ℤ f.worth *ℤ pos 1)) ≤ℤ
            (at c.rate t *ℤ (weigh_of c (G p q c e) -ℤ (c.capacity -ℤ f.room) *ℤ pos 1))
        slope-at = fill-slope c e marks o b f good l short 1 (G p q c e)
            (keeps-whole p q c e marks (G p q c e) (λ k i. good-in (score_of p q c k) (at e.lo k) (at e.hi k) (b k i)))

        close : (v w x y : ℤ) → (pos q *ℤ (v -ℤ x *ℤ pos 1)) ≤ℤ (pos p *ℤ (w -ℤ (y -ℤ f.room) *ℤ pos 1)) →
            (pos q *ℤ v +ℤ pos p *ℤ (y -ℤ w)) ≤ℤ (pos q *ℤ x +ℤ pos p *ℤ pos R)
        close v w x y h = fin v w x y (subst (λ r. (pos q *ℤ (v -ℤ x *ℤ pos 1)) ≤ℤ (pos p *ℤ (w -ℤ (y -ℤ r) *ℤ pos 1))) room-is h)
          where
            fin : (v w x y : ℤ) → (pos q *ℤ (v -ℤ x *ℤ pos 1)) ≤ℤ (pos p *ℤ (w -ℤ (y -ℤ pos R) *ℤ pos 1)) →
                (pos q *ℤ v +ℤ pos p *ℤ (y -ℤ w)) ≤ℤ (pos q *ℤ x +ℤ pos p *ℤ pos R)
            fin = split4 _ (λ a b c e f g h i. simp zed (omega arith))

    -- within the ends
    amount-in : (at e.lo k* ≤ℤ (S k* +ℤ unit (weight_of c k*) *ℤ pos m)) × ((S k* +ℤ unit (weight_of c k*) *ℤ pos m) ≤ℤ at e.hi k*)
    unfolding S
    amount-in = rw (le-ltb (rank_of c k*) t (omega (arith, o.rank-item t (omega (arith, o.live_in))))) (go (weight_of c k*) (o.live-weight t l))
      where
        fewer : (x y : ℤ) → x ≤ℤ y → f.room <ℤ (pos q *ℤ (y -ℤ x)) → (x ≤ℤ (x +ℤ pos m)) × ((x +ℤ pos m) ≤ℤ y)
        fewer x y h k = fin x y h (subst (λ r. r <ℤ (pos q *ℤ (y -ℤ x))) room-is k)
          where
            fin : (x y : ℤ) → x ≤ℤ y → pos R <ℤ (pos q *ℤ (y -ℤ x)) → (x ≤ℤ (x +ℤ pos m)) × ((x +ℤ pos m) ≤ℤ y)
            fin x y h i = (low x, high x y (nat_abs (y -ℤ x)) (gap x y h) i)
              where
                low : (x : ℤ) → x ≤ℤ (x +ℤ pos m)
                low = split _ (λ a b. simp zed (omega arith))

                gap : (x y : ℤ) → x ≤ℤ y → y -ℤ x ≡ pos (nat_abs (y -ℤ x))
                gap x y h = abs (y -ℤ x) (sub x y h)
                  where
                    sub : (x y : ℤ) → x ≤ℤ y → pos 0 ≤ℤ (y -ℤ x)
                    sub = split2 _ (λ a b c e. simp zed (omega arith))

                    abs : (z : ℤ) → pos 0 ≤ℤ z → z ≡ pos (nat_abs z)
                    abs (pos n) h = refl
                    abs (negsuc n) h = absurd h.le

                high : (x y : ℤ) (w : ℕ) → y -ℤ x ≡ pos w → pos R <ℤ (pos q *ℤ (y -ℤ x)) → (x +ℤ pos m) ≤ℤ y
                high x y w g i = up x y w g (less (prod (rw g at i)))
                  where
                    prod : pos R <ℤ (pos q *ℤ pos w) → R < q * w
                    prod = simp zed (omega arith)

                    less : R < q * w → m ≤ w
                    less h = cmp (dec_lt w m)
                      where
                        cmp : Dec (w < m) → m ≤ w
                        cmp (yes v) = absurd (omega (arith, split-room, mul-le-mul_left q v))
                        cmp (no v) = omega arith

                    up : (x y : ℤ) (w : ℕ) → y -ℤ x ≡ pos w → m ≤ w → (x +ℤ pos m) ≤ℤ y
                    up = split2 _ (λ a b c e w. simp zed (omega arith))

        widths : f.room <ℤ (pos q *ℤ (at e.hi k* -ℤ at e.lo k*))
        widths = subst (λ z. f.room <ℤ (z *ℤ (at e.hi k* -ℤ at e.lo k*))) q-is short

        go : (w : ℤ) → w ≢ pos 0 → (at e.lo k* ≤ℤ (lightest w (price_of c k*) (at e.lo k*) (at e.hi k*) +ℤ unit w *ℤ pos m)) ×
            ((lightest w (price_of c k*) (at e.lo k*) (at e.hi k*) +ℤ unit w *ℤ pos m) ≤ℤ at e.hi k*)
        go (pos zero) ne = absurd (ne refl)
        go (pos (suc n)) ne = rw (lt_yes (up n)) (up-end (at e.lo k*) (at e.hi k*) (fewer (at e.lo k*) (at e.hi k*) (b k* k-in) widths))
          where
            up : (n : ℕ) → pos 0 <ℤ pos (suc n)
            up n = simp zed (omega arith)

            up-end : (x y : ℤ) → (x ≤ℤ (x +ℤ pos m)) × ((x +ℤ pos m) ≤ℤ y) → (x ≤ℤ (x +ℤ pos 1 *ℤ pos m)) × ((x +ℤ pos 1 *ℤ pos m) ≤ℤ y)
            up-end x y h = subst (λ z. (x ≤ℤ z) × (z ≤ℤ y)) (one x) h
              where
                one : (x : ℤ) → x +ℤ pos m ≡ x +ℤ pos 1 *ℤ pos m
                one = split _ (λ a b. simp zed (omega arith))
        go (negsuc n) ne = dn-end (at e.lo k*) (at e.hi k*) (fewer (at e.lo k*) (at e.hi k*) (b k* k-in) widths)
          where
            dn-end : (x y : ℤ) → (x ≤ℤ (x +ℤ pos m)) × ((x +ℤ pos m) ≤ℤ y) → (x ≤ℤ (y +ℤ negsuc 0 *ℤ pos m)) × ((y +ℤ negsuc 0 *ℤ pos m) ≤ℤ y)
            dn-end x y h = (lower x y h.1, upper y)
              where
                lower : (x y : ℤ) → (x +ℤ pos m) ≤ℤ y → x ≤ℤ (y +ℤ negsuc 0 *ℤ pos m)
                lower = split2 _ (λ a b c e. simp zed (omega arith))

                upper : (y : ℤ) → (y +ℤ negsuc 0 *ℤ pos m) ≤ℤ y
                upper = split _ (λ a b. simp zed (omega arith))

    inside : (k : ℕ) → k < c.count → (at e.lo k ≤ℤ N k) × (N k ≤ℤ at e.hi k)
    unfolding N a
    inside k i = go (ℕ_discrete k k*)
      where
        go : Dec (k ≡ k*) → (at e.lo k ≤ℤ N k) × (N k ≤ℤ at e.hi k)
        go (yes g) = rw (g, bump-same S k* (unit (weight_of c k*) *ℤ pos m)) amount-in
        go (no g) = rw (bump-other S k* (unit (weight_of c k*) *ℤ pos m) k g) (stand-in k i)

    pub shallow-critical : Shallow p q c e
    unfolding loss_of
    shallow-critical = record {
      point = N;
      feasible = λ marks'. record { keeps = keeps-whole p q c e marks' N inside; fits = fits };
      little = little;
    }
      where
        fits : weigh_of c N ≤ℤ (c.capacity *ℤ pos 1)
        fits = go (weigh_of c N) (weigh_of c S) c.capacity (q * m) R weighs_is level-is (omega (arith, split-room))
          where
            go : (w s b : ℤ) (x y : ℕ) → w ≡ s +ℤ pos x → s ≡ b -ℤ pos y → x ≤ y → w ≤ℤ (b *ℤ pos 1)
            go = split3 _ (λ a b c e f g x y. simp zed (omega arith))

        little : (top_of p q c e *ℤ pos 1 -ℤ pos q *ℤ value_of c N) <ℤ pos 10000000
        little = go (top_of p q c e) f.worth (value_of c N) value-is top-most
          where
            slack : p * rest < 10000000
            slack = omega (arith, mul-le-mul p-in (up rest_in))
              where
                up : rest < q → rest ≤ 999
                up h = omega arith

            room-p : p * R ≡ q * (p * m) + p * rest
            room-p = ap (λ (n : ℕ). p * n) (sym split-room) ∙ ring p q m rest
              where
                ring : (p q m r : ℕ) → p * (m * q + r) ≡ q * (p * m) + p * r
                ring p q m r = omega arith

            go : (T w v : ℤ) → v ≡ w +ℤ pos (p * m) → T ≤ℤ (pos q *ℤ w +ℤ pos p *ℤ pos R) → (T *ℤ pos 1 -ℤ pos q *ℤ v) <ℤ pos 10000000
            go T w v i h = rw i (fin T w (p * m) (p * R) (p * rest) room-p slack (subst (λ z. T ≤ℤ (pos q *ℤ w +ℤ z)) (both p R) h))
              where
                both : (x y : ℕ) → pos x *ℤ pos y ≡ pos (x * y)
                both x y = simp zed (omega arith)

                fin : (T w : ℤ) (x y z : ℕ) → y ≡ q * x + z → z < 10000000 → T ≤ℤ (pos q *ℤ w +ℤ pos y) → (T *ℤ pos 1 -ℤ pos q *ℤ (w +ℤ pos x)) <ℤ pos 10000000
                fin = split2 _ (λ a b c e x y z. simp zed (omega arith))

  -- the critical item's price, or none
  pub shallow : (p q : ℕ) → p ≡ cond (ltb t c.live) (nat_abs (at c.rate t)) 0 → q ≡ cond (ltb t c.live) (nat_abs (at c.size t)) 1 → p ≤ 10000 →
      q ≤ 1000 → 1 ≤ q → Shallow p q c e
  shallow p q p-is q-is p-in q-in q≥1 = go stopped.why
    where
      go : (t ≡ c.live) ⊎ ((t < c.live) × (f.room <ℤ (at c.size t *ℤ width c e t))) → Shallow p q c e
      go (inl h) = subst₂ (λ x y. Shallow x y c e) (sym (p-is ∙ rw (le-ltb t c.live (omega arith))))
          (sym (q-is ∙ rw (le-ltb t c.live (omega arith)))) (shallow-all h)
      go (inr (l, short)) = shallow-critical l short p q (pos-is (at c.rate t) p (less _ (subst (λ z. pos 0 <ℤ z) (sym (o.rates t l)) (o.live-rate t l)))
          (p-is ∙ rw (lt-ltb t c.live l))) (pos-is (at c.size t) q (size-up (o.sizes t l)) (q-is ∙ rw (lt-ltb t c.live l))) p-in q-in q≥1
        where
          less : (z : ℤ) → pos 0 <ℤ z → pos 0 ≤ℤ z
          less = split _ (λ a b. simp zed (omega arith))

          size-up : {n : ℕ} → at c.size t ≡ pos n → pos 0 ≤ℤ at c.size t
          size-up {n} h = rw h (simp zed (omega arith))

          pos-is : (z : ℤ) (n : ℕ) → pos 0 ≤ℤ z → n ≡ nat_abs z → z ≡ pos n
          pos-is (pos x) n h i = ap pos (sym i)
          pos-is (negsuc x) n h i = absurd h.le
