-- What the order of Tied keeps of the filling: where its whole amounts stand, and that a start lies between its ends.
-- stand-level: what the whole amounts weigh.
-- tied-slope: more weight than that of the whole amounts gains at most its price at the critical item (as greedy, fill-slope).
-- tied-start: a start lies between its ends (as greedy, start-inside).
use mathlib.Core.Path.{◌≡◌, refl, sym, ap, ap₂, ◌∙◌, subst, subst₂}
use mathlib.Core.Bool.{Bool, true, false, cond}
use mathlib.Core.Logic.{◌≢◌, ◌⊎◌, inl, inr}
use Prim.Native.Nat.{ℕ, zero, suc, ◌*◌, ◌≤◌, ◌<◌}
use native.Mathlib.Omega.{arith}
use native.Mathlib.Nat.{mul-le-mul_left}
use native.Mathlib.Decide.{ℕ_discrete}
use lib.Dec.{ltb, eqb}
use lib.IntN.{ℤ, pos, negsuc, neg_ℤ, nat_abs, ◌+ℤ◌, ◌-ℤ◌, ◌*ℤ◌}
use lib.Signed.{◌≤ℤ◌, ◌<ℤ◌, lt_z, ≤ℤ_refl}
use borrow.Author.Tests.{ltb-true, ltb-false}
use Rattle.arith.proofs.Integers.{split, split2, split3, split4, zed, ≤ℤ-reflexive, ≤ℤ-or-<, times-≤-back}
use Rattle.arith.proofs.Parts.{lt-le}
use Rattle.arith.proofs.Sums.{sum-times}
use Rattle.arith.specs.Signs.{times_sign}
use Rattle.greedy.specs.declared.Columns.{Columns}
use Rattle.greedy.specs.declared.Ends.{Ends}
use Rattle.greedy.specs.declared.Fill.{Fill}
use Rattle.greedy.specs.Fill.{at, weight_of, price_of, item_of, rank_of, light_of, heavy_of, fill, fitted, start, stand}
use Rattle.greedy.specs.Ordered.{weight_at, rate_at}
use Rattle.greedy.proofs.Greedy.{LightAt, HeavyAt, zero?, abs≥1, light-in}
use Rattle.greedy.proofs.Relaxed.{box_of, InOrder, fill-stopped, start-inside}
use Rattle.greedy.proofs.Sides.{is-lightest, is-heaviest}
use Rattle.knapsack.proofs.Common.{Keepsᴰ, weighsᴰ, valueᴰ}
use Rattle.knapsack.proofs.Dual.{score, AtEnd, within, slope}
use Rattle.knapsack.specs.Meaning.{Instance}
use Rattle.std.specs.Prelude.{Some}
use Rattle.knapsack.specs.declared.Mark.{Mark}
use Rattle.foremost.proofs.Foremost.{total-cong}
use Rattle.foremost.proofs.Ghost.{most, most-is}
use Rattle.foremost.specs.Tied.{Live, worth, sinks, Falls, Tied, Rated}
use Rattle.foremost.proofs.Ties.{Large, ghosted, ghost-ordered}
use Rattle.foremost.proofs.Filling.{ghost-fill, same-stand}
use Rattle.foremost.proofs.Worth.{fill-worth}

-- ---- an item at its end

above-0 : (n : ℕ) → pos n ≢ pos 0 → pos 0 <ℤ pos n
above-0 n = simp zed (omega arith)

below-0 : (n : ℕ) → negsuc n <ℤ pos 0
below-0 n = simp zed (omega arith)

-- at a ratio p / q that its own is not below, an item stands well at its heavy end
heavy-end : (p q : ℕ) (m : Mark) (a c l u x : ℤ) → a ≢ pos 0 → (pos p *ℤ pos (nat_abs a)) ≤ℤ (times_sign a c *ℤ pos q) → HeavyAt a l u x
    → AtEnd q (score p q a c) (record { mark = m; weight = a; price = c; lower = Some l; upper = Some u }) (x *ℤ pos q)
unfolding score
heavy-end p q m (pos n) c l u x nz h e = record { good = λ g. ap (λ z. z *ℤ pos q) (e.heavy (above-0 n nz)); bad = λ g. absurd (up p q n c h g) }
  where
    up : (p q n : ℕ) (c : ℤ) → (pos p *ℤ pos n) ≤ℤ (c *ℤ pos q) → (pos q *ℤ c -ℤ pos p *ℤ pos n) <ℤ pos 0 → ⊥
    up p q n = split _ (λ a b. simp zed (omega arith))
heavy-end p q m (negsuc n) c l u x nz h e = record { good = λ g. absurd (dn p q n c h g); bad = λ g. ap (λ z. z *ℤ pos q) (e.light (below-0 n)) }
  where
    dn : (p q n : ℕ) (c : ℤ) → (pos p *ℤ pos (suc n)) ≤ℤ (neg_ℤ c *ℤ pos q) → pos 0 <ℤ (pos q *ℤ c -ℤ pos p *ℤ negsuc n) → ⊥
    dn p q n = split _ (λ a b. simp zed (omega arith))

-- at a ratio that its own is not above, at its light end
light-end : (p q : ℕ) (m : Mark) (a c l u x : ℤ) → (a ≢ pos 0 → (times_sign a c *ℤ pos q) ≤ℤ (pos p *ℤ pos (nat_abs a))) → LightAt a c l u x
    → AtEnd q (score p q a c) (record { mark = m; weight = a; price = c; lower = Some l; upper = Some u }) (x *ℤ pos q)
unfolding score
light-end p q m (pos zero) c l u x h e = record {
  good = λ g. ap (λ z. z *ℤ pos q) (e.good refl (over c g (≤ℤ-or-< c (pos 0))));
  bad = λ g. ap (λ z. z *ℤ pos q) (e.bad refl (under c g (≤ℤ-or-< c (pos 0))));
}
  where
    not-over : (c : ℤ) → pos 0 <ℤ (pos q *ℤ c -ℤ pos p *ℤ pos 0) → c ≤ℤ pos 0 → ⊥
    not-over = split _ (λ a b. simp zed (λ f g. omega (arith, mul-le-mul_left q g)))

    over : (c : ℤ) → pos 0 <ℤ (pos q *ℤ c -ℤ pos p *ℤ pos 0) → (c ≤ℤ pos 0) ⊎ (pos 0 <ℤ c) → pos 0 <ℤ c
    over c g (inl k) = absurd (not-over c g k)
    over c g (inr k) = k

    not-under : (c : ℤ) → (pos q *ℤ c -ℤ pos p *ℤ pos 0) <ℤ pos 0 → pos 0 <ℤ c → ⊥
    not-under = split _ (λ a b. simp zed (λ f g. omega (arith, mul-le-mul_left q g)))

    under : (c : ℤ) → (pos q *ℤ c -ℤ pos p *ℤ pos 0) <ℤ pos 0 → (c ≤ℤ pos 0) ⊎ (pos 0 <ℤ c) → c ≤ℤ pos 0
    under c g (inl k) = k
    under c g (inr k) = absurd (not-under c g k)
light-end p q m (pos (suc n)) c l u x h e = record {
  good = λ g. absurd (up p q (suc n) c (h (λ z. not-0 (suc n) (omega arith) z)) g);
  bad = λ g. ap (λ z. z *ℤ pos q) (e.heavy (above-0 (suc n) (λ z. not-0 (suc n) (omega arith) z)));
}
  where
    up : (p q n : ℕ) (c : ℤ) → (c *ℤ pos q) ≤ℤ (pos p *ℤ pos n) → pos 0 <ℤ (pos q *ℤ c -ℤ pos p *ℤ pos n) → ⊥
    up p q n = split _ (λ a b. simp zed (omega arith))

    not-0 : (n : ℕ) → 1 ≤ n → pos n ≢ pos 0
    not-0 n = simp zed (omega arith)
light-end p q m (negsuc n) c l u x h e = record {
  good = λ g. ap (λ z. z *ℤ pos q) (e.light (below-0 n));
  bad = λ g. absurd (dn p q n c (h (λ z. not-0 (negsuc n) (below-0 n) z)) g);
}
  where
    dn : (p q n : ℕ) (c : ℤ) → (neg_ℤ c *ℤ pos q) ≤ℤ (pos p *ℤ pos (suc n)) → (pos q *ℤ c -ℤ pos p *ℤ negsuc n) <ℤ pos 0 → ⊥
    dn p q n = split _ (λ a b. simp zed (omega arith))

    not-0 : (a : ℤ) → a <ℤ pos 0 → a ≢ pos 0
    not-0 = split _ (λ a b. simp zed (omega arith))

module _ (c : Columns) (e : Ends) (marks : ℕ → Mark) (o : Tied c) (b : InOrder c e) where
  abbrev box : Instance
  box = box_of c e marks

  -- large enough for all weights
  abbrev M : ℕ
  M = suc (suc (most c.count (λ k. 2 * nat_abs (weight_of c k))))

  large : Large M c
  large = record { two = omega arith; weights = λ k l. omega (arith, most-is c.count (λ k. 2 * nat_abs (weight_of c k)) k l) }

  -- ---- what the whole amounts weigh

  pub stand-level : pos 0 ≤ℤ (fill c e).room → weighsᴰ box (stand c e (fill c e).at) +ℤ (fill c e).room ≡ c.capacity
  stand-level room =
      let s = ghost-fill M c e large.two in
      let t = fill-stopped (ghosted M c) e marks (ghost-ordered M c o large) b (subst (λ r. pos 0 ≤ℤ r) (sym s.room) room) in
      ap₂ ◌+ℤ◌ (total-cong c.count (weight_of c) (stand c e (fill c e).at) (stand (ghosted M c) e (fill (ghosted M c) e).at)
      (λ k l. sym (same-stand M c e large.two (fill (ghosted M c) e) (fill c e) s k l))) (sym s.room) ∙ t.good.inv.level

  -- ---- at the ratio of a live rank every item stands at its end

  module _ (t : ℕ) (l : t < c.live) (p : ℕ) (p-is : pos p ≡ rate_at c t) where
    abbrev q : ℕ
    q = nat_abs (weight_at c t)

    t-in : t < c.count
    t-in = omega (arith, o.live_in)

    nt : weight_at c t ≢ pos 0
    nt = o.live-weight t l

    -- ranks before and behind
    above : (u : ℕ) → u < t → weight_at c u ≢ pos 0 → (pos p *ℤ pos (nat_abs (weight_at c u))) ≤ℤ (rate_at c u *ℤ pos q)
    above u m nu = subst (λ z. (z *ℤ pos (nat_abs (weight_at c u))) ≤ℤ (rate_at c u *ℤ pos q)) (sym p-is) (go (o.falls u t m t-in nu nt))
      where
        go : Falls c u t → (rate_at c t *ℤ pos (nat_abs (weight_at c u))) ≤ℤ (rate_at c u *ℤ pos q)
        go (inl h) = lt-le h
        go (inr (h, k)) = ≤ℤ-reflexive h

    behind : (u : ℕ) → t ≤ u → u < c.count → weight_at c u ≢ pos 0 → (rate_at c u *ℤ pos q) ≤ℤ (pos p *ℤ pos (nat_abs (weight_at c u)))
    behind u m n nu = subst (λ z. (rate_at c u *ℤ pos q) ≤ℤ (z *ℤ pos (nat_abs (weight_at c u)))) (sym p-is) (go (ℕ_discrete u t))
      where
        later : Falls c t u → (rate_at c u *ℤ pos q) ≤ℤ (rate_at c t *ℤ pos (nat_abs (weight_at c u)))
        later (inl h) = lt-le h
        later (inr (h, k)) = ≤ℤ-reflexive h

        go : Dec (u ≡ t) → (rate_at c u *ℤ pos q) ≤ℤ (rate_at c t *ℤ pos (nat_abs (weight_at c u)))
        go (yes z) = rw z (≤ℤ_refl (rate_at c t *ℤ pos q))
        go (no z) = later (o.falls t u (omega (arith, z)) n nt nu)

    at-end : (j : ℕ) → j < c.count → AtEnd q (score p q (weight_of c j) (price_of c j)) (box.item j) (stand c e t j *ℤ pos q)
    at-end j m = go (ltb (rank_of c j) t) refl
      where
        own : item_of c (rank_of c j) ≡ j
        own = o.item-rank j m

        go : (x : Bool) → ltb (rank_of c j) t ≡ x
            → AtEnd q (score p q (weight_of c j) (price_of c j)) (box.item j) (cond x (heavy_of c e j) (light_of c e j) *ℤ pos q)
        go true h = side (zero? (weight_of c j))
          where
            before : rank_of c j < t
            before = ltb-true (rank_of c j) t h

            side : (weight_of c j ≡ pos 0) ⊎ (weight_of c j ≢ pos 0)
                → AtEnd q (score p q (weight_of c j) (price_of c j)) (box.item j) (heavy_of c e j *ℤ pos q)
            side (inl z) = absurd (o.live-weight (rank_of c j) (omega (arith, before)) (ap (weight_of c) own ∙ z))
            side (inr nz) = heavy-end p q (marks j) (weight_of c j) (price_of c j) (at e.lo j) (at e.hi j) (heavy_of c e j) nz
                (subst (λ i. (pos p *ℤ pos (nat_abs (weight_of c i))) ≤ℤ (times_sign (weight_of c i) (price_of c i) *ℤ pos q)) own
                (above (rank_of c j) before (λ z. nz (ap (weight_of c) (sym own) ∙ z))))
                (is-heaviest (weight_of c j) (at e.lo j) (at e.hi j))
        go false h = light-end p q (marks j) (weight_of c j) (price_of c j) (at e.lo j) (at e.hi j) (light_of c e j)
            (λ nz. subst (λ i. (times_sign (weight_of c i) (price_of c i) *ℤ pos q) ≤ℤ (pos p *ℤ pos (nat_abs (weight_of c i)))) own
            (behind (rank_of c j) (ltb-false (rank_of c j) t h) (o.rank-in j m) (λ z. nz (ap (weight_of c) (sym own) ∙ z))))
            (is-lightest (weight_of c j) (price_of c j) (at e.lo j) (at e.hi j))

  live-rate-some : {a r : ℤ} → Live a r → pos 0 ≤ℤ r
  live-rate-some (worth h) = lt-le h
  live-rate-some (sinks h z) = ≤ℤ-reflexive (sym z)

  abs_is : (x : ℤ) → pos 0 ≤ℤ x → pos (nat_abs x) ≡ x
  abs_is = split _ (λ a b. simp zed (omega arith))

  pub tied-slope : Rated c → pos 0 ≤ℤ (fill c e).room → (fill c e).at < c.live → (D : ℕ) (N : ℕ → ℤ)
      → ((j : ℕ) → j < c.count → Keepsᴰ D (box.item j) (N j))
      → (at c.size (fill c e).at *ℤ (valueᴰ box N -ℤ (fill c e).worth *ℤ pos D)) ≤ℤ
      (at c.rate (fill c e).at *ℤ (weighsᴰ box N -ℤ (c.capacity -ℤ (fill c e).room) *ℤ pos D))
  tied-slope rated room l D N h = rw (o.sizes t l, rated t l, sym p-is)
      (close p q D q≥1 (valueᴰ box N) (weighsᴰ box N) f.worth (c.capacity -ℤ f.room)
      (subst₂ (λ v w. (pos q *ℤ (valueᴰ box N *ℤ pos q) -ℤ pos p *ℤ (weighsᴰ box N *ℤ pos q)) ≤ℤ (pos q *ℤ (v *ℤ pos D) -ℤ pos p *ℤ (w *ℤ pos D)))
      (sum-times c.count (price_of c) (stand c e t) q ∙ ap (λ z. z *ℤ pos q) (fill-worth c e marks o rated).1)
      (sum-times c.count (weight_of c) (stand c e t) q ∙ ap (λ z. z *ℤ pos q) (left (weighsᴰ box (stand c e t)) f.room c.capacity (stand-level room)))
      (slope box p q q (λ j. stand c e t j *ℤ pos q) (λ j m. at-end t l p p-is j m) D N (λ j m. within (h j m)))))
    where
      f : Fill
      f = fill c e

      t : ℕ
      t = f.at

      q : ℕ
      q = nat_abs (weight_at c t)

      q≥1 : 1 ≤ q
      q≥1 = abs≥1 (weight_at c t) (o.live-weight t l)

      p : ℕ
      p = nat_abs (rate_at c t)

      p-is : pos p ≡ rate_at c t
      p-is = abs_is (rate_at c t) (live-rate-some (o.live-rate t l))

      left : (w r b : ℤ) → w +ℤ r ≡ b → w ≡ b -ℤ r
      left = split3 _ (λ a b c e f g. simp zed (omega arith))

      close : (p q D : ℕ) → 1 ≤ q → (v w x y : ℤ) → (pos q *ℤ (v *ℤ pos q) -ℤ pos p *ℤ (w *ℤ pos q)) ≤ℤ
          (pos q *ℤ ((x *ℤ pos q) *ℤ pos D) -ℤ pos p *ℤ ((y *ℤ pos q) *ℤ pos D)) → (pos q *ℤ (v -ℤ x *ℤ pos D)) ≤ℤ (pos p *ℤ (w -ℤ y *ℤ pos D))
      close p q D q≥1 v w x y h =
          apart p q D v w x y (times-≤-back q (pos q *ℤ v -ℤ pos p *ℤ w) (pos q *ℤ (x *ℤ pos D) -ℤ pos p *ℤ (y *ℤ pos D)) q≥1
          (subst₂ ◌≤ℤ◌ (out p q v w) (out' p q D x y) h))
        where
          out : (p q : ℕ) (v w : ℤ) → pos q *ℤ (v *ℤ pos q) -ℤ pos p *ℤ (w *ℤ pos q) ≡ (pos q *ℤ v -ℤ pos p *ℤ w) *ℤ pos q
          out p q = split2 _ (λ a b c e. simp zed (omega arith))

          out' : (p q D : ℕ) (x y : ℤ) → pos q *ℤ ((x *ℤ pos q) *ℤ pos D) -ℤ pos p *ℤ ((y *ℤ pos q) *ℤ pos D) ≡
              (pos q *ℤ (x *ℤ pos D) -ℤ pos p *ℤ (y *ℤ pos D)) *ℤ pos q
          out' p q D = split2 _ (λ a b c e. simp zed (omega arith))

          apart : (p q D : ℕ) (v w x y : ℤ) → (pos q *ℤ v -ℤ pos p *ℤ w) ≤ℤ (pos q *ℤ (x *ℤ pos D) -ℤ pos p *ℤ (y *ℤ pos D))
              → (pos q *ℤ (v -ℤ x *ℤ pos D)) ≤ℤ (pos p *ℤ (w -ℤ y *ℤ pos D))
          apart p q D = split4 _ (λ a b c e f g h i. simp zed (omega arith))

  -- ---- starts

  abbrev Inside : ℕ → ℤ → Type 0
  Inside j x = (at e.lo j ≤ℤ x) × (x ≤ℤ at e.hi j)

  light-inside : (j : ℕ) → j < c.count → Inside j (light_of c e j)
  light-inside j l = light-in (weight_of c j) (price_of c j) (at e.lo j) (at e.hi j) (light_of c e j) (b j l)
      (is-lightest (weight_of c j) (price_of c j) (at e.lo j) (at e.hi j))

  heavy-inside : (j : ℕ) → j < c.count → Inside j (heavy_of c e j)
  heavy-inside j l = go (lt_z (weight_of c j) (pos 0))
    where
      go : (t : Bool) → Inside j (cond t (at e.lo j) (at e.hi j))
      go true = (≤ℤ_refl (at e.lo j), b j l)
      go false = (b j l, ≤ℤ_refl (at e.hi j))

  pub tied-start : (j : ℕ) → j < c.count → Inside j (start c e (fill c e) j)
  unfolding start
  tied-start j l = go (lt_z f.room (pos 0)) (ltb (rank_of c j) f.at) (eqb (rank_of c j) f.at) (ltb f.at c.live) refl refl refl refl
    where
      f : Fill
      f = fill c e

      fit : ℤ
      fit = fitted (weight_of c j) (at e.lo j) (at e.hi j) f.room

      -- at ghost prices it is the same
      fit-inside : lt_z f.room (pos 0) ≡ false → ltb (rank_of c j) f.at ≡ false → eqb (rank_of c j) f.at ≡ true → ltb f.at c.live ≡ true
          → Inside j fit
      fit-inside w x y z =
          let s = ghost-fill M c e large.two in
          let i = start-inside (ghosted M c) e marks (ghost-ordered M c o large) b j l in
          rw (s.room, s.rank, w, x, y, z) at i

      go : (w x y z : Bool) → lt_z f.room (pos 0) ≡ w → ltb (rank_of c j) f.at ≡ x → eqb (rank_of c j) f.at ≡ y → ltb f.at c.live ≡ z
          → Inside j (cond w (light_of c e j) (cond x (heavy_of c e j) (cond y (cond z fit (light_of c e j)) (light_of c e j))))
      go true x y z hw hx hy hz = light-inside j l
      go false true y z hw hx hy hz = heavy-inside j l
      go false false false z hw hx hy hz = light-inside j l
      go false false true false hw hx hy hz = light-inside j l
      go false false true true hw hx hy hz = fit-inside hw hx hy hz
