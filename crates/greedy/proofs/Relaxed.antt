-- What a filling says of its box.
--   box_of c e marks   the instance of columns and ends, all bounds present
-- fill-empty: a room below 0 says that nothing is feasible.
-- fill-bound: otherwise nothing feasible is worth more than the bound.
-- fill-slope: more weight than that of the whole amounts gains at most its price at the critical item.
-- fill-point: and the solution is feasible and worth the bound, if every integer item is fixed.
-- start-inside: a start lies between its ends.
use mathlib.Core.Path.{◌≡◌, refl, sym, ap, ap₂, ◌∙◌, subst, subst₂}
use mathlib.Core.Bool.{Bool, true, false, cond}
use mathlib.Core.Logic.{◌≢◌, ◌⊎◌, inl, inr}
use Prim.Native.Nat.{ℕ, zero, suc, ◌+◌, ◌*◌, ◌/◌, ◌%◌, ◌≤◌, ◌<◌}
use native.Mathlib.Omega.{arith}
use native.Mathlib.Nat.{div-add-mod', mul-le-mul_left}
use native.Mathlib.Decide.{ℕ_discrete}
use lib.Dec.{ltb, eqb}
use lib.IntN.{ℤ, pos, negsuc, neg_ℤ, nat_abs, ◌+ℤ◌, ◌-ℤ◌, ◌*ℤ◌}
use lib.Signed.{◌≤ℤ◌, ◌<ℤ◌, ≤ℤ_refl, lt_z, clash_ℤ}
use borrow.Author.Tests.{lt-ltb, le-ltb, ltb-true, ltb-false, eq-eqb, ne_eqb, eqb-true}
use Rattle.arith.specs.Division.{floor_by, floor_div, ceil_div}
use Rattle.arith.specs.Sum.{sum, Each, bump}
use Rattle.arith.specs.declared.Mixed.{Mixed}
use Rattle.arith.proofs.Integers.{split, split2, split3, split4, zed, ≤ℤ-or-<, times-≤-back, ≤ℤ-diff}
use Rattle.arith.proofs.Sums.{bump-same, bump-other, sum_bump, sum-cong, sum-times}
use Rattle.arith.proofs.Words.{yes_lt, no_lt, lt_yes, le-no}
use Rattle.arith.proofs.Mixes.{over}
use Rattle.std.specs.Prelude.{Some}
use Rattle.knapsack.specs.declared.Mark.{Mark}
use Rattle.knapsack.specs.declared.Mark.TheVariants.{Integer, Continuous}
use Rattle.knapsack.specs.Meaning.{Instance}
use Rattle.knapsack.proofs.Common.{KeepsMarkᴰ, Keepsᴰ, weighsᴰ, valueᴰ, Feasibleᴰ}
use Rattle.knapsack.proofs.Dual.{score, AtEnd, Certificate, within, slope}
use Rattle.knapsack.proofs.Branch.{AtMost, leaf, empty}
use Rattle.greedy.specs.declared.Columns.{Columns}
use Rattle.greedy.specs.declared.Ends.{Ends}
use Rattle.greedy.specs.declared.Fill.{Fill}
use Rattle.arith.specs.Signs.{times_sign}
use Rattle.greedy.specs.Fill.{at, weight_of, price_of, item_of, rank_of, light_of, heavy_of, width, begun, raised, fill_from, fill, size_of, rate_of, shared_by}
use Rattle.greedy.specs.Fill.{bound, fitted, start, unit, stand, solution}
use Rattle.greedy.specs.Ordered.{Idle, weight_at, Ordered}
use Rattle.greedy.proofs.Greedy.{Boxed, LightAt, HeavyAt, Ranked, Inv, Critical, too-heavy, begin, raise, finish, inv-feasible, standing, critical}
use Rattle.greedy.proofs.Greedy.{not-idle, abs≥1, times-sign-abs, light-in, unit-abs, price-abs}
use Rattle.greedy.proofs.Critical.{own-score}
use Rattle.greedy.proofs.Owning.{fill-begun, fill_on}
use Rattle.greedy.proofs.Sides.{is-lightest, is-heaviest, lift-price}

abbrev pub box_of : Columns → Ends → (ℕ → Mark) → Instance
box_of c e marks = record {
  capacity = c.capacity;
  count = c.count;
  item = λ k. record { mark = marks k; weight = weight_of c k; price = price_of c k; lower = Some (at e.lo k); upper = Some (at e.hi k) };
}

-- the ends of a box are in order
abbrev pub InOrder : Columns → Ends → Type 0
InOrder c e = (k : ℕ) → k < c.count → at e.lo k ≤ℤ at e.hi k

-- a sum with one place changed
sum-set : (n : ℕ) (a e e' : ℕ → ℤ) (k : ℕ) → k < n → ((j : ℕ) → j < n → j ≢ k → e' j ≡ e j)
    → sum n (λ j. a j *ℤ e' j) ≡ sum n (λ j. a j *ℤ e j) +ℤ a k *ℤ (e' k -ℤ e k)
sum-set n a e e' k l h = sum-cong n (λ j. a j *ℤ e' j) (λ j. a j *ℤ bump e k (e' k -ℤ e k) j) (λ j m. ap (λ z. a j *ℤ z) (at_j j m (ℕ_discrete j k)))
    ∙ sum_bump n a e k (e' k -ℤ e k) l
  where
    diff : (x y : ℤ) → x ≡ y +ℤ (x -ℤ y)
    diff = split2 _ (λ a b c e. simp zed (omega arith))

    at_j : (j : ℕ) → j < n → Dec (j ≡ k) → e' j ≡ bump e k (e' k -ℤ e k) j
    at_j j m (yes q) = rw (q, bump-same e k (e' k -ℤ e k)) (diff (e' k) (e k))
    at_j j m (no q) = h j m q ∙ sym (bump-other e k (e' k -ℤ e k) j q)

module _ (c : Columns) (e : Ends) (marks : ℕ → Mark) (o : Ordered c) (b : InOrder c e) where
  abbrev pub s : Instance
  s = box_of c e marks

  abbrev pub lo : ℕ → ℤ
  lo k = at e.lo k

  abbrev pub hi : ℕ → ℤ
  hi k = at e.hi k

  boxed : Boxed s lo hi
  boxed = record { lower = λ k l. refl; upper = λ k l. refl; order = λ k l. b k l }

  abbrev Before : ℕ → ℕ → Type 0
  Before j k = (times_sign (weight_of c k) (price_of c k) *ℤ pos (nat_abs (weight_of c j))) ≤ℤ
      (times_sign (weight_of c j) (price_of c j) *ℤ pos (nat_abs (weight_of c k)))

  ranked : Ranked s (rank_of c)
  ranked = record {
    falls = λ j k l m h nj nk. subst (λ i. Before j i) (o.item-rank k m) (subst (λ i. Before i (item_of c (rank_of c k))) (o.item-rank j l)
        (o.falls (rank_of c j) (rank_of c k) h (o.rank-in k m) (λ z. nj (subst (λ i. weight_of c i ≡ pos 0) (o.item-rank j l) z))
        (λ z. nk (subst (λ i. weight_of c i ≡ pos 0) (o.item-rank k m) z))));
    distinct = λ j k l m h. sym (o.item-rank j l) ∙ ap (item_of c) h ∙ o.item-rank k m;
  }

  -- an item whose rank is not live is idle, and the other way round
  late-idle : (k : ℕ) → k < c.count → c.live ≤ rank_of c k → Idle (weight_of c k) (price_of c k)
  late-idle k l h = subst (λ i. Idle (weight_of c i) (price_of c i)) (o.item-rank k l) (o.idle (rank_of c k) h (o.rank-in k l))

  live-busy : (k : ℕ) → k < c.count → rank_of c k < c.live → Idle (weight_of c k) (price_of c k) → ⊥
  live-busy k l h i = not-idle (weight_of c k) (price_of c k)
      (λ z. o.live-weight (rank_of c k) h (subst (λ j. weight_of c j ≡ pos 0) (sym (o.item-rank k l)) z))
      (subst (λ j. pos 0 <ℤ times_sign (weight_of c j) (price_of c j)) (o.item-rank k l) (o.live-rate (rank_of c k) h)) i

  stand-light : (t k : ℕ) → t ≤ rank_of c k → stand c e t k ≡ light_of c e k
  stand-light t k h = rw (le-ltb (rank_of c k) t h)

  stand-heavy : (t k : ℕ) → rank_of c k < t → stand c e t k ≡ heavy_of c e k
  stand-heavy t k h = rw (lt-ltb (rank_of c k) t h)

  at-light : (t k : ℕ) → t ≤ rank_of c k → LightAt (weight_of c k) (price_of c k) (lo k) (hi k) (stand c e t k)
  at-light t k h = rw (stand-light t k h) (is-lightest (weight_of c k) (price_of c k) (lo k) (hi k))

  at-heavy : (t k : ℕ) → rank_of c k < t → HeavyAt (weight_of c k) (lo k) (hi k) (stand c e t k)
  at-heavy t k h = rw (stand-heavy t k h) (is-heaviest (weight_of c k) (lo k) (hi k))

  -- where the filling stands at f
  pub record Good (f : Fill) : Type 0 where
    pub rank-in : f.at ≤ c.live
    pub inv : Inv s lo hi (rank_of c) f.at (stand c e f.at) f.room
    pub worth-is : valueᴰ s (stand c e f.at) ≡ f.worth

  begun-light : (a : ℕ → ℤ) → sum c.count (λ k. a k *ℤ stand c e 0 k) ≡ sum c.count (λ k. a k *ℤ light_of c e k)
  begun-light a = sum-cong c.count (λ k. a k *ℤ stand c e 0 k) (λ k. a k *ℤ light_of c e k) (λ k l. ap (λ z. a k *ℤ z) (stand-light 0 k (omega arith)))

  level : (w b : ℤ) → w +ℤ (b -ℤ w) ≡ b
  level = split2 _ (λ a b c e. simp zed (omega arith))

  begun-level : weighsᴰ s (stand c e 0) +ℤ (begun c e).room ≡ c.capacity
  begun-level = rw (begun-light (weight_of c)) (level (sum c.count (λ k. weight_of c k *ℤ light_of c e k)) c.capacity)

  begin-good : pos 0 ≤ℤ (begun c e).room → Good (begun c e)
  begin-good h = record {
    rank-in = omega arith;
    inv = begin s lo hi boxed (rank_of c) (stand c e 0) (begun c e).room (λ k l. at-light 0 k (omega arith)) begun-level h;
    worth-is = begun-light (price_of c);
  }

  -- the item of a live rank
  module _ (u : ℕ) (l : u < c.live) where
    u-in : u < c.count
    u-in = omega (arith, o.live_in)

    k-in : item_of c u < c.count
    k-in = o.item_in u u-in

    its-rank : rank_of c (item_of c u) ≡ u
    its-rank = o.rank-item u u-in

    -- nothing else changes when it is raised
    others : (j : ℕ) → j < c.count → j ≢ item_of c u → stand c e (u + 1) j ≡ stand c e u j
    others j m ne = go (ℕ_discrete (rank_of c j) u)
      where
        go : Dec (rank_of c j ≡ u) → stand c e (u + 1) j ≡ stand c e u j
        go (yes q) = absurd (ne (sym (o.item-rank j m) ∙ ap (item_of c) q))
        go (no q) = ap (λ t. cond t (heavy_of c e j) (light_of c e j)) (same (rank_of c j) q)
          where
            same : (v : ℕ) → (v ≡ u → ⊥) → ltb v (u + 1) ≡ ltb v u
            same v n = at-v (ltb v u) refl
              where
                at-v : (t : Bool) → ltb v u ≡ t → ltb v (u + 1) ≡ ltb v u
                at-v true h = lt-ltb v (u + 1) (omega (arith, ltb-true v u h)) ∙ sym h
                at-v false h = le-ltb v (u + 1) (omega (arith, ltb-false v u h)) ∙ sym h

    from-light : LightAt (weight_at c u) (price_of c (item_of c u)) (lo (item_of c u)) (hi (item_of c u)) (stand c e u (item_of c u))
    from-light = at-light u (item_of c u) (omega (arith, its-rank))

    to-heavy : HeavyAt (weight_at c u) (lo (item_of c u)) (hi (item_of c u)) (stand c e (u + 1) (item_of c u))
    to-heavy = at-heavy (u + 1) (item_of c u) (omega (arith, its-rank))

    raise-inv : (r : ℤ) → pos 0 ≤ℤ (r -ℤ at c.size u *ℤ width c e u) → Inv s lo hi (rank_of c) u (stand c e u) r
        → Inv s lo hi (rank_of c) (u + 1) (stand c e (u + 1)) (r -ℤ at c.size u *ℤ width c e u)
    raise-inv r h i = raise s lo hi boxed (rank_of c) ranked u (item_of c u) (stand c e u) (stand c e (u + 1)) r (r -ℤ at c.size u *ℤ width c e u)
        k-in its-rank (o.live-weight u l) (o.live-rate u l) others to-heavy
        (ap (λ z. r -ℤ z *ℤ width c e u) (o.sizes u l)) h i

    raise-worth : (w : ℤ) → valueᴰ s (stand c e u) ≡ w → valueᴰ s (stand c e (u + 1)) ≡ w +ℤ at c.rate u *ℤ width c e u
    raise-worth w h = sum-set c.count (price_of c) (stand c e u) (stand c e (u + 1)) (item_of c u) k-in others
        ∙ ap₂ ◌+ℤ◌ h (lift-price (weight_at c u) (price_of c (item_of c u)) (lo (item_of c u)) (hi (item_of c u)) (stand c e u (item_of c u))
        (stand c e (u + 1) (item_of c u)) (o.live-weight u l) from-light to-heavy
        ∙ ap (λ z. z *ℤ width c e u) (sym (o.rates u l)))

  -- the filling ends after the live ranks, or at one that does not fit
  pub record Stopped (f : Fill) : Type 0 where
    pub good : Good f
    pub why : (f.at ≡ c.live) ⊎ ((f.at < c.live) × (f.room <ℤ (at c.size f.at *ℤ width c e f.at)))

  raise-good : (f : Fill) → f.at < c.live → (at c.size f.at *ℤ width c e f.at) ≤ℤ f.room → Good f → Good (raised c e f)
  raise-good f l h g = record {
    rank-in = omega arith;
    inv = raise-inv f.at l f.room (≤ℤ-diff f.room (at c.size f.at *ℤ width c e f.at) h) g.inv;
    worth-is = raise-worth f.at l f.worth g.worth-is;
  }

  stops : (n : ℕ) (f : Fill) → f.at + n ≡ c.live → Good f → Stopped (fill_from c e n f)
  unfolding fill_from
  stops zero f h g = record { good = g; why = inl (omega arith) }
  stops (suc n) f h g = go (lt_z f.room (at c.size f.at *ℤ width c e f.at)) refl (λ g'. stops n (raised c e f) (omega arith) g')
    where
      go : (t : Bool) → lt_z f.room (at c.size f.at *ℤ width c e f.at) ≡ t → (Good (raised c e f) → Stopped (fill_from c e n (raised c e f)))
          → Stopped (cond t f (fill_from c e n (raised c e f)))
      go true q ih = record { good = g; why = inr (omega arith, yes_lt q) }
      go false q ih = ih (raise-good f (omega arith) (no_lt q) g)

  -- ---- the whole filling

  nonneg? : (r : ℤ) → (pos 0 ≤ℤ r) ⊎ (r <ℤ pos 0)
  nonneg? r = ≤ℤ-or-< (pos 0) r

  pub fill-stopped : pos 0 ≤ℤ (fill c e).room → Stopped (fill c e)
  fill-stopped h = go (nonneg? (begun c e).room)
    where
      go : (pos 0 ≤ℤ (begun c e).room) ⊎ ((begun c e).room <ℤ pos 0) → Stopped (fill c e)
      go (inl k) = rw (fill_on c e k) (stops c.live (begun c e) (omega arith) (begin-good k))
      go (inr k) = clash_ℤ k (subst (λ (f : Fill). pos 0 ≤ℤ f.room) (fill-begun c e k) h)

  pub fill-empty : (fill c e).room <ℤ pos 0 → (D : ℕ) (N : ℕ → ℤ) → 1 ≤ D → ¬ Feasibleᴰ s D N
  fill-empty h = go (nonneg? (begun c e).room)
    where
      go : (pos 0 ≤ℤ (begun c e).room) ⊎ ((begun c e).room <ℤ pos 0) → (D : ℕ) (N : ℕ → ℤ) → 1 ≤ D → ¬ Feasibleᴰ s D N
      go (inl k) = clash_ℤ h (rw (fill_on c e k) (stops c.live (begun c e) (omega arith) (begin-good k)).good.inv.room)
      go (inr k) = empty s 1 (stand c e 0) (too-heavy s lo hi boxed (stand c e 0) (begun c e).room (λ j l. at-light 0 j (omega arith)) begun-level k)

  -- ---- the solution

  plus-0 : (x : ℤ) → x +ℤ pos 0 ≡ x
  plus-0 = split _ (λ a b. simp zed (omega arith))

  times-1 : (x : ℤ) → x *ℤ pos 1 ≡ x
  times-1 = split _ (λ a b. simp zed (omega arith))

  feasible-cong : (D : ℕ) (N M : ℕ → ℤ) → Each c.count (λ k. N k ≡ M k) → Feasibleᴰ s D N → Feasibleᴰ s D M
  feasible-cong D N M h p = record {
    keeps = λ k l. subst (λ z. Keepsᴰ D (s.item k) z) (h k l) (p.keeps k l);
    fits = subst (λ z. z ≤ℤ (c.capacity *ℤ pos D)) (sum-cong c.count (λ k. weight_of c k *ℤ N k) (λ k. weight_of c k *ℤ M k)
        (λ k l. ap (λ z. weight_of c k *ℤ z) (h k l))) p.fits;
  }

  -- ---- the first end: all live ranks are raised

  module _ (f : Fill) (g : Good f) (all : f.at ≡ c.live) where
    slack : bound c f ≡ record { whole = f.worth; part = 0; parts = 1 }
    unfolding bound
    slack = rw (le-ltb f.at c.live (omega arith))

    slack-certificate : Certificate s 1 (stand c e f.at)
    slack-certificate = finish s lo hi boxed (rank_of c) ranked f.at (stand c e f.at) f.room g.inv (λ k l h. late-idle k l (omega arith))

    slack-solution : (k : ℕ) → stand c e f.at k ≡ solution c e f k
    slack-solution k = rw (slack, le-ltb f.at c.live (omega arith), times-1 (stand c e f.at k)) (sym (plus-0 (stand c e f.at k)))

    slack-over : valueᴰ s (stand c e f.at) ≡ over (bound c f)
    slack-over = g.worth-is ∙ rw slack (sym (plus-0 (f.worth *ℤ pos 1) ∙ times-1 f.worth))

  -- ---- the second end: the item of rank f .at takes the room

  module _ (f : Fill) (g : Good f) (l : f.at < c.live) (short : f.room <ℤ (at c.size f.at *ℤ width c e f.at)) where
    abbrev k : ℕ
    k = item_of c f.at

    abbrev q : ℕ
    q = nat_abs (weight_of c k)

    nz : weight_of c k ≢ pos 0
    nz = o.live-weight f.at l

    q≥1 : 1 ≤ q
    q≥1 = abs≥1 (weight_of c k) nz

    size_is : size_of c f ≡ q
    size_is = ap nat_abs (o.sizes f.at l)

    full : bound c f ≡ shared_by f q (rate_of c f)
    unfolding bound
    full = rw (lt-ltb f.at c.live l, size_is)

    parts_is : (bound c f).parts ≡ q
    parts_is = ap (λ (m : Mixed). m.parts) full

    others-stand : (j : ℕ) → j < c.count → j ≢ k → solution c e f j ≡ stand c e f.at j *ℤ pos q
    others-stand j m ne = rw (parts_is, lt-ltb f.at c.live l, ne_eqb (rank_of c j) f.at (λ h. ne (sym (o.item-rank j m) ∙ ap (item_of c) h)))
        (plus-0 (stand c e f.at j *ℤ pos q))

    own-stand : solution c e f k ≡ stand c e f.at k *ℤ pos q +ℤ unit (weight_of c k) *ℤ f.room
    own-stand = rw (parts_is, lt-ltb f.at c.live l, eq-eqb (rank_of c k) f.at (its-rank f.at l))

    need-is : at c.size f.at *ℤ width c e f.at ≡ pos q *ℤ (hi k -ℤ lo k)
    need-is = ap (λ z. z *ℤ width c e f.at) (o.sizes f.at l)

    at-limit : Critical s q (solution c e f)
    at-limit = critical s lo hi boxed (rank_of c) ranked f.at k (stand c e f.at) (solution c e f) f.room (k-in f.at l) (its-rank f.at l) nz
        (o.live-rate f.at l) (rw need-is at short) g.inv others-stand own-stand

    rate-is : at c.rate f.at ≡ pos (nat_abs (price_of c k))
    rate-is = o.rates f.at l ∙ times-sign-abs (weight_of c k) (price_of c k) (o.live-rate f.at l)

    -- at the critical item's ratio every item stands at its end
    at-ends : (j : ℕ) → j < c.count → Dec (j ≡ k) → AtEnd q (score (nat_abs (price_of c k)) q (weight_of c j) (price_of c j)) (s.item j)
        (stand c e f.at j *ℤ pos q)
    at-ends j m (yes h) =
        rw (
          h,
          own-score (nat_abs (price_of c k)) q (unit (weight_of c k)) (weight_of c k) (price_of c k) (unit-abs (weight_of c k))
              (price-abs (weight_of c k) (price_of c k) (o.live-rate f.at l)),
        ) (record { good = λ z. absurd z.lt; bad = λ z. absurd z.lt })
    at-ends j m (no h) = standing s lo hi boxed (rank_of c) ranked f.at k (stand c e f.at) f.room (k-in f.at l) (its-rank f.at l) nz
        (o.live-rate f.at l) g.inv j m h

    -- more weight than that of the whole amounts gains at most its price at the critical item
    pub fill-slope : (D : ℕ) (N : ℕ → ℤ) → ((j : ℕ) → j < c.count → Keepsᴰ D (s.item j) (N j))
        → (at c.size f.at *ℤ (valueᴰ s N -ℤ f.worth *ℤ pos D)) ≤ℤ (at c.rate f.at *ℤ (weighsᴰ s N -ℤ (c.capacity -ℤ f.room) *ℤ pos D))
    fill-slope D N h = rw (o.sizes f.at l, rate-is)
        (close p q D q≥1 (valueᴰ s N) (weighsᴰ s N) f.worth (c.capacity -ℤ f.room)
        (subst₂ (λ v w. (pos q *ℤ (valueᴰ s N *ℤ pos q) -ℤ pos p *ℤ (weighsᴰ s N *ℤ pos q)) ≤ℤ (pos q *ℤ (v *ℤ pos D) -ℤ pos p *ℤ (w *ℤ pos D)))
        (sum-times c.count (price_of c) (stand c e f.at) q ∙ ap (λ z. z *ℤ pos q) g.worth-is)
        (sum-times c.count (weight_of c) (stand c e f.at) q ∙ ap (λ z. z *ℤ pos q)
        (left (weighsᴰ s (stand c e f.at)) f.room c.capacity g.inv.level))
        (slope s p q q (λ j. stand c e f.at j *ℤ pos q) (λ j m. at-ends j m (ℕ_discrete j k)) D N (λ j m. within (h j m)))))
      where
        p : ℕ
        p = nat_abs (price_of c k)

        left : (w r b : ℤ) → w +ℤ r ≡ b → w ≡ b -ℤ r
        left = split3 _ (λ a b c e f g. simp zed (omega arith))

        close : (p q D : ℕ) → 1 ≤ q → (v w x y : ℤ) → (pos q *ℤ (v *ℤ pos q) -ℤ pos p *ℤ (w *ℤ pos q)) ≤ℤ
            (pos q *ℤ ((x *ℤ pos q) *ℤ pos D) -ℤ pos p *ℤ ((y *ℤ pos q) *ℤ pos D)) → (pos q *ℤ (v -ℤ x *ℤ pos D)) ≤ℤ (pos p *ℤ (w -ℤ y *ℤ pos D))
        close p q D q≥1 v w x y h =
            apart p q D v w x y (times-≤-back q (pos q *ℤ v -ℤ pos p *ℤ w) (pos q *ℤ (x *ℤ pos D) -ℤ pos p *ℤ (y *ℤ pos D)) q≥1
            (subst₂ ◌≤ℤ◌ (out p q v w) (out' p q D x y) h))
          where
            out : (p q : ℕ) (v w : ℤ) → pos q *ℤ (v *ℤ pos q) -ℤ pos p *ℤ (w *ℤ pos q) ≡ (pos q *ℤ v -ℤ pos p *ℤ w) *ℤ pos q
            out p q = split2 _ (λ a b c e. simp zed (omega arith))

            out' : (p q D : ℕ) (x y : ℤ) → pos q *ℤ ((x *ℤ pos q) *ℤ pos D) -ℤ pos p *ℤ ((y *ℤ pos q) *ℤ pos D) ≡
                (pos q *ℤ (x *ℤ pos D) -ℤ pos p *ℤ (y *ℤ pos D)) *ℤ pos q
            out' p q D = split2 _ (λ a b c e. simp zed (omega arith))

            apart : (p q D : ℕ) (v w x y : ℤ) → (pos q *ℤ v -ℤ pos p *ℤ w) ≤ℤ (pos q *ℤ (x *ℤ pos D) -ℤ pos p *ℤ (y *ℤ pos D))
                → (pos q *ℤ (v -ℤ x *ℤ pos D)) ≤ℤ (pos p *ℤ (w -ℤ y *ℤ pos D))
            apart p q D = split4 _ (λ a b c e f g h i. simp zed (omega arith))

    -- what the solution is worth
    value-is : valueᴰ s (solution c e f) ≡ f.worth *ℤ pos q +ℤ times_sign (weight_of c k) (price_of c k) *ℤ f.room
    value-is = sum-set c.count (price_of c) (λ j. stand c e f.at j *ℤ pos q) (solution c e f) k (k-in f.at l) others-stand
        ∙ ap₂ ◌+ℤ◌ (sum-times c.count (price_of c) (stand c e f.at) q ∙ ap (λ z. z *ℤ pos q) g.worth-is)
        (ap (λ z. price_of c k *ℤ (z -ℤ stand c e f.at k *ℤ pos q)) own-stand
        ∙ cancel (price_of c k) (stand c e f.at k *ℤ pos q) (unit (weight_of c k) *ℤ f.room) ∙ signed (weight_of c k) (price_of c k) f.room)
      where
        cancel : (p x y : ℤ) → p *ℤ ((x +ℤ y) -ℤ x) ≡ p *ℤ y
        cancel = split3 _ (λ a b c e f g. simp zed (omega arith))

        signed : (a p r : ℤ) → p *ℤ (unit a *ℤ r) ≡ times_sign a p *ℤ r
        signed (pos n) p r = up p r
          where
            up : (p r : ℤ) → p *ℤ (pos 1 *ℤ r) ≡ p *ℤ r
            up = split2 _ (λ a b c e. simp zed (omega arith))
        signed (negsuc n) p r = dn p r
          where
            dn : (p r : ℤ) → p *ℤ (negsuc 0 *ℤ r) ≡ neg_ℤ p *ℤ r
            dn = split2 _ (λ a b c e. simp zed (omega arith))

    over-is : over (bound c f) ≡ f.worth *ℤ pos q +ℤ times_sign (weight_of c k) (price_of c k) *ℤ f.room
    over-is = rw full (quotient f.worth (rate_of c f * nat_abs f.room) q ∙ ap (λ z. f.worth *ℤ pos q +ℤ z) product)
      where
        quotient : (w : ℤ) (x q : ℕ) → (w +ℤ pos (x / q)) *ℤ pos q +ℤ pos (x % q) ≡ w *ℤ pos q +ℤ pos x
        quotient w x q = go w (x / q) (x % q) (div-add-mod' x q)
          where
            go : (w : ℤ) (d m : ℕ) → d * q + m ≡ x → (w +ℤ pos d) *ℤ pos q +ℤ pos m ≡ w *ℤ pos q +ℤ pos x
            go = split _ (λ a b d m h. simp zed (omega arith))

        nonneg-mul : (x y : ℤ) → pos 0 ≤ℤ x → pos 0 ≤ℤ y → pos (nat_abs x * nat_abs y) ≡ x *ℤ y
        nonneg-mul (pos m) (pos n) h j = refl
        nonneg-mul (pos m) (negsuc n) h j = absurd j.le
        nonneg-mul (negsuc m) y h j = absurd h.le

        less : (x : ℤ) → pos 0 <ℤ x → pos 0 ≤ℤ x
        less = split _ (λ a b. simp zed (omega arith))

        product : pos (rate_of c f * nat_abs f.room) ≡ times_sign (weight_of c k) (price_of c k) *ℤ f.room
        product = ap (λ z. pos (nat_abs z * nat_abs f.room)) (o.rates f.at l)
            ∙ nonneg-mul (times_sign (weight_of c k) (price_of c k)) f.room (less _ (o.live-rate f.at l)) g.inv.room

  -- ---- what both ends give

  pub parts≥1 : (f : Fill) → Stopped f → 1 ≤ (bound c f).parts
  parts≥1 f t = go t.why
    where
      go : (f.at ≡ c.live) ⊎ ((f.at < c.live) × (f.room <ℤ (at c.size f.at *ℤ width c e f.at))) → 1 ≤ (bound c f).parts
      go (inl h) = rw (slack f t.good h) (omega arith)
      go (inr (h, j)) = rw (parts_is f t.good h j) (q≥1 f t.good h j)

  equal-≤ : (x y : ℤ) (m n : ℕ) → x ≡ y → m ≡ n → (x *ℤ pos m) ≤ℤ (y *ℤ pos n)
  equal-≤ x y m n h j = rw (h, j) (≤ℤ_refl (y *ℤ pos n))

  pub fill-bound : (f : Fill) → Stopped f → AtMost s (over (bound c f)) (bound c f).parts
  fill-bound f t = go t.why
    where
      go : (f.at ≡ c.live) ⊎ ((f.at < c.live) × (f.room <ℤ (at c.size f.at *ℤ width c e f.at))) → AtMost s (over (bound c f)) (bound c f).parts
      go (inl h) = leaf s (over (bound c f)) (bound c f).parts 1 (stand c e f.at) (omega arith) (slack-certificate f t.good h)
          (equal-≤ _ _ _ _ (slack-over f t.good h) (ap (λ (m : Mixed). m.parts) (slack f t.good h)))
      go (inr (h, j)) = leaf s (over (bound c f)) (bound c f).parts (q f t.good h j) (solution c e f) (q≥1 f t.good h j)
          (at-limit f t.good h j).proof (equal-≤ _ _ _ _ (value-is f t.good h j ∙ sym (over-is f t.good h j)) (parts_is f t.good h j))

  -- every integer item is fixed
  abbrev pub Fixed : Type 0
  Fixed = (j : ℕ) → j < c.count → marks j ≡ Integer → lo j ≡ hi j

  pub fill-value : (f : Fill) → Stopped f → valueᴰ s (solution c e f) ≡ over (bound c f)
  fill-value f t = go t.why
    where
      go : (f.at ≡ c.live) ⊎ ((f.at < c.live) × (f.room <ℤ (at c.size f.at *ℤ width c e f.at))) → valueᴰ s (solution c e f) ≡ over (bound c f)
      go (inl h) = sum-cong c.count (λ j. price_of c j *ℤ solution c e f j) (λ j. price_of c j *ℤ stand c e f.at j)
          (λ j l. ap (λ z. price_of c j *ℤ z) (sym (slack-solution f t.good h j))) ∙ slack-over f t.good h
      go (inr (h, j)) = value-is f t.good h j ∙ sym (over-is f t.good h j)

  -- a whole multiple keeps every mark, and a critical item is continuous
  keep-whole : (m : Mark) (q : ℕ) (x z : ℤ) → z ≡ x *ℤ pos q → KeepsMarkᴰ q m z
  keep-whole Integer q x z h = (x, h)
  keep-whole Continuous q x z h = tt

  keep-loose : (m : Mark) (q : ℕ) (z : ℤ) → (m ≡ Integer → ⊥) → KeepsMarkᴰ q m z
  keep-loose Integer q z h = absurd (h refl)
  keep-loose Continuous q z h = tt

  pub fill-point : Fixed → (f : Fill) → Stopped f → Feasibleᴰ s (bound c f).parts (solution c e f)
  fill-point fixed f t = go t.why
    where
      go : (f.at ≡ c.live) ⊎ ((f.at < c.live) × (f.room <ℤ (at c.size f.at *ℤ width c e f.at))) → Feasibleᴰ s (bound c f).parts (solution c e f)
      go (inl h) = subst (λ n. Feasibleᴰ s n (solution c e f)) (sym (ap (λ (m : Mixed). m.parts) (slack f t.good h)))
          (feasible-cong 1 (stand c e f.at) (solution c e f) (λ j l. slack-solution f t.good h j)
          (inv-feasible s lo hi boxed (rank_of c) ranked f.at (stand c e f.at) f.room t.good.inv))
      go (inr (h, j)) = subst (λ n. Feasibleᴰ s n (solution c e f)) (sym (parts_is f t.good h j)) (record {
        keeps = λ i l. record {
          marked = marked i l (ℕ_discrete i (k f t.good h j));
          above = ((at-limit f t.good h j).inside i l).above;
          below = ((at-limit f t.good h j).inside i l).below;
        };
        fits = level-fits (weighsᴰ s (solution c e f)) (c.capacity *ℤ pos (q f t.good h j)) (at-limit f t.good h j).proof.p
            (at-limit f t.good h j).p≥1 (at-limit f t.good h j).proof.tight;
      })
        where
          level-fits : (w b : ℤ) (p : ℕ) → 1 ≤ p → pos p *ℤ w ≡ pos p *ℤ b → w ≤ℤ b
          level-fits w b p l e = times-≤-back p w b l (swap w b e)
            where
              swap : (w b : ℤ) → pos p *ℤ w ≡ pos p *ℤ b → (w *ℤ pos p) ≤ℤ (b *ℤ pos p)
              swap = split2 _ (λ a b c e. simp zed (omega arith))

          -- a fixed item needs nothing, and the room is not below that
          no_room : (a l u r : ℤ) → l ≡ u → pos 0 ≤ℤ r → r <ℤ (a *ℤ (u -ℤ l)) → ⊥
          no_room a l u r same h full = none a u r h (subst (λ x. r <ℤ (a *ℤ (u -ℤ x))) same full)
            where
              none : (a u r : ℤ) → pos 0 ≤ℤ r → r <ℤ (a *ℤ (u -ℤ u)) → ⊥
              none = split3 _ (λ a b c e f g. simp zed (omega arith))

          marked : (i : ℕ) → i < c.count → Dec (i ≡ k f t.good h j) → KeepsMarkᴰ (q f t.good h j) (marks i) (solution c e f i)
          marked i l (yes x) = keep-loose (marks i) (q f t.good h j) (solution c e f i)
              (λ m. no_room (at c.size f.at) (lo i) (hi i) f.room (fixed i l m) t.good.inv.room (rw x j))
          marked i l (no x) = keep-whole (marks i) (q f t.good h j) (stand c e f.at i) (solution c e f i) (others-stand f t.good h j i l x)

  -- ---- starts

  -- the whole units that fit are no more than the width
  units_in : (n m : ℕ) (w : ℤ) → pos n <ℤ (pos m *ℤ w) → pos (n / m) ≤ℤ w
  units_in n m w h = go (≤ℤ-or-< (pos (n / m)) w)
    where
      clash : (w : ℤ) (d r : ℕ) → d * m + r ≡ n → pos n <ℤ (pos m *ℤ w) → w <ℤ pos d → ⊥
      clash = split _ (λ a b d r. simp zed (λ x y z. omega (arith, mul-le-mul_left m z)))

      go : (pos (n / m) ≤ℤ w) ⊎ (w <ℤ pos (n / m)) → pos (n / m) ≤ℤ w
      go (inl x) = x
      go (inr x) = absurd (clash w (n / m) (n % m) (div-add-mod' n m) h x)

  -- rounded up by a divisor below 0
  ceil-below : (n m : ℕ) → ceil_div (pos n) (negsuc m) ≡ neg_ℤ (pos (n / suc m))
  unfolding ceil_div floor_div floor_by
  ceil-below zero m = refl
  ceil-below (suc n) m = refl

  -- what just fits less than the width is between the ends
  fitted-in : (a l u : ℤ) (n : ℕ) → l ≤ℤ u → pos n <ℤ (pos (nat_abs a) *ℤ (u -ℤ l)) → (l ≤ℤ fitted a l u (pos n)) × (fitted a l u (pos n) ≤ℤ u)
  unfolding floor_div floor_by
  fitted-in (pos zero) l u n o h = (≤ℤ_refl l, o)
  fitted-in (pos (suc m)) l u n o h = rw (le-no not-below, lt_yes above) (rise l u (n / suc m) (units_in n (suc m) (u -ℤ l) h))
    where
      not-below : pos 0 ≤ℤ pos (suc m)
      not-below = simp zed (omega arith)

      above : pos 0 <ℤ pos (suc m)
      above = simp zed (omega arith)

      rise : (l u : ℤ) (d : ℕ) → pos d ≤ℤ (u -ℤ l) → (l ≤ℤ (l +ℤ pos d)) × ((l +ℤ pos d) ≤ℤ u)
      rise = split2 _ (λ a b c e d. simp zed (λ x. (omega arith, omega arith)))
  fitted-in (negsuc m) l u n o h =
      subst (λ z. (l ≤ℤ (u +ℤ z)) × ((u +ℤ z) ≤ℤ u)) (sym (ceil-below n m)) (sink l u (n / suc m) (units_in n (suc m) (u -ℤ l) h))
    where
      sink : (l u : ℤ) (d : ℕ) → pos d ≤ℤ (u -ℤ l) → (l ≤ℤ (u +ℤ neg_ℤ (pos d))) × ((u +ℤ neg_ℤ (pos d)) ≤ℤ u)
      sink = split2 _ (λ a b c e d. simp zed (λ x. (omega arith, omega arith)))

  light-inside : (j : ℕ) → j < c.count → (lo j ≤ℤ light_of c e j) × (light_of c e j ≤ℤ hi j)
  light-inside j l = light-in (weight_of c j) (price_of c j) (lo j) (hi j) (light_of c e j) (b j l) (is-lightest (weight_of c j) (price_of c j) (lo j) (hi j))

  heavy-inside : (j : ℕ) → j < c.count → (lo j ≤ℤ heavy_of c e j) × (heavy_of c e j ≤ℤ hi j)
  heavy-inside j l = go (lt_z (weight_of c j) (pos 0))
    where
      go : (t : Bool) → (lo j ≤ℤ cond t (lo j) (hi j)) × (cond t (lo j) (hi j) ≤ℤ hi j)
      go true = (≤ℤ_refl (lo j), b j l)
      go false = (b j l, ≤ℤ_refl (hi j))

  abbrev Inside : ℕ → ℤ → Type 0
  Inside j x = (lo j ≤ℤ x) × (x ≤ℤ hi j)

  pub start-inside : (j : ℕ) → j < c.count → Inside j (start c e (fill c e) j)
  unfolding start
  start-inside j l = empty? (lt_z f.room (pos 0)) refl
    where
      f : Fill
      f = fill c e

      raised-in : f.at < c.live → rank_of c j ≡ f.at → Stopped f → Inside j (fitted (weight_of c j) (lo j) (hi j) f.room)
      raised-in h r t = subst (λ z. Inside j (fitted (weight_of c j) (lo j) (hi j) z)) (nonneg-abs f.room t.good.inv.room)
          (fitted-in (weight_of c j) (lo j) (hi j) (nat_abs f.room) (b j l) (short t.why))
        where
          its : item_of c f.at ≡ j
          its = sym (ap (item_of c) r) ∙ o.item-rank j l

          nonneg-abs : (x : ℤ) → pos 0 ≤ℤ x → pos (nat_abs x) ≡ x
          nonneg-abs (pos n) x = refl
          nonneg-abs (negsuc n) x = absurd x.le

          size-abs : pos (nat_abs (weight_of c j)) ≡ at c.size f.at
          size-abs = ap (λ i. pos (nat_abs (weight_of c i))) (sym its) ∙ sym (o.sizes f.at h)

          short : (f.at ≡ c.live) ⊎ ((f.at < c.live) × (f.room <ℤ (at c.size f.at *ℤ width c e f.at)))
              → pos (nat_abs f.room) <ℤ (pos (nat_abs (weight_of c j)) *ℤ (hi j -ℤ lo j))
          short (inl x) = absurd (omega arith)
          short (inr (x, y)) = rw (nonneg-abs f.room t.good.inv.room, size-abs)
              (subst (λ i. f.room <ℤ (at c.size f.at *ℤ (at e.hi i -ℤ at e.lo i))) its y)

      live? : rank_of c j ≡ f.at → Stopped f → (x : Bool) → ltb f.at c.live ≡ x
          → Inside j (cond x (fitted (weight_of c j) (lo j) (hi j) f.room) (light_of c e j))
      live? r t true h = raised-in (ltb-true f.at c.live h) r t
      live? r t false h = light-inside j l

      own? : Stopped f → (x : Bool) → eqb (rank_of c j) f.at ≡ x → Inside j
          (cond x (cond (ltb f.at c.live) (fitted (weight_of c j) (lo j) (hi j) f.room) (light_of c e j)) (light_of c e j))
      own? t true h = live? (eqb-true (rank_of c j) f.at h) t (ltb f.at c.live) refl
      own? t false h = light-inside j l

      before? : Stopped f → (x : Bool) → Inside j (cond x (heavy_of c e j)
          (cond (eqb (rank_of c j) f.at) (cond (ltb f.at c.live) (fitted (weight_of c j) (lo j) (hi j) f.room) (light_of c e j)) (light_of c e j)))
      before? t true = heavy-inside j l
      before? t false = own? t (eqb (rank_of c j) f.at) refl

      empty? : (x : Bool) → lt_z f.room (pos 0) ≡ x → Inside j (cond x (light_of c e j)
          (cond (ltb (rank_of c j) f.at) (heavy_of c e j) (cond (eqb (rank_of c j) f.at)
          (cond (ltb f.at c.live) (fitted (weight_of c j) (lo j) (hi j) f.room) (light_of c e j)) (light_of c e j))))
      empty? true h = light-inside j l
      empty? false h = before? (fill-stopped (no_lt h)) (ltb (rank_of c j) f.at)
