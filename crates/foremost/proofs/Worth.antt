-- What the first point of a box is worth: the filling's bound, as for any other order of filling.
-- fill-worth: the whole amounts are worth what the filling says.  filling-worth: the point is worth its bound.
use mathlib.Core.Path.{◌≡◌, refl, sym, ap, ap₂, ◌∙◌}
use mathlib.Core.Bool.{Bool, true, false, cond}
use mathlib.Core.Logic.{◌≢◌}
use Prim.Native.Nat.{ℕ, zero, suc, ◌+◌, ◌*◌, ◌/◌, ◌%◌, ◌≤◌, ◌<◌}
use native.Mathlib.Omega.{arith}
use native.Mathlib.Nat.{div-add-mod'}
use native.Mathlib.Decide.{ℕ_discrete}
use lib.Dec.{ltb}
use lib.IntN.{ℤ, pos, negsuc, neg_ℤ, nat_abs, ◌+ℤ◌, ◌-ℤ◌, ◌*ℤ◌}
use lib.Signed.{◌≤ℤ◌, ◌<ℤ◌, lt_z}
use borrow.Author.Tests.{lt-ltb, le-ltb, ltb-true, ltb-false, eq-eqb, ne_eqb}
use Rattle.arith.proofs.Integers.{split, split2, split3, zed, ≤ℤ-reflexive}
use Rattle.arith.proofs.Mixes.{over}
use Rattle.arith.proofs.Sums.{bump-same, bump-other, sum_bump, sum-times}
use Rattle.arith.specs.Sum.{sum, bump}
use Rattle.arith.specs.Signs.{times_sign}
use Rattle.greedy.specs.declared.Columns.{Columns}
use Rattle.greedy.specs.declared.Ends.{Ends}
use Rattle.greedy.specs.declared.Fill.{Fill}
use Rattle.greedy.specs.Fill.{at, weight_of, price_of, item_of, rank_of, light_of, heavy_of, width, unit, begun, raised, fill_from, fill, bound, shared_by, size_of}
use Rattle.greedy.specs.Fill.{rate_of, stand, solution}
use Rattle.greedy.proofs.Relaxed.{box_of}
use Rattle.greedy.proofs.Sides.{is-lightest, is-heaviest, lift-price}
use Rattle.knapsack.proofs.Common.{valueᴰ}
use Rattle.knapsack.specs.Meaning.{Instance}
use Rattle.knapsack.specs.declared.Mark.{Mark}
use Rattle.foremost.proofs.Foremost.{total-cong}
use Rattle.foremost.specs.Tied.{Live, worth, sinks, Tied, Rated}
use Rattle.foremost.proofs.Filling.{filling}

-- a sum with one place changed
sum-set : (n : ℕ) (a e e' : ℕ → ℤ) (k : ℕ) → k < n → ((j : ℕ) → j < n → j ≢ k → e' j ≡ e j)
    → sum n (λ j. a j *ℤ e' j) ≡ sum n (λ j. a j *ℤ e j) +ℤ a k *ℤ (e' k -ℤ e k)
sum-set n a e e' k l h = total-cong n a e' (bump e k (e' k -ℤ e k)) (λ j m. at_j j m (ℕ_discrete j k)) ∙ sum_bump n a e k (e' k -ℤ e k) l
  where
    diff : (x y : ℤ) → x ≡ y +ℤ (x -ℤ y)
    diff = split2 _ (λ a b c e. simp zed (omega arith))

    at_j : (j : ℕ) → j < n → Dec (j ≡ k) → e' j ≡ bump e k (e' k -ℤ e k) j
    at_j j m (yes q) = rw (q, bump-same e k (e' k -ℤ e k)) (diff (e' k) (e k))
    at_j j m (no q) = h j m q ∙ sym (bump-other e k (e' k -ℤ e k) j q)

ltb_next : (v u : ℕ) → (v ≡ u → ⊥) → ltb v (u + 1) ≡ ltb v u
ltb_next v u n = go (ltb v u) refl
  where
    go : (t : Bool) → ltb v u ≡ t → ltb v (u + 1) ≡ ltb v u
    go true h = lt-ltb v (u + 1) (omega (arith, ltb-true v u h)) ∙ sym h
    go false h = le-ltb v (u + 1) (omega (arith, ltb-false v u h)) ∙ sym h

module _ (c : Columns) (e : Ends) (marks : ℕ → Mark) (o : Tied c) (rated : Rated c) where
  abbrev n : ℕ
  n = c.count

  abbrev box : Instance
  box = box_of c e marks

  -- the item of a live rank is raised
  module _ (u : ℕ) (l : u < c.live) where
    abbrev k : ℕ
    k = item_of c u

    u-in : u < n
    u-in = omega (arith, o.live_in)

    k-in : k < n
    k-in = o.item_in u u-in

    its-rank : rank_of c k ≡ u
    its-rank = o.rank-item u u-in

    others : (j : ℕ) → j < n → j ≢ k → stand c e (u + 1) j ≡ stand c e u j
    others j m ne = ap (λ t. cond t (heavy_of c e j) (light_of c e j)) (ltb_next (rank_of c j) u (λ q. ne (sym (o.item-rank j m) ∙ ap (item_of c) q)))

    is-light : stand c e u k ≡ light_of c e k
    is-light = rw (le-ltb (rank_of c k) u (omega (arith, its-rank)))

    is-heavy : stand c e (u + 1) k ≡ heavy_of c e k
    is-heavy = rw (lt-ltb (rank_of c k) (u + 1) (omega (arith, its-rank)))

    raised-worth : valueᴰ box (stand c e (u + 1)) ≡ valueᴰ box (stand c e u) +ℤ at c.rate u *ℤ width c e u
    raised-worth = sum-set n (price_of c) (stand c e u) (stand c e (u + 1)) k k-in others
        ∙ ap (λ z. valueᴰ box (stand c e u) +ℤ z) (ap₂ (λ x y. price_of c k *ℤ (x -ℤ y)) is-heavy is-light
        ∙ lift-price (weight_of c k) (price_of c k) (at e.lo k) (at e.hi k) (light_of c e k) (heavy_of c e k) (o.live-weight u l)
        (is-lightest (weight_of c k) (price_of c k) (at e.lo k) (at e.hi k)) (is-heaviest (weight_of c k) (at e.lo k) (at e.hi k))
        ∙ ap (λ z. z *ℤ width c e u) (sym (rated u l)))

  abbrev Counts : Fill → Type 0
  Counts f = (f.at ≤ c.live) × (valueᴰ box (stand c e f.at) ≡ f.worth)

  from-counts : (m : ℕ) (f : Fill) → f.at + m ≡ c.live → Counts f → Counts (fill_from c e m f)
  unfolding fill_from
  from-counts zero f h w = w
  from-counts (suc m) f h w = go (lt_z f.room (at c.size f.at *ℤ width c e f.at))
      (from-counts m (raised c e f) (omega arith)
      (omega arith, raised-worth f.at (omega arith) ∙ ap (λ z. z +ℤ at c.rate f.at *ℤ width c e f.at) w.1))
    where
      go : (t : Bool) → Counts (fill_from c e m (raised c e f)) → Counts (cond t f (fill_from c e m (raised c e f)))
      go true i = w
      go false i = i

  begun-counts : Counts (begun c e)
  begun-counts = (omega arith, total-cong n (price_of c) (stand c e 0) (light_of c e) (λ k l. rw (le-ltb (rank_of c k) 0 (omega arith))))

  pub fill-worth : Counts (fill c e)
  unfolding fill
  fill-worth = go (lt_z (begun c e).room (pos 0))
    where
      go : (t : Bool) → Counts (cond t (begun c e) (fill_from c e c.live (begun c e)))
      go true = begun-counts
      go false = from-counts c.live (begun c e) (omega arith) begun-counts

  -- ---- the point

  plus-0 : (x : ℤ) → x +ℤ pos 0 ≡ x
  plus-0 = split _ (λ a b. simp zed (omega arith))

  times-1 : (x : ℤ) → x *ℤ pos 1 ≡ x
  times-1 = split _ (λ a b. simp zed (omega arith))

  all-raised : (f : Fill) → Counts f → f.at ≡ c.live → valueᴰ box (solution c e f) ≡ over (bound c f)
  unfolding bound
  all-raised f w h = rw (le-ltb f.at c.live (omega arith))
      (total-cong n (price_of c) (λ j. stand c e f.at j *ℤ pos 1 +ℤ pos 0) (stand c e f.at)
      (λ j l. plus-0 (stand c e f.at j *ℤ pos 1) ∙ times-1 (stand c e f.at j)) ∙ w.1 ∙ sym (plus-0 (f.worth *ℤ pos 1) ∙ times-1 f.worth))

  module _ (f : Fill) (w : Counts f) (l : f.at < c.live) (room : pos 0 ≤ℤ f.room) where
    abbrev i : ℕ
    i = item_of c f.at

    abbrev q : ℕ
    q = size_of c f

    full : bound c f ≡ shared_by f q (rate_of c f)
    unfolding bound
    full = rw (lt-ltb f.at c.live l)

    others-stand : (j : ℕ) → j < n → j ≢ i → solution c e f j ≡ stand c e f.at j *ℤ pos q
    others-stand j m ne = rw (full, lt-ltb f.at c.live l, ne_eqb (rank_of c j) f.at (λ h. ne (sym (o.item-rank j m) ∙ ap (item_of c) h)))
        (plus-0 (stand c e f.at j *ℤ pos q))

    own-stand : solution c e f i ≡ stand c e f.at i *ℤ pos q +ℤ unit (weight_of c i) *ℤ f.room
    own-stand = rw (full, lt-ltb f.at c.live l, eq-eqb (rank_of c i) f.at (its-rank f.at l))

    value-is : valueᴰ box (solution c e f) ≡ f.worth *ℤ pos q +ℤ times_sign (weight_of c i) (price_of c i) *ℤ f.room
    value-is = sum-set n (price_of c) (λ j. stand c e f.at j *ℤ pos q) (solution c e f) i (k-in f.at l) others-stand
        ∙ ap₂ ◌+ℤ◌ (sum-times n (price_of c) (stand c e f.at) q ∙ ap (λ z. z *ℤ pos q) w.1)
        (ap (λ z. price_of c i *ℤ (z -ℤ stand c e f.at i *ℤ pos q)) own-stand
        ∙ cancel (price_of c i) (stand c e f.at i *ℤ pos q) (unit (weight_of c i) *ℤ f.room) ∙ signed (weight_of c i) (price_of c i) f.room)
      where
        cancel : (p x y : ℤ) → p *ℤ ((x +ℤ y) -ℤ x) ≡ p *ℤ y
        cancel = split3 _ (λ a b c e f g. simp zed (omega arith))

        signed : (a p r : ℤ) → p *ℤ (unit a *ℤ r) ≡ times_sign a p *ℤ r
        signed (pos n) p r = up p r
          where
            up : (p r : ℤ) → p *ℤ (pos 1 *ℤ r) ≡ p *ℤ r
            up = split2 _ (λ a b c e. simp zed (omega arith))
        signed (negsuc n) p r = dn p r
          where
            dn : (p r : ℤ) → p *ℤ (negsuc 0 *ℤ r) ≡ neg_ℤ p *ℤ r
            dn = split2 _ (λ a b c e. simp zed (omega arith))

    live-nonneg : {a r : ℤ} → Live a r → pos 0 ≤ℤ r
    live-nonneg {a} {r} (worth h) = weak r h
      where
        weak : (x : ℤ) → pos 0 <ℤ x → pos 0 ≤ℤ x
        weak = split _ (λ a b. simp zed (omega arith))
    live-nonneg {a} {r} (sinks h z) = ≤ℤ-reflexive (sym z)

    over-is : over (bound c f) ≡ f.worth *ℤ pos q +ℤ times_sign (weight_of c i) (price_of c i) *ℤ f.room
    over-is = rw full (quotient f.worth (rate_of c f * nat_abs f.room) q ∙ ap (λ z. f.worth *ℤ pos q +ℤ z) product)
      where
        quotient : (w : ℤ) (x q : ℕ) → (w +ℤ pos (x / q)) *ℤ pos q +ℤ pos (x % q) ≡ w *ℤ pos q +ℤ pos x
        quotient w x q = go w (x / q) (x % q) (div-add-mod' x q)
          where
            go : (w : ℤ) (d m : ℕ) → d * q + m ≡ x → (w +ℤ pos d) *ℤ pos q +ℤ pos m ≡ w *ℤ pos q +ℤ pos x
            go = split _ (λ a b d m h. simp zed (omega arith))

        nonneg-mul : (x y : ℤ) → pos 0 ≤ℤ x → pos 0 ≤ℤ y → pos (nat_abs x * nat_abs y) ≡ x *ℤ y
        nonneg-mul (pos m) (pos n) h j = refl
        nonneg-mul (pos m) (negsuc n) h j = absurd j.le
        nonneg-mul (negsuc m) y h j = absurd h.le

        product : pos (rate_of c f * nat_abs f.room) ≡ times_sign (weight_of c i) (price_of c i) *ℤ f.room
        product = ap (λ z. pos (nat_abs z * nat_abs f.room)) (rated f.at l)
            ∙ nonneg-mul (times_sign (weight_of c i) (price_of c i)) f.room (live-nonneg (o.live-rate f.at l)) room

  pub filling-worth : pos 0 ≤ℤ (fill c e).room → valueᴰ box (filling c e) ≡ over (bound c (fill c e))
  filling-worth room = go (ℕ_discrete (fill c e).at c.live)
    where
      go : Dec ((fill c e).at ≡ c.live) → valueᴰ box (filling c e) ≡ over (bound c (fill c e))
      go (yes h) = all-raised (fill c e) fill-worth h
      go (no h) = let l : (fill c e).at < c.live = omega (arith, fill-worth.0) in
          value-is (fill c e) fill-worth l room ∙ sym (over-is (fill c e) fill-worth l room)
