-- A nearer box: what the reach of a problem covers, and that a narrowed setting is prepared at that reach.
-- most-covers, most-small: the greatest weight and bound are at least each item's, and in range.
-- reach-small, span_small: the reach and a span are within the general ones. near-optimal, near-empty: spans are enough.
-- near-spanned: what an item weighs from end to end of that box is within 900,000,000.
use mathlib.Core.Path.{◌≡◌, refl, sym, ap, ap₂, ◌∙◌}
use mathlib.Core.Bool.{Bool, true, false, cond}
use mathlib.Core.List.{List}
use mathlib.Core.Logic.{inl, inr}
use Prim.Native.Nat.{ℕ, zero, suc, ◌+◌, ◌*◌, ◌/◌, ◌≤◌, ◌<◌}
use native.Mathlib.Decide.{dec_lt, ℕ_discrete}
use native.Mathlib.Nat.{mul-le-mul, mul-le-mul_left, mul-le-mul_right, div-add-mod, div-le_self, mod-lt}
use native.Mathlib.Omega.{arith}
use borrow.Author.Tests.{ltb-true, ltb-false}
use lib.Dec.{ltb}
use lib.IntN.{ℤ, pos, neg_ℤ, nat_abs, ◌+ℤ◌, ◌-ℤ◌}
use lib.ListN.{length, get_or-eq_default}
use lib.Signed.{◌≤ℤ◌, ◌<ℤ◌, ≤ℤ_refl, lt_z}
use Rattle.arith.specs.Limits.{farthest}
use Rattle.arith.specs.Sum.{sum}
use Rattle.arith.specs.Within.{Within}
use Rattle.arith.proofs.Integers.{split, split2, zed, nat_abs-neg, ≤ℤ-trans, ≤ℤ-antisym}
use Rattle.arith.proofs.Parts.{neg-within, abs-within}
use Rattle.arith.proofs.Words.{yes_lt, no_lt, le-no}
use Rattle.knapsack.proofs.Common.{Feasibleᴰ, Optimalᴰ}
use Rattle.knapsack.proofs.Reach.{NoRay, AroundAt, Open, RangesAt, Reaches, shut_at, reach-empty-at, reach-optimal-at}
use Rattle.knapsack.specs.Meaning.{Instance, instance_of}
use Rattle.knapsack.specs.Items.{is_absent, is_open}
use Rattle.knapsack.specs.Ranges.{item_at, BoundInRange, ItemInRange, InRange}
use Rattle.std.specs.Prelude.{Option, None, Some}
use Rattle.knapsack.specs.declared.Item.{Item}
use Rattle.knapsack.specs.declared.Problem.{Problem}
use Rattle.greedy.specs.Fill.{at, weight_of}
use Rattle.setting.specs.Box.{level_at}
use Rattle.setting.specs.declared.Setting.{Setting}
use Rattle.prepare.specs.Figures.{end_or}
use Rattle.prepare.specs.Narrowing.{larger, bound_size, open_weight, grown_by, most_of, own_bound, lead_by, burden_of, reach_of, span_by, span_of, clamp_to}
use Rattle.prepare.specs.Narrowing.{Narrowed, Small}
use Rattle.prepare.specs.declared.Reach.{Reach}
use Rattle.prepare.specs.Prepared.{PreparedAt, Prepared}

-- ---- the greatest figures

pub larger-left : (a b : ℕ) → a ≤ larger a b
larger-left a b = go (ltb a b) refl
  where
    go : (t : Bool) → ltb a b ≡ t → a ≤ cond t b a
    go true e = let h = ltb-true a b e in omega arith
    go false e = omega arith

larger-right : (a b : ℕ) → b ≤ larger a b
larger-right a b = go (ltb a b) refl
  where
    go : (t : Bool) → ltb a b ≡ t → b ≤ cond t b a
    go true e = omega arith
    go false e = let h = ltb-false a b e in omega arith

larger-most : (a b m : ℕ) → a ≤ m → b ≤ m → larger a b ≤ m
larger-most a b m h k = go (ltb a b)
  where
    go : (t : Bool) → cond t b a ≤ m
    go true = k
    go false = h

bound-small : (b : Option ℤ) → BoundInRange b → bound_size b ≤ 10000
bound-small None h = omega arith
bound-small (Some v) h = h

-- the weight of an open item is at most that of an item
open-small : (a m : ℕ) (t : Bool) → a ≤ m → cond t a 0 ≤ m
open-small a m true h = h
open-small a m false h = omega arith

pub own-small : (i : Item) → ItemInRange i → own_bound i ≤ 10000
own-small i r = larger-most (bound_size i.lower) (bound_size i.upper) 10000 (bound-small i.lower r.lower_in) (bound-small i.upper r.upper_in)

pub lead-small : (a : ℕ) (i : Item) → a ≤ 1000 → ItemInRange i → lead_by a i ≤ 11000
lead-small a i h r = omega (arith, own-small i r, open-small a 1000 (is_open i) h)

module _ (p : Problem) (r : InRange p) where
  pub most-small : (n : ℕ) → n ≤ p.count → ((most_of p n).weight ≤ 1000) × ((most_of p n).bound ≤ 10000)
  unfolding most_of
  most-small zero h = (omega arith, omega arith)
  most-small (suc n) h =
      let m = most-small n (omega arith) in
      let i = r.items-in n h in (
        larger-most (most_of p n).weight (open_weight (item_at p n)) 1000 m.0
            (open-small (nat_abs (item_at p n).weight) 1000 (is_open (item_at p n)) i.weight-in),
        larger-most (larger (most_of p n).bound (bound_size (item_at p n).lower)) (bound_size (item_at p n).upper) 10000
            (larger-most (most_of p n).bound (bound_size (item_at p n).lower) 10000 m.1 (bound-small (item_at p n).lower i.lower_in))
            (bound-small (item_at p n).upper i.upper_in),
      )

  pub burden-small : (a n : ℕ) → a ≤ 1000 → n ≤ p.count → burden_of p a n ≤ n * 11000000
  unfolding burden_of
  burden-small a zero h l = omega arith
  burden-small a (suc n) h l =
      omega (arith, burden-small a n h (omega arith), mul-le-mul (r.items-in n l).weight-in (lead-small a (item_at p n) h (r.items-in n l)))

  pub reach-small : Small (reach_of p)
  unfolding reach_of
  reach-small = record {
    weight-in = omega (arith, r.few-items, r.capacity-in, a≤, burden-small A p.count a≤ (omega arith));
    amount-in = omega (arith, a≤, b≤);
  }
    where
      A : ℕ
      A = (most_of p p.count).weight

      B : ℕ
      B = (most_of p p.count).bound

      a≤ : A ≤ 1000
      a≤ = (most-small p.count (omega arith)).0

      b≤ : B ≤ 10000
      b≤ = (most-small p.count (omega arith)).1

pub span_small : (r : Reach) → Small r → (a : ℤ) → span_by r a ≤ farthest
span_small r z a = omega (arith, z.weight-in, z.amount-in, div-le_self r.weight (larger 1 (nat_abs a)))

-- each of the first n items is covered
pub record Covers (p : Problem) (a b k : ℕ) : Type 0 where
  pub weight : open_weight (item_at p k) ≤ a
  pub lower : bound_size (item_at p k).lower ≤ b
  pub upper : bound_size (item_at p k).upper ≤ b

pub most-covers : (p : Problem) (n k : ℕ) → k < n → Covers p (most_of p n).weight (most_of p n).bound k
unfolding most_of
most-covers p zero k h = absurd (omega arith)
most-covers p (suc n) k h = go (ℕ_discrete k n) (most-covers p n k)
  where
    M : ℕ
    M = larger (most_of p n).bound (bound_size (item_at p n).lower)

    go : Dec (k ≡ n) → (k < n → Covers p (most_of p n).weight (most_of p n).bound k)
        → Covers p (grown_by (most_of p n) (item_at p n)).weight (grown_by (most_of p n) (item_at p n)).bound k
    go (yes q) ih = rw q (record {
      weight = larger-right (most_of p n).weight (open_weight (item_at p n));
      lower = omega (arith, larger-right (most_of p n).bound (bound_size (item_at p n).lower), larger-left M (bound_size (item_at p n).upper));
      upper = larger-right M (bound_size (item_at p n).upper);
    })
    go (no q) ih = let c = ih (omega arith) in record {
      weight = omega (arith, c.weight, larger-left (most_of p n).weight (open_weight (item_at p n)));
      lower = omega (arith, c.lower, larger-left (most_of p n).bound (bound_size (item_at p n).lower), larger-left M (bound_size (item_at p n).upper));
      upper = omega (arith, c.upper, larger-left (most_of p n).bound (bound_size (item_at p n).lower), larger-left M (bound_size (item_at p n).upper));
    }

-- ---- the reach is enough

module _ (p : Problem) (range : InRange p) where
  abbrev I : Instance
  I = instance_of p

  abbrev A : ℕ
  A = (most_of p p.count).weight

  abbrev B : ℕ → ℕ
  B k = own_bound (item_at p k)

  around : (b : Option ℤ) (m : ℕ) → bound_size b ≤ m → AroundAt m b
  around None m h = tt
  around (Some v) m h = h

  -- an item that lacks a bound is open
  is_open_lem : (k : ℕ) → Open (I.item k) → is_open (item_at p k) ≡ true
  is_open_lem k (inl e) = rw e
  is_open_lem k (inr e) = rw e (either (is_absent (item_at p k).lower))
    where
      either : (b : Bool) → cond b true true ≡ true
      either true = refl
      either false = refl

  pub ranges : RangesAt A B (nat_abs p.capacity) I
  ranges = record {
    light = λ k l o. rw (is_open_lem k o) at (most-covers p p.count k l).weight;
    lowers = λ k l. around (item_at p k).lower (B k) (larger-left (bound_size (item_at p k).lower) (bound_size (item_at p k).upper));
    uppers = λ k l. around (item_at p k).upper (B k) (larger-right (bound_size (item_at p k).lower) (bound_size (item_at p k).upper));
    limited = omega arith;
  }

  larger-one : (a : ℕ) → 1 ≤ a → larger 1 a ≡ a
  larger-one a h = go (ltb 1 a) refl
    where
      go : (t : Bool) → ltb 1 a ≡ t → cond t a 1 ≡ a
      go true e = refl
      go false e = let l = ltb-false 1 a e in omega arith

  -- an amount that weighs w
  covers : (f w a : ℕ) → 1 ≤ a → w ≤ a * (f + w / a + 1)
  covers f w a h = omega (arith, div-add-mod w a, mod-lt w h)

  burden-is : (a n : ℕ) → pos (burden_of p a n) ≡ sum n (λ k. pos (nat_abs (item_at p k).weight * lead_by a (item_at p k)))
  unfolding burden_of
  burden-is a zero = refl
  burden-is a (suc n) = more (burden_of p a n) (nat_abs (item_at p n).weight * lead_by a (item_at p n))
      ∙ ap (λ z. z +ℤ pos (nat_abs (item_at p n).weight * lead_by a (item_at p n))) (burden-is a n)
    where
      more : (a b : ℕ) → pos (a + b) ≡ pos a +ℤ pos b
      more a b = simp zed (omega arith)

  T : ℕ
  T = burden_of p A p.count

  pub reaches : Reaches A B (nat_abs p.capacity) I (span_of p)
  unfolding reach_of T
  reaches = record {
    lead = λ k. lead_by A (item_at p k);
    near = λ k l. omega arith;
    back-far = λ k l o. rw (is_open_lem k o) (omega arith);
    total = T;
    total-is = burden-is A p.count;
    enough = λ k l h. rw (larger-one (nat_abs (item_at p k).weight) h) (covers ((most_of p p.count).bound + A) (nat_abs p.capacity + T + A)
        (nat_abs (item_at p k).weight) h);
    far = λ k l. omega (arith, lead≤ k l);
  }
    where
      lead≤ : (k : ℕ) → k < p.count → lead_by A (item_at p k) ≤ (most_of p p.count).bound + A
      lead≤ k l = let c = most-covers p p.count k l in omega (
        arith,
        larger-most (bound_size (item_at p k).lower) (bound_size (item_at p k).upper) (most_of p p.count).bound c.lower c.upper,
        open-small A A (is_open (item_at p k)) (omega arith),
      )

  -- what holds of the problem closed at its spans holds of the problem
  pub near-optimal : NoRay I → (E : ℕ) (M : ℕ → ℤ) → Optimalᴰ (shut_at (span_of p) I) E M → Optimalᴰ I E M
  near-optimal = reach-optimal-at I ranges reaches

  pub near-empty : NoRay I → ((D : ℕ) (N : ℕ → ℤ) → 1 ≤ D → ¬ Feasibleᴰ (shut_at (span_of p) I) D N) → (D : ℕ) (N : ℕ → ℤ) → 1 ≤ D → ¬ Feasibleᴰ I D N
  near-empty = reach-empty-at I ranges reaches

-- ---- a narrowed setting

clamp-low : (r : ℕ) (x : ℤ) → x ≤ℤ neg_ℤ (pos r) → clamp_to r x ≡ neg_ℤ (pos r)
clamp-low r x h = go (lt_z x (neg_ℤ (pos r))) refl
  where
    same : (x y : ℤ) → x ≤ℤ y → y ≤ℤ x → x ≡ y
    same x y a b = ≤ℤ-antisym a b

    between : (n : ℕ) → neg_ℤ (pos n) ≤ℤ pos n
    between n = simp zed (omega arith)

    go : (t : Bool) → lt_z x (neg_ℤ (pos r)) ≡ t → cond t (neg_ℤ (pos r)) (cond (lt_z (pos r) x) (pos r) x) ≡ neg_ℤ (pos r)
    go true e = refl
    go false e = let q = same x (neg_ℤ (pos r)) h (no_lt e) in rw (q, le-no (between r))

clamp-high : (r : ℕ) (x : ℤ) → pos r ≤ℤ x → clamp_to r x ≡ pos r
clamp-high r x h = go (lt_z (pos r) x) refl
  where
    above : (n : ℕ) (x : ℤ) → pos n ≤ℤ x → neg_ℤ (pos n) ≤ℤ x
    above n = split _ (λ a b. simp zed (omega arith))

    go : (t : Bool) → lt_z (pos r) x ≡ t → cond (lt_z x (neg_ℤ (pos r))) (neg_ℤ (pos r)) (cond t (pos r) x) ≡ pos r
    go true e = rw (le-no (above r x h))
    go false e = rw (le-no (above r x h)) (≤ℤ-antisym (no_lt e) h)

clamp-same : (r : ℕ) (x : ℤ) → nat_abs x ≤ r → clamp_to r x ≡ x
clamp-same r x h = rw (le-no (low r x h), le-no (high r x h))
  where
    low : (n : ℕ) (x : ℤ) → nat_abs x ≤ n → neg_ℤ (pos n) ≤ℤ x
    low n = split _ (λ a b. simp zed (omega arith))

    high : (n : ℕ) (x : ℤ) → nat_abs x ≤ n → x ≤ℤ pos n
    high n = split _ (λ a b. simp zed (omega arith))

clamp-within : {m : ℕ} (r : ℕ) (x : ℤ) → r ≤ m → Within m (clamp_to r x)
clamp-within {m} r x h = go (lt_z x (neg_ℤ (pos r))) refl (lt_z (pos r) x) refl
  where
    inside : (n : ℕ) (x : ℤ) → neg_ℤ (pos n) ≤ℤ x → x ≤ℤ pos n → nat_abs x ≤ n
    inside n = split _ (λ a b. simp zed (omega arith))

    go : (t : Bool) → lt_z x (neg_ℤ (pos r)) ≡ t → (u : Bool) → lt_z (pos r) x ≡ u → Within m (cond t (neg_ℤ (pos r)) (cond u (pos r) x))
    go true e u f = neg-within r h
    go false e true f = record { above = h; below = omega arith }
    go false e false f = abs-within x (omega (arith, h, inside r x (no_lt e) (no_lt f)))

clamp-mono : (r : ℕ) (x y : ℤ) → x ≤ℤ y → clamp_to r x ≤ℤ clamp_to r y
clamp-mono r x y h = go (lt_z x (neg_ℤ (pos r))) refl (lt_z (pos r) x) refl (lt_z y (neg_ℤ (pos r))) refl (lt_z (pos r) y) refl
  where
    both : (n : ℕ) → neg_ℤ (pos n) ≤ℤ pos n
    both n = simp zed (omega arith)

    clash : (x y : ℤ) → x <ℤ y → y ≤ℤ x → ⊥
    clash = split2 _ (λ a b c e. simp zed (omega arith))

    go : (a : Bool) → lt_z x (neg_ℤ (pos r)) ≡ a → (b : Bool) → lt_z (pos r) x ≡ b → (c : Bool) → lt_z y (neg_ℤ (pos r)) ≡ c → (d : Bool) → lt_z (pos r) y ≡ d
        → cond a (neg_ℤ (pos r)) (cond b (pos r) x) ≤ℤ cond c (neg_ℤ (pos r)) (cond d (pos r) y)
    go true e b f true g d k = ≤ℤ_refl (neg_ℤ (pos r))
    go true e b f false g true k = both r
    go true e b f false g false k = no_lt g
    go false e b f true g d k = absurd (clash y (neg_ℤ (pos r)) (yes_lt g) (≤ℤ-trans (no_lt e) h))
    go false e true f false g true k = ≤ℤ_refl (pos r)
    go false e true f false g false k = absurd (clash (pos r) x (yes_lt f) (≤ℤ-trans h (no_lt k)))
    go false e false f false g true k = no_lt f
    go false e false f false g false k = h

-- an absent bound was closed beyond the span, and a bound is within it
low_end : (r : ℕ) → r ≤ farthest → (b : Option ℤ) → bound_size b ≤ r → clamp_to r (end_or b (neg_ℤ (pos farthest))) ≡ end_or b (neg_ℤ (pos r))
low_end r l None h = clamp-low r (neg_ℤ (pos farthest)) (far farthest r l)
  where
    far : (m r : ℕ) → r ≤ m → neg_ℤ (pos m) ≤ℤ neg_ℤ (pos r)
    far m r h = simp zed (omega arith)
low_end r l (Some v) h = clamp-same r v h

high_end_lem : (r : ℕ) → r ≤ farthest → (b : Option ℤ) → bound_size b ≤ r → clamp_to r (end_or b (pos farthest)) ≡ end_or b (pos r)
high_end_lem r l None h = clamp-high r (pos farthest) (far farthest r l)
  where
    far : (m r : ℕ) → r ≤ m → pos r ≤ℤ pos m
    far m r h = simp zed (omega arith)
high_end_lem r l (Some v) h = clamp-same r v h

module _ (p : Problem) (range : InRange p) (s t : Setting) (q : Prepared p s) (n : Narrowed s (reach_of p) t) where
  -- the span of item k
  abbrev S : ℕ → ℕ
  S k = span_by (reach_of p) (weight_of s.cols k)

  small : (a : ℤ) → span_by (reach_of p) a ≤ farthest
  small = span_small (reach_of p) (reach-small p range)

  bounds≤ : (k : ℕ) → (most_of p p.count).bound ≤ span_of p k
  unfolding reach_of
  bounds≤ k = omega arith

  item<16 : (k : ℕ) → k < p.count → k < 16
  item<16 k h = omega (arith, range.few-items)

  ends-in : (xs : List ℤ) → length xs ≡ 16 → (f : ℕ → ℤ) → ((k : ℕ) → k < 16 → at xs k ≡ clamp_to (S k) (f k)) → (k : ℕ) → Within farthest (at xs k)
  ends-in xs l f h k = go (dec_lt k 16)
    where
      go : Dec (k < 16) → Within farthest (at xs k)
      go (yes m) = rw (h k m) (clamp-within (S k) (f k) (small (weight_of s.cols k)))
      go (no m) = rw (get_or-eq_default xs (pos 0) {n = k} (omega (arith, l))) (record { above = omega arith; below = omega arith })

  -- the ends of an item of the problem
  ends_at : (xs : List ℤ) (f : ℕ → ℤ) (k : ℕ) (x : ℤ) → k < p.count → at xs k ≡ clamp_to (S k) (f k) → f k ≡ x → at xs k ≡ clamp_to (span_of p k) x
  ends_at xs f k x h e g = e ∙ ap₂ (λ (a y : ℤ). clamp_to (span_by (reach_of p) a) y) (q.weights k h) g

  pub narrowed-prepared : PreparedAt (span_of p) p t
  narrowed-prepared = made t n.cols n.level n.levels n.lattice n.lo n.hi n.low n.high n.lengths
    where
      made : (t : Setting) → t.cols ≡ s.cols → t.level ≡ s.level → t.levels ≡ s.levels → t.lattice ≡ s.lattice
          → ((k : ℕ) → k < 16 → at t.ends.lo k ≡ clamp_to (S k) (at s.ends.lo k))
          → ((k : ℕ) → k < 16 → at t.ends.hi k ≡ clamp_to (S k) (at s.ends.hi k))
          → ((d : ℕ) → d < s.levels → at t.low d ≡ at t.ends.lo (level_at s d))
          → ((d : ℕ) → d < s.levels → at t.high d ≡ at t.ends.hi (level_at s d))
          → (length t.ends.lo ≡ 16) × (length t.ends.hi ≡ 16) → PreparedAt (span_of p) p t
      made t ec el en ea lo hi low high long = record {
        count = rw ec q.count;
        capacity = rw ec q.capacity;
        weights = rw ec q.weights;
        prices = rw ec q.prices;
        lows = λ k h. ends_at t.ends.lo (at s.ends.lo) k _ h (lo k (item<16 k h)) (q.lows k h)
            ∙ low_end (span_of p k) (small (item_at p k).weight) (item_at p k).lower (omega (arith, (most-covers p p.count k h).lower, bounds≤ k));
        highs = λ k h. ends_at t.ends.hi (at s.ends.hi) k _ h (hi k (item<16 k h)) (q.highs k h)
            ∙ high_end_lem (span_of p k) (small (item_at p k).weight) (item_at p k).upper (omega (arith, (most-covers p p.count k h).upper, bounds≤ k));
        ready = record {
          sized = record {
            columns = rw ec q.ready.sized.columns;
            ends =
                record {
                  lo-in = ends-in t.ends.lo long.0 (λ k. at s.ends.lo k) lo;
                  hi-in = ends-in t.ends.hi long.1 (λ k. at s.ends.hi k) hi;
                };
          };
          ordered = rw ec q.ready.ordered;
          in_order = λ k h. let m : k < s.cols.count = rw ec at h in let f : k < 16 = omega (arith, q.count, range.few-items) in
              rw (lo k f, hi k f) (clamp-mono (S k) (at s.ends.lo k) (at s.ends.hi k) (q.ready.in_order k m));
          few = rw en q.ready.few;
          level_in = rw (ec, el, en) q.ready.level_in;
          distinct = rw (el, en) q.ready.distinct;
          low-is = λ d h. let m : d < s.levels = rw en at h in rw el (low d m);
          high_is = λ d h. let m : d < s.levels = rw en at h in rw el (high d m);
          tame = rw ea q.ready.tame;
          changes = λ d h nz.
              let m : d < s.levels = rw en at h in
              let c = q.ready.changes d m (rw ea at nz) in
              record {
                fixed = λ k l f. let x : k < s.cols.count = rw ec at l in let y : k < 16 = omega (arith, q.count, range.few-items) in
                    lo k y ∙ ap (clamp_to (S k)) (c.fixed k x (rw (el, en) at f)) ∙ sym (hi k y);
                on = rw (ec, el, en, ea) c.on;
              };
        };
        marked = record { integer = rw (el, en) q.marked.integer; level = rw (ec, el, en) q.marked.level };
        arranged = record {
          columned = rw ec q.arranged.columned;
          box = q.arranged.box;
          boxed = q.arranged.boxed;
          sorted = rw (ec, el) q.arranged.sorted;
          leads = rw (el, en) q.arranged.leads;
          latticing = rw (el, en, ea) q.arranged.latticing;
        };
      }

-- ---- what the box weighs

module _ (p : Problem) (range : InRange p) (s : Setting) (q : PreparedAt (span_of p) p s) where
  -- an end is a bound or the span away
  end-small : (b : Option ℤ) (n : ℕ) (x : ℤ) → BoundInRange b → nat_abs x ≤ n → nat_abs (end_or b x) ≤ 10000 + n
  end-small None n x r h = omega (arith, h)
  end-small (Some v) n x r h = let k : nat_abs v ≤ 10000 = r in omega (arith, k)

  width_small : (m : ℕ) (l h : ℤ) → nat_abs l ≤ m → nat_abs h ≤ m → nat_abs (h -ℤ l) ≤ 2 * m
  width_small m = split2 _ (λ a b c d. simp zed (omega arith))

  -- what the span of an item of weight a weighs
  span-weighs : (r : Reach) → Small r → (a w : ℕ) → a ≤ 1000 → w ≤ 2 * (10000 + (r.amount + r.weight / larger 1 a + 1)) → a * w ≤ 900000000
  span-weighs r z a w l h = go r.amount r.weight (r.weight / larger 1 a) z.amount-in z.weight-in
      (omega (arith, mul-le-mul_right (r.weight / larger 1 a) (larger-right 1 a), div-add-mod r.weight (larger 1 a))) h
    where
      go : (m t n : ℕ) → m ≤ 11000 → t ≤ 280000000 → a * n ≤ t → w ≤ 2 * (10000 + (m + n + 1)) → a * w ≤ 900000000
      go m t n hm ht hn hw = omega (arith, mul-le-mul_left a hw, mul-le-mul l hm, l, hn)

  pub near-spanned : (k : ℕ) → k < s.cols.count → nat_abs (weight_of s.cols k) * nat_abs (at s.ends.hi k -ℤ at s.ends.lo k) ≤ 900000000
  near-spanned k h =
      let l : k < p.count = omega (arith, q.count) in
      let i = range.items-in k l in
      let x = end_or (item_at p k).lower (neg_ℤ (pos (span_of p k))) in
      let y = end_or (item_at p k).upper (pos (span_of p k)) in
      let lo = end-small (item_at p k).lower (span_of p k) (neg_ℤ (pos (span_of p k))) i.lower_in (omega (arith, nat_abs-neg (pos (span_of p k)))) in
      let hi = end-small (item_at p k).upper (span_of p k) (pos (span_of p k)) i.upper_in (omega arith) in
      rw (q.weights k l, q.lows k l, q.highs k l)
      (span-weighs (reach_of p) (reach-small p range) (nat_abs (item_at p k).weight) (nat_abs (y -ℤ x)) i.weight-in
      (width_small (10000 + span_of p k) x y lo hi))
