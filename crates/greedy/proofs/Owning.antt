-- A filling's amounts over their items' own divisors are those over the divisor of its bound.
-- none-or-critical: only the critical item takes of the room.  parts-critical: its weight is the divisor of the bound.
-- fill-begun, fill_on: a filling from its begin on.  fill-short: a filling that stops at a live rank has no room for it.  fixed-fits: so that item is not fixed.
-- fill-over: each amount over its own divisor, where every whole item is fixed.
use mathlib.Core.Path.{◌≡◌, refl, sym, ap, ◌∙◌, subst}
use mathlib.Core.Bool.{Bool, true, false, cond}
use mathlib.Core.List.{List}
use mathlib.Core.Logic.{◌⊎◌, inl, inr}
use Prim.Native.Nat.{ℕ, zero, suc, ◌+◌, ◌≤◌, ◌<◌}
use native.Mathlib.Omega.{arith}
use lib.Dec.{ltb, eqb}
use lib.IntN.{ℤ, pos, nat_abs, ◌+ℤ◌, ◌-ℤ◌, ◌*ℤ◌}
use lib.Signed.{◌≤ℤ◌, ◌<ℤ◌, lt_z, clash_ℤ}
use borrow.Author.Tests.{lt-ltb, ltb-true, eqb-true}
use Rattle.arith.specs.Fractions.{frac}
use Rattle.arith.proofs.Fractions.{Over}
use Rattle.arith.proofs.Integers.{split, split2, zed, ≤ℤ-or-<}
use Rattle.arith.proofs.Words.{yes_lt, lt_yes, le-no}
use Rattle.knapsack.specs.Meaning.{weight_divisor}
use Rattle.greedy.specs.declared.Columns.{Columns}
use Rattle.greedy.specs.declared.Ends.{Ends}
use Rattle.greedy.specs.declared.Fill.{Fill}
use Rattle.greedy.specs.Amounts.{whole_in, divisor_in}
use Rattle.greedy.specs.Fill.{at, weight_of, item_of, rank_of, width, begun, raised, fill_from, fill, bound, unit, stand, taken, numerator}
use Rattle.greedy.specs.Ordered.{weight_at}

-- ---- the critical item

-- item k is the one where the filling f stops
abbrev pub CriticalAt : Columns → Fill → ℕ → Type 0
CriticalAt c f k = (rank_of c k ≡ f.at) × (f.at < c.live)

pub none-or-critical : (c : Columns) (f : Fill) (k : ℕ) → (taken c f k ≡ pos 0) ⊎ CriticalAt c f k
none-or-critical c f k = go (ltb f.at c.live) (eqb (rank_of c k) f.at) refl refl
  where
    go : (b t : Bool) → ltb f.at c.live ≡ b → eqb (rank_of c k) f.at ≡ t
        → (cond b (cond t (unit (weight_of c k) *ℤ f.room) (pos 0)) (pos 0) ≡ pos 0) ⊎ CriticalAt c f k
    go false t x y = inl refl
    go true false x y = inl refl
    go true true x y = inr (eqb-true (rank_of c k) f.at y, ltb-true f.at c.live x)

-- the divisor of a filling that ends at a live rank is that item's weight
pub parts-critical : (c : Columns) (f : Fill) → ((u : ℕ) → u < c.live → at c.size u ≡ pos (nat_abs (weight_at c u))) → (k : ℕ)
    → item_of c (rank_of c k) ≡ k → CriticalAt c f k → (bound c f).parts ≡ nat_abs (weight_of c k)
unfolding bound
parts-critical c f sizes k i (r, h) =
    rw (lt-ltb f.at c.live h, sizes f.at h) (ap (λ (j : ℕ). nat_abs (weight_of c j)) (ap (item_of c) (sym r) ∙ i))

-- ---- where a filling stops

module _ (c : Columns) (e : Ends) where
  -- the rank where f stops does not fit
  abbrev Short : Fill → Type 0
  Short f = f.at < c.live → f.room <ℤ (at c.size f.at *ℤ width c e f.at)

  short-from : (n : ℕ) (f : Fill) → c.live ≤ f.at + n → Short (fill_from c e n f)
  unfolding fill_from
  short-from zero f h = λ l. absurd (omega arith)
  short-from (suc n) f h = go (lt_z f.room (at c.size f.at *ℤ width c e f.at)) refl (short-from n (raised c e f) (omega arith))
    where
      go : (t : Bool) → lt_z f.room (at c.size f.at *ℤ width c e f.at) ≡ t → Short (fill_from c e n (raised c e f))
          → Short (cond t f (fill_from c e n (raised c e f)))
      go true q ih = λ l. yes_lt q
      go false q ih = ih

  pub fill-begun : (begun c e).room <ℤ pos 0 → fill c e ≡ begun c e
  unfolding fill
  fill-begun h = rw (lt_yes h)

  pub fill_on : pos 0 ≤ℤ (begun c e).room → fill c e ≡ fill_from c e c.live (begun c e)
  unfolding fill
  fill_on h = rw (le-no h)

  pub fill-short : pos 0 ≤ℤ (fill c e).room → Short (fill c e)
  fill-short h = go (≤ℤ-or-< (pos 0) (begun c e).room)
    where
      go : (pos 0 ≤ℤ (begun c e).room) ⊎ ((begun c e).room <ℤ pos 0) → Short (fill c e)
      go (inl k) = rw (fill_on k) (short-from c.live (begun c e) (omega arith))
      go (inr k) = clash_ℤ k (subst (λ (f : Fill). pos 0 ≤ℤ f.room) (fill-begun k) h)

  -- a fixed item always fits
  pub fixed-fits : pos 0 ≤ℤ (fill c e).room → (k : ℕ) → item_of c (rank_of c k) ≡ k → at e.lo k ≡ at e.hi k → CriticalAt c (fill c e) k → ⊥
  fixed-fits h k i q (r, l) = clash_ℤ (subst (λ z. (fill c e).room <ℤ z) none (fill-short h l)) h
    where
      none-at : (s x y : ℤ) → x ≡ y → s *ℤ (y -ℤ x) ≡ pos 0
      none-at s x y q = rw q (nothing s y)
        where
          nothing : (s y : ℤ) → s *ℤ (y -ℤ y) ≡ pos 0
          nothing = split2 _ (λ a b c d. simp zed (omega arith))

      own : item_of c (fill c e).at ≡ k
      own = ap (item_of c) (sym r) ∙ i

      none : at c.size (fill c e).at *ℤ width c e (fill c e).at ≡ pos 0
      none = none-at (at c.size (fill c e).at) (at e.lo (item_of c (fill c e).at)) (at e.hi (item_of c (fill c e).at)) (rw own q)

-- ---- amounts over their own divisors

-- over d and over D: nothing is taken, or d is D
both : (c : Columns) (e : Ends) (f : Fill) (k d D : ℕ) → (CriticalAt c f k → d ≡ D) → numerator c e f d k *ℤ pos D ≡ numerator c e f D k *ℤ pos d
both c e f k d D own = go (none-or-critical c f k)
  where
    whole : (x : ℤ) → (x *ℤ pos d +ℤ pos 0) *ℤ pos D ≡ (x *ℤ pos D +ℤ pos 0) *ℤ pos d
    whole = split _ (λ a b. simp zed (omega arith))

    go : (taken c f k ≡ pos 0) ⊎ CriticalAt c f k → numerator c e f d k *ℤ pos D ≡ numerator c e f D k *ℤ pos d
    go (inl t) = rw t (whole (stand c e f.at k))
    go (inr h) = rw (own h)

pub divisor-some : (c : Columns) (w : List Bool) (k : ℕ) → 1 ≤ divisor_in c w k
divisor-some c w k = go (whole_in w k)
  where
    go : (b : Bool) → 1 ≤ cond b 1 (weight_divisor (weight_of c k))
    go true = omega arith
    go false = omega arith

module _ (c : Columns) (e : Ends) (w : List Bool) (item-rank : (k : ℕ) → k < c.count → item_of c (rank_of c k) ≡ k)
    (sizes : (u : ℕ) → u < c.live → at c.size u ≡ pos (nat_abs (weight_at c u))) (D≥1 : 1 ≤ (bound c (fill c e)).parts)
    (fixed : (k : ℕ) → k < c.count → whole_in w k ≡ true → at e.lo k ≡ at e.hi k) (room : pos 0 ≤ℤ (fill c e).room) where
  -- the critical item's own divisor is that of the bound
  own-critical : (k : ℕ) → k < c.count → CriticalAt c (fill c e) k → divisor_in c w k ≡ (bound c (fill c e)).parts
  own-critical k l h = go (whole_in w k) refl
    where
      size : (bound c (fill c e)).parts ≡ nat_abs (weight_of c k)
      size = parts-critical c (fill c e) sizes k (item-rank k l) h

      go : (b : Bool) → whole_in w k ≡ b → cond b 1 (weight_divisor (weight_of c k)) ≡ (bound c (fill c e)).parts
      go true q = absurd (fixed-fits c e room k (item-rank k l) (fixed k l q) h)
      go false q = omega (arith, size, D≥1)

  pub fill-over : (k : ℕ) → k < c.count
      → Over (bound c (fill c e)).parts (frac (numerator c e (fill c e) (divisor_in c w k) k) (divisor_in c w k)) (numerator c e (fill c e) (bound c (fill c e)).parts k)
  fill-over k l = record {
    eq = both c e (fill c e) k (divisor_in c w k) (bound c (fill c e)).parts (own-critical k l)
        ∙ ap (λ (d : ℕ). numerator c e (fill c e) (bound c (fill c e)).parts k *ℤ pos d) (omega (arith, divisor-some c w k));
  }
