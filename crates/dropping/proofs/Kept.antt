-- Laws of kept places.
-- rank-none, rank-kept, rank_left: no place, a place more; rank_mono, rank-strict, rank-injective, rank_most: ranks rise at kept places, no faster than
-- places; rank-all: as fast where all are kept.
--   place keep n j   the kept place before n that goes to j
--   Source n j       a kept place of the first n that goes to j
-- place-rank, at-rank: ranks below the last are those of kept places, each of one. place_in, place_kept, place-goes, place-rises: which these are.
-- filled-with: a list of one thing. length-packed, packed-at, packed-behind: a packed list, what stands in it and behind.
-- rank-cong, packed-cong: tests that agree.
-- first-here, first-later, first-none: a search for the first place; first-false: none before it passes; first-all: where none does it goes to the end.
use mathlib.Core.Bool.{Bool, true, false, cond}
use mathlib.Core.Path.{◌≡◌, refl, sym, ap, ◌∙◌, subst}
use Prim.Native.Nat.{ℕ, zero, suc, ◌+◌, ◌-◌, ◌≤◌, ◌<◌}
use native.Mathlib.Omega.{arith}
use native.Mathlib.Decide.{ℕ_discrete, dec_lt}
use borrow.Author.Tests.{eq-eqb, ne_eqb}
use lib.Dec.{eqb}
use lib.ListN.{length, get_or, set, replicate, length-set, length-replicate, get_or-replicate, get_or-eq_default}
use lib.Seq.{get_or-set_same, get_or-set_other}
use Rattle.arith.specs.Sum.{Each}
use Rattle.dropping.specs.Kept.{rank, packed, first_from}

-- the kept place before n that goes to j
unfoldable pub place : (ℕ → Bool) → ℕ → ℕ → ℕ
place keep zero j = 0
place keep (suc n) j = cond (cond (keep n) (eqb (rank keep n) j) false) n (place keep n j)

pub filled-with : {A : Type 0} (n : ℕ) (d : A) (k : ℕ) → get_or (replicate n d) k d ≡ d
filled-with n d k = go (dec_lt k n)
  where
    go : Dec (k < n) → get_or (replicate n d) k d ≡ d
    go (yes h) = get_or-replicate n k d d h
    go (no h) = get_or-eq_default (replicate n d) d {n = k} (omega (arith, length-replicate n d))

module _ (keep : ℕ → Bool) where
  pub rank-kept : (k : ℕ) → keep k ≡ true → rank keep (suc k) ≡ suc (rank keep k)
  unfolding rank
  rank-kept k e = rw e

  pub rank_left : (k : ℕ) → keep k ≡ false → rank keep (suc k) ≡ rank keep k
  unfolding rank
  rank_left k e = rw e

  pub rank-none : rank keep 0 ≡ 0
  unfolding rank
  rank-none = refl

  -- a place more: the rank rises by 1, or stays
  next : (k : ℕ) → (b : Bool) → keep k ≡ b → (rank keep k ≤ rank keep (suc k)) × (rank keep (suc k) ≤ suc (rank keep k))
  next k true e = (omega (arith, rank-kept k e), omega (arith, rank-kept k e))
  next k false e = (omega (arith, rank_left k e), omega (arith, rank_left k e))

  pub rank_mono : (n k : ℕ) → k ≤ n → rank keep k ≤ rank keep n
  rank_mono zero k h = let e : k ≡ 0 = omega arith in rw e (omega arith)
  rank_mono (suc n) k h = go (ℕ_discrete k (suc n)) (λ m. rank_mono n k m)
    where
      go : Dec (k ≡ suc n) → (k ≤ n → rank keep k ≤ rank keep n) → rank keep k ≤ rank keep (suc n)
      go (yes e) ih = rw e (omega arith)
      go (no e) ih = omega (arith, ih (omega arith), (next n (keep n) refl).0)

  pub rank-strict : (n k : ℕ) → k < n → keep k ≡ true → rank keep k < rank keep n
  rank-strict n k h e = omega (arith, rank-kept k e, rank_mono n (suc k) (omega arith))

  -- no two kept places have one rank
  pub rank-injective : (k m : ℕ) → keep k ≡ true → keep m ≡ true → rank keep k ≡ rank keep m → k ≡ m
  rank-injective k m e f h = go (dec_lt k m) (dec_lt m k)
    where
      go : Dec (k < m) → Dec (m < k) → k ≡ m
      go (yes l) r = absurd (omega (arith, rank-strict m k l e))
      go (no l) (yes r) = absurd (omega (arith, rank-strict k m r f))
      go (no l) (no r) = omega arith

  pub rank_most : (n : ℕ) → rank keep n ≤ n
  rank_most zero = omega (arith, rank-none)
  rank_most (suc n) = omega (arith, rank_most n, (next n (keep n) refl).1)

  -- where every place is kept, none moves
  pub rank-all : (n : ℕ) → Each n (λ k. keep k ≡ true) → rank keep n ≡ n
  rank-all zero h = rank-none
  rank-all (suc n) h = rank-kept n (h n (omega arith)) ∙ ap suc (rank-all n (λ k l. h k (omega arith)))

  -- ---- the place of a rank

  place_here : (n j : ℕ) → keep n ≡ true → rank keep n ≡ j → place keep (suc n) j ≡ n
  unfolding place
  place_here n j e h = rw (e, eq-eqb (rank keep n) j h)

  place_other : (n j : ℕ) → (rank keep n ≡ j → ⊥) → place keep (suc n) j ≡ place keep n j
  unfolding place
  place_other n j h = go (keep n)
    where
      go : (b : Bool) → cond (cond b (eqb (rank keep n) j) false) n (place keep n j) ≡ place keep n j
      go true = rw (ne_eqb (rank keep n) j h)
      go false = refl

  place-left : (n j : ℕ) → keep n ≡ false → place keep (suc n) j ≡ place keep n j
  unfolding place
  place-left n j e = rw e

  pub place-rank : (n k : ℕ) → k < n → keep k ≡ true → place keep n (rank keep k) ≡ k
  place-rank zero k h e = absurd (omega arith)
  place-rank (suc n) k h e = go (ℕ_discrete k n) (keep n) refl (λ m. place-rank n k m e)
    where
      go : Dec (k ≡ n) → (b : Bool) → keep n ≡ b → (k < n → place keep n (rank keep k) ≡ k) → place keep (suc n) (rank keep k) ≡ k
      go (yes d) b f ih = place_here n (rank keep k) (ap keep (sym d) ∙ e) (ap (rank keep) (sym d)) ∙ sym d
      go (no d) true f ih = place_other n (rank keep k) (λ r. omega (arith, rank-strict n k (omega arith) e)) ∙ ih (omega arith)
      go (no d) false f ih = place-left n (rank keep k) f ∙ ih (omega arith)

  -- a kept place of the first n that goes to j
  pub record Source (n j : ℕ) : Type 0 where
    pub from : ℕ
    pub from_in : from < n
    pub from-kept : keep from ≡ true
    pub goes : rank keep from ≡ j

  pub at-rank : (n j : ℕ) → j < rank keep n → Source n j
  at-rank zero j h = absurd (omega (arith, rank-none))
  at-rank (suc n) j h = go (keep n) refl (ℕ_discrete (rank keep n) j) (λ m. at-rank n j m)
    where
      more : Source n j → Source (suc n) j
      more s = record { from = s.from; from_in = omega (arith, s.from_in); from-kept = s.from-kept; goes = s.goes }

      go : (b : Bool) → keep n ≡ b → Dec (rank keep n ≡ j) → (j < rank keep n → Source n j) → Source (suc n) j
      go true e (yes d) ih = record { from = n; from_in = omega arith; from-kept = e; goes = d }
      go true e (no d) ih = more (ih (omega (arith, rank-kept n e)))
      go false e d ih = more (ih (omega (arith, rank_left n e)))

  -- below the last rank that is the place told
  place-from : (n j : ℕ) (h : j < rank keep n) → place keep n j ≡ (at-rank n j h).from
  place-from n j h = let c = at-rank n j h in subst (λ i. place keep n i ≡ c.from) c.goes (place-rank n c.from c.from_in c.from-kept)

  pub place_in : (n j : ℕ) → j < rank keep n → place keep n j < n
  place_in n j h = rw (place-from n j h) (at-rank n j h).from_in

  pub place_kept : (n j : ℕ) → j < rank keep n → keep (place keep n j) ≡ true
  place_kept n j h = rw (place-from n j h) (at-rank n j h).from-kept

  pub place-goes : (n j : ℕ) → j < rank keep n → rank keep (place keep n j) ≡ j
  place-goes n j h = rw (place-from n j h) (at-rank n j h).goes

  -- later ranks are those of later places
  pub place-rises : (n i j : ℕ) → i < j → j < rank keep n → place keep n i < place keep n j
  place-rises n i j l h = go (dec_lt (place keep n i) (place keep n j))
    where
      go : Dec (place keep n i < place keep n j) → place keep n i < place keep n j
      go (yes d) = d
      go (no d) =
          absurd (omega (arith, place-goes n i (omega arith), place-goes n j h, rank_mono (place keep n i) (place keep n j) (omega arith)))

  -- ---- packed lists

  module _ {A : Type 0} (d : A) (f : ℕ → A) where
    packed-kept : (n : ℕ) → keep n ≡ true → packed d keep f (suc n) ≡ set (packed d keep f n) (rank keep n) (f n)
    unfolding packed
    packed-kept n e = rw e

    packed-left : (n : ℕ) → keep n ≡ false → packed d keep f (suc n) ≡ packed d keep f n
    unfolding packed
    packed-left n e = rw e

    packed_none : packed d keep f 0 ≡ replicate 16 d
    unfolding packed
    packed_none = refl

    pub length-packed : (n : ℕ) → length (packed d keep f n) ≡ 16
    length-packed zero = ap length packed_none ∙ length-replicate 16 d
    length-packed (suc n) = go (keep n) refl (length-packed n)
      where
        go : (b : Bool) → keep n ≡ b → length (packed d keep f n) ≡ 16 → length (packed d keep f (suc n)) ≡ 16
        go true e ih = rw (packed-kept n e) (simp length-set ih)
        go false e ih = rw (packed-left n e) ih

    -- a kept item stands at its rank
    pub packed-at : (n k : ℕ) → n ≤ 16 → k < n → keep k ≡ true → get_or (packed d keep f n) (rank keep k) d ≡ f k
    packed-at zero k m h e = absurd (omega arith)
    packed-at (suc n) k m h e = go (ℕ_discrete k n) (keep n) refl (λ o. packed-at n k (omega arith) o e)
      where
        go : Dec (k ≡ n) → (b : Bool) → keep n ≡ b → (k < n → get_or (packed d keep f n) (rank keep k) d ≡ f k)
            → get_or (packed d keep f (suc n)) (rank keep k) d ≡ f k
        go (yes c) b g ih =
            rw (c, packed-kept n (ap keep (sym c) ∙ e)) (get_or-set_same (packed d keep f n) (rank keep n) (f n) d
            (omega (arith, length-packed n, rank_most n)))
        go (no c) true g ih =
            rw (packed-kept n g) (get_or-set_other (packed d keep f n) (rank keep n) (rank keep k) (f n) d
            (λ r. omega (arith, rank-strict n k (omega arith) e)) ∙ ih (omega arith))
        go (no c) false g ih = rw (packed-left n g) (ih (omega arith))

    -- behind the kept ones d stays
    pub packed-behind : (n j : ℕ) → rank keep n ≤ j → get_or (packed d keep f n) j d ≡ d
    packed-behind zero j h = rw packed_none (filled-with 16 d j)
    packed-behind (suc n) j h = go (keep n) refl (packed-behind n j)
      where
        go : (b : Bool) → keep n ≡ b → (rank keep n ≤ j → get_or (packed d keep f n) j d ≡ d) → get_or (packed d keep f (suc n)) j d ≡ d
        go true e ih =
            rw (packed-kept n e) (get_or-set_other (packed d keep f n) (rank keep n) j (f n) d (λ r. omega (arith, rank-kept n e))
            ∙ ih (omega (arith, rank-kept n e)))
        go false e ih = rw (packed-left n e) (ih (omega (arith, rank_left n e)))

-- ---- two tests that agree

pub rank-cong : (keep held : ℕ → Bool) (n : ℕ) → Each n (λ k. keep k ≡ held k) → rank keep n ≡ rank held n
unfolding rank
rank-cong keep held zero h = refl
rank-cong keep held (suc n) h = rw (h n (omega arith), rank-cong keep held n (λ k l. h k (omega arith)))

pub packed-cong : {A : Type 0} (d : A) (keep held : ℕ → Bool) (f g : ℕ → A) (n : ℕ) → Each n (λ k. keep k ≡ held k) → Each n (λ k. f k ≡ g k)
    → packed d keep f n ≡ packed d held g n
unfolding packed
packed-cong d keep held f g zero h e = refl
packed-cong d keep held f g (suc n) h e =
    let r = rank-cong keep held n (λ k l. h k (omega arith)) in
    rw (h n (omega arith), e n (omega arith), r, packed-cong d keep held f g n (λ k l. h k (omega arith)) (λ k l. e k (omega arith)))

-- ---- the first place that passes a test

module _ (test : ℕ → Bool) where
  pub first-here : (n k : ℕ) → k < n → test k ≡ true → first_from (n - k) test k ≡ k
  unfolding first_from
  first-here n k h e = let c : n - k ≡ suc (n - suc k) = omega arith in rw (c, e)

  pub first-later : (n k : ℕ) → k < n → test k ≡ false → first_from (n - k) test k ≡ first_from (n - suc k) test (suc k)
  unfolding first_from
  first-later n k h e = let c : n - k ≡ suc (n - suc k) = omega arith in rw (c, e)

  pub first-none : (n k : ℕ) → n ≤ k → first_from (n - k) test k ≡ k
  unfolding first_from
  first-none n k h = let c : n - k ≡ 0 = omega arith in rw c

  -- none before it does
  pub first-false : (m k j : ℕ) → k ≤ j → j < first_from m test k → test j ≡ false
  unfolding first_from
  first-false zero k j l h = absurd (omega arith)
  first-false (suc m) k j l h = go (test k) refl h (ℕ_discrete j k) (first-false m (suc k) j)
    where
      go : (b : Bool) → test k ≡ b → j < cond b k (first_from m test (suc k)) → Dec (j ≡ k)
          → (suc k ≤ j → j < first_from m test (suc k) → test j ≡ false) → test j ≡ false
      go true e h d ih = absurd (omega arith)
      go false e h (yes d) ih = ap test d ∙ e
      go false e h (no d) ih = ih (omega arith) h

  pub first-all : (m k : ℕ) → ((j : ℕ) → k ≤ j → j < k + m → test j ≡ false) → first_from m test k ≡ k + m
  unfolding first_from
  first-all zero k h = omega arith
  first-all (suc m) k h =
      let e : first_from m test (suc k) ≡ suc k + m = first-all m (suc k) (λ j l u. h j (omega arith) (omega arith)) in
      rw (h k (omega arith) (omega arith)) (omega (arith, e))
