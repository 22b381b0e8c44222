-- How the lattices of the levels are made: the guess stays in its ranges, and what is checked holds.
-- rest-low, rest-high: what is left lies between 0 and the divisor.
-- gcd-most: the greatest common divisor is at most what both numbers are.
-- holds_on, held_on: what is found on the lattice is on it.
-- held-step, held-stop, held_none: the items one by one.
-- unknown-at, unknown-tame, unknown-known: where nothing is known.
-- tamed-within, upright-is, reduced-upright, joined_is, widened-guess, closed-tame: the guess, part by part.
--   Reaches g r x y   Euclid's algorithm comes to r from x and y on
-- lattice-known: a level's lattice is true of the items from it on.
--   Built w c n d l r the loop over the levels, at d
use mathlib.Core.Path.{◌≡◌, refl, sym, ap, ap₂, ◌∙◌}
use mathlib.Core.Bool.{Bool, true, false, cond, not}
use mathlib.Core.List.{List}
use Prim.Native.Nat.{ℕ, zero, suc, ◌+◌, ◌*◌, ◌-◌, ◌≤◌, ◌<◌}
use native.Mathlib.Decide.{ℕ_discrete}
use native.Mathlib.Omega.{arith}
use borrow.Author.Tests.{lt-ltb, le-ltb}
use lib.Dec.{ltb}
use lib.IntN.{ℤ, pos, negsuc, neg_ℤ, nat_abs, ◌+ℤ◌, ◌-ℤ◌, ◌*ℤ◌}
use lib.ListN.{length, set, replicate, length-set}
use lib.Seq.{get_or-set_same, get_or-set_other}
use lib.Signed.{lt_z, lt_z_yes, ◌≤ℤ◌, ◌<ℤ◌}
use Rattle.arith.specs.Within.{Within}
use Rattle.arith.specs.Division.{floor_div}
use Rattle.arith.specs.Gcd.{Divides, gcd_in, gcd_of}
use Rattle.arith.proofs.Divisors.{gcd-is}
use Rattle.arith.proofs.Integers.{split, split2, split3, zed}
use Rattle.arith.proofs.Parts.{zs, sum, neg, diff, zero-less, within-neg, within-abs, to-within, within-mul, within-sub, within_more, impossible}
use Rattle.arith.proofs.Rounding.{floor-is, floor-within}
use Rattle.arith.proofs.Words.{yes_lt, no_lt}
use Rattle.lattice.specs.declared.Change.{Change}
use Rattle.lattice.specs.declared.Lattice.{Lattice}
use Rattle.lattice.specs.Lattice.{On, Tame, unknown, beyond, lattice_at}
use Rattle.lattice.specs.Building.{rest_of, tamed, Upright, upright_by, Reduces, reduced_by, Joined, ended, euclid, first_change, joined_by, common_gap, Guess}
use Rattle.lattice.specs.Building.{widened_by, no_changes, closed_by, above_slant, holds_by, Items, held_from, Known, checked_by, guess_of, lattice_of, Latticed}
use Rattle.lattice.proofs.Ranges.{nonzero, rest-within}

-- ---- what a division leaves

module _ (n m : ℤ) (p : pos 0 <ℤ m) where
  pub rest-low : pos 0 ≤ℤ rest_of n m
  rest-low = let f = (floor-is n m (nonzero m p)).positive p in omega (arith, zs, f.0, diff n (m *ℤ floor_div n m))

  pub rest-high : rest_of n m <ℤ m
  rest-high = let f = (floor-is n m (nonzero m p)).positive p in omega (arith, zs, f.1, sum (m *ℤ floor_div n m) m, diff n (m *ℤ floor_div n m))

  -- what leaves nothing is a multiple
  rest-none : lt_z (pos 0) (rest_of n m) ≡ false → n ≡ m *ℤ floor_div n m
  rest-none h = go n (m *ℤ floor_div n m) rest-low (no_lt h)
    where
      go : (x y : ℤ) → pos 0 ≤ℤ (x -ℤ y) → (x -ℤ y) ≤ℤ pos 0 → x ≡ y
      go = split2 _ (λ a b c e. simp zed (omega arith))

-- ---- common divisors

divides-most : (d n : ℕ) → Divides d n → 0 < n → d ≤ n
divides-most d n (zero, e) h = absurd (omega (arith, e))
divides-most d n (suc k, e) h = go k e
  where
    go : (k : ℕ) → n ≡ suc k * d → d ≤ n
    go k e = omega (arith, e)

pub gcd-most : (a b m : ℕ) → a ≤ m → b ≤ m → gcd_of a b ≤ m
unfolding gcd_of gcd_in
gcd-most a zero m h k = h
gcd-most a (suc b) m h k = omega (arith, k, divides-most (gcd_of a (suc b)) (suc b) (gcd-is a (suc b)).right (omega arith))

-- ---- the check

module _ (l : Lattice) (t : Tame l) (p : pos 0 <ℤ l.stride) where
  -- what is found on the lattice is on it
  pub holds_on : (a c : ℤ) → holds_by l a c ≡ true → On l a c
  unfolding holds_by
  holds_on a c h = go (lt_z (pos 0) (rest_of a l.stride)) refl (lt_z (pos 0) (rest_of (above_slant l a c) l.gap)) refl h
    where
      together : (c x y : ℤ) → c -ℤ x ≡ y → c ≡ x +ℤ y
      together = split3 _ (λ a b c e f g. simp zed (omega arith))

      go : (u : Bool) → lt_z (pos 0) (rest_of a l.stride) ≡ u → (v : Bool) → lt_z (pos 0) (rest_of (above_slant l a c) l.gap) ≡ v → cond u false (not v) ≡ true
          → On l a c
      go true e v f h = absurd (impossible h)
      go false e true f h = absurd (impossible h)
      go false e false f h = record {
        strides = floor_div a l.stride;
        gaps = floor_div (above_slant l a c) l.gap;
        weight_is = rest-none a l.stride p e;
        worth-is = together c (l.slant *ℤ floor_div a l.stride) (l.gap *ℤ floor_div (above_slant l a c) l.gap)
            (rest-none (above_slant l a c) l.gap t.gap≥1 f);
      }

  -- so are all items that are looked at
  held-true : (w c : ℕ → ℤ) (n d : ℕ) → held_from l w c d n ≡ true → (j : ℕ) → d ≤ j → j < d + n → On l (w j) (c j)
  unfolding held_from
  held-true w c zero d h j g k = absurd (omega arith)
  held-true w c (suc n) d h j g k = go (holds_by l (w d) (c d)) refl h (λ h' g'. held-true w c n (suc d) h' j g' (omega arith)) (ℕ_discrete j d)
    where
      go : (b : Bool) → holds_by l (w d) (c d) ≡ b → cond b (held_from l w c (suc d) n) false ≡ true
          → (held_from l w c (suc d) n ≡ true → suc d ≤ j → On l (w j) (c j)) → Dec (j ≡ d) → On l (w j) (c j)
      go false e h ih q = absurd (impossible h)
      go true e h ih (yes q) = rw q (holds_on (w d) (c d) e)
      go true e h ih (no q) = ih h (omega arith)

  pub held_on : (w c : ℕ → ℤ) (n d : ℕ) {b : Bool} → b ≡ held_from l w c d (n - d) → b ≡ true → (j : ℕ) → d ≤ j → j < n → On l (w j) (c j)
  held_on w c n d e h j g k = held-true w c (n - d) d (sym e ∙ h) j g (omega arith)

-- the items one by one
module _ (l : Lattice) (w c : ℕ → ℤ) (d n : ℕ) where
  abbrev here : Bool
  here = holds_by l (w d) (c d)

  held_more : d < n → held_from l w c d (n - d) ≡ cond here (held_from l w c (d + 1) (n - (d + 1))) false
  unfolding held_from
  held_more h = ap (held_from l w c d) (apart d n h) ∙ ap (λ k. cond here (held_from l w c k (n - (d + 1))) false) (one d)
    where
      apart : (d n : ℕ) → d < n → n - d ≡ suc (n - (d + 1))
      apart d n h = omega arith

      one : (d : ℕ) → suc d ≡ d + 1
      one d = omega arith

  pub held-step : d < n → here ≡ true → held_from l w c (d + 1) (n - (d + 1)) ≡ held_from l w c d (n - d)
  held-step h e = sym (held_more h ∙ ap (λ b. cond b (held_from l w c (d + 1) (n - (d + 1))) false) e)

  pub held-stop : d < n → here ≡ false → held_from l w c d (n - d) ≡ false
  held-stop h e = held_more h ∙ ap (λ b. cond b (held_from l w c (d + 1) (n - (d + 1))) false) e

  pub held_none : n ≤ d → held_from l w c d (n - d) ≡ true
  unfolding held_from
  held_none h = ap (held_from l w c d) (none d n h)
    where
      none : (d n : ℕ) → n ≤ d → n - d ≡ 0
      none d n h = omega arith

-- ---- where nothing is known

pub unknown-at : (n d : ℕ) → d < n → lattice_at (replicate n unknown) d ≡ unknown
unknown-at zero d h = absurd (omega arith)
unknown-at (suc n) zero h = refl
unknown-at (suc n) (suc d) h = unknown-at n d (omega arith)

small : (m k : ℕ) → k ≤ m → Within m (pos k)
small m k h = record { above = h; below = omega arith }

pub unknown-tame : Tame unknown
unknown-tame = record {
  stride-in = small 1000 0 (omega arith);
  slant-in = small 100000000 0 (omega arith);
  gap-in = small 100000000 1 (omega arith);
  gap≥1 = lt_z_yes tt;
}

pub unknown-known : (w c : ℕ → ℤ) (n d : ℕ) → Known w c n d unknown
unknown-known w c n d = record { tame = unknown-tame; on = λ h. absurd (h refl) }

-- ---- the guess stays in its ranges

pub tamed-within : (z g : ℤ) → Within 200000000000 z → Within 100000000 g → Within 100000000 (tamed z g)
tamed-within z g a b = go (lt_z (pos 0) g) refl (lt_z (pos 100000000) z) refl (lt_z z (negsuc 99999999)) refl
  where
    go : (s : Bool) → lt_z (pos 0) g ≡ s → (t : Bool) → lt_z (pos 100000000) z ≡ t → (u : Bool) → lt_z z (negsuc 99999999) ≡ u
        → Within 100000000 (cond s (rest_of z g) (cond t (pos 0) (cond u (pos 0) z)))
    go true e t f u h = rest-within z g (yes_lt e) a b
    go false e true f u h = small 100000000 0 (omega arith)
    go false e false f true h = small 100000000 0 (omega arith)
    go false e false f false h = to-within (omega (arith, zs)) (omega (arith, zs))

pub upright-is : (a c : ℤ) → Within 1000 a → Within 10000 c → Upright (upright_by a c)
upright-is a c h k = go (lt_z a (pos 0)) refl
  where
    turned : (x : ℤ) → x <ℤ pos 0 → pos 0 ≤ℤ neg_ℤ x
    turned x l = omega (arith, zs, neg x)

    go : (b : Bool) → lt_z a (pos 0) ≡ b → Upright (cond b (record { weight = pos 0 -ℤ a; worth = pos 0 -ℤ c }) (record { weight = a; worth = c }))
    go true e = rw (zero-less a, zero-less c) (record {
      weight-in = within-neg a h;
      weight≥0 = turned a (yes_lt e);
      worth-in = within_more (omega arith) (within-neg c k);
    })
    go false e = record { weight-in = h; weight≥0 = no_lt e; worth-in = within_more (omega arith) k }

module _ (u v : Change) (g : ℤ) (r : Reduces u v g) where
  pub carried-within : Within 100000000000 (v.worth *ℤ floor_div u.weight v.weight)
  carried-within = within-mul r.second.worth-in (floor-within u.weight v.weight r.first.weight-in)

  pub reduced-within : Within 100100000000 (u.worth -ℤ v.worth *ℤ floor_div u.weight v.weight)
  reduced-within = within-sub r.first.worth-in carried-within

  pub reduced-upright : Upright (reduced_by u v g)
  reduced-upright = record {
    weight-in = rest-within u.weight v.weight r.weight≥1 r.first.weight-in r.second.weight-in;
    weight≥0 = rest-low u.weight v.weight r.weight≥1;
    worth-in = tamed-within _ g (within_more (omega arith) reduced-within) r.gap-in;
  }

pub first-upright : (l : Lattice) → Guess l → Upright (first_change l)
first-upright l h = record { weight-in = h.joined.stride-in; weight≥0 = h.joined.stride≥0; worth-in = h.joined.slant-in }

ended-joined : (x y : Change) → Upright x → Upright y → Joined (ended x y)
ended-joined x y a b = record { stride-in = a.weight-in; stride≥0 = a.weight≥0; slant-in = a.worth-in; gap-in = b.worth-in }

euclid-joined : (n : ℕ) (g : ℤ) (x y : Change) → Within 100000000 g → Upright x → Upright y → Joined (euclid n g x y)
unfolding euclid
euclid-joined zero g x y h a b = ended-joined x y a b
euclid-joined (suc n) g x y h a b =
    go (lt_z (pos 0) y.weight) refl (λ p. euclid-joined n g y (reduced_by x y g) h b
    (reduced-upright x y g (record { first = a; second = b; weight≥1 = p; gap-in = h })))
  where
    go : (t : Bool) → lt_z (pos 0) y.weight ≡ t → (pos 0 <ℤ y.weight → Joined (euclid n g y (reduced_by x y g)))
        → Joined (cond t (euclid n g y (reduced_by x y g)) (ended x y))
    go true e ih = ih (yes_lt e)
    go false e ih = ended-joined x y a b

-- Euclid's algorithm on its way: r is what it comes to from x and y on
pub record Reaches (g : ℤ) (r : Lattice) (x y : Change) : Type 0 where
  pub steps : ℕ
  pub enough : nat_abs y.weight ≤ steps
  pub is : r ≡ euclid steps g x y

module _ (g : ℤ) (r : Lattice) (x y : Change) where
  pub reaches_step : Upright y → lt_z (pos 0) y.weight ≡ true → Reaches g r x y → Reaches g r y (reduced_by x y g)
  unfolding euclid
  reaches_step u e h = go h.steps h.enough h.is
    where
      fewer : (a b : ℤ) → pos 0 <ℤ b → pos 0 ≤ℤ a → a <ℤ b → (n : ℕ) → nat_abs b ≤ suc n → nat_abs a ≤ n
      fewer = split2 _ (λ a b c e. simp zed (omega arith))

      some : (b : ℤ) → pos 0 <ℤ b → nat_abs b ≤ 0 → ⊥
      some = split _ (λ a b. simp zed (omega arith))

      go : (n : ℕ) → nat_abs y.weight ≤ n → r ≡ euclid n g x y → Reaches g r y (reduced_by x y g)
      go zero l i = absurd (some y.weight (yes_lt e) l)
      go (suc n) l i = record {
        steps = n;
        enough = fewer _ y.weight (yes_lt e) (rest-low x.weight y.weight (yes_lt e)) (rest-high x.weight y.weight (yes_lt e)) n l;
        is = i ∙ ap (λ t. cond t (euclid n g y (reduced_by x y g)) (ended x y)) e;
      }

  pub reaches_end : lt_z (pos 0) y.weight ≡ false → Reaches g r x y → r ≡ ended x y
  unfolding euclid
  reaches_end e h = go h.steps h.is
    where
      go : (n : ℕ) → r ≡ euclid n g x y → r ≡ ended x y
      go zero i = i
      go (suc n) i = i ∙ ap (λ t. cond t (euclid n g y (reduced_by x y g)) (ended x y)) e

pub joined_is : (l : Lattice) (v : Change) → Guess l → Upright v → Joined (joined_by l v)
joined_is l v h u = euclid-joined (nat_abs v.weight) l.gap (first_change l) v h.joined.gap-in (first-upright l h) u

pub common-within : (g h : ℤ) → Within 100000000 g → Within 100000000 h → Within 100000000 (common_gap g h)
common-within g h a b = small 100000000 _ (gcd-most (nat_abs g) (nat_abs h) 100000000 (within-abs g a) (within-abs h b))

module _ (l : Lattice) (a c : ℤ) (g : Guess l) (h : Within 1000 a) (k : Within 10000 c) where
  pub joining : Joined (joined_by l (upright_by a c))
  joining = joined_is l (upright_by a c) g (upright-is a c h k)

  pub gap_within : Within 100000000 (common_gap l.gap (joined_by l (upright_by a c)).gap)
  gap_within = common-within l.gap _ g.joined.gap-in joining.gap-in

  pub widened-guess : Guess (widened_by l a c)
  unfolding widened_by
  widened-guess = record {
    joined = record {
      stride-in = joining.stride-in;
      stride≥0 = joining.stride≥0;
      slant-in = tamed-within _ _ (within_more (omega arith) joining.slant-in) gap_within;
      gap-in = gap_within;
    };
    gap≥0 = omega (arith, zs);
  }

none-guess : Guess no_changes
none-guess = record {
  joined =
      record {
        stride-in = small 1000 0 (omega arith);
        stride≥0 = omega (arith, zs);
        slant-in = small 100000000 0 (omega arith);
        gap-in = small 100000000 0 (omega arith);
      };
  gap≥0 = omega (arith, zs);
}

pub closed-tame : (l : Lattice) → Guess l → Tame (closed_by l)
closed-tame l h = go (lt_z (pos 0) l.gap) refl
  where
    go : (b : Bool) → lt_z (pos 0) l.gap ≡ b → Tame (cond b l (record { stride = l.stride; slant = l.slant; gap = pos 100000000 }))
    go true e = record { stride-in = h.joined.stride-in; slant-in = h.joined.slant-in; gap-in = h.joined.gap-in; gap≥1 = yes_lt e }
    go false e = record {
      stride-in = h.joined.stride-in;
      slant-in = h.joined.slant-in;
      gap-in = small 100000000 100000000 (omega arith);
      gap≥1 = lt_z_yes tt;
    }

-- ---- all levels

module _ (w c : ℕ → ℤ) (n : ℕ) where
  checked-known : (d : ℕ) (l : Lattice) → Guess l → Known w c n d (checked_by w c n d l)
  checked-known d l g = go (lt_z (pos 0) (closed_by l).stride) refl (held_from (closed_by l) w c d (n - d)) refl
    where
      go : (s : Bool) → lt_z (pos 0) (closed_by l).stride ≡ s → (t : Bool) → held_from (closed_by l) w c d (n - d) ≡ t
          → Known w c n d (cond s (cond t (closed_by l) unknown) unknown)
      go false e t f = unknown-known w c n d
      go true e false f = unknown-known w c n d
      go true e true f = record { tame = closed-tame l g; on = λ h j a b. held_on (closed_by l) (closed-tame l g) (yes_lt e) w c n d (sym f) refl j a b }

  module _ (h : Items w c n) where
    pub guess-is : (k : ℕ) → Guess (guess_of w c n k)
    unfolding guess_of
    guess-is zero = none-guess
    guess-is (suc k) = widened-guess (guess_of w c n k) (w (n - suc k)) (c (n - suc k)) (guess-is k) (h.weights-in (n - suc k)) (h.prices-in (n - suc k))

    -- a level's lattice is true of the items from it on
    pub lattice-known : (d : ℕ) → Known w c n d (lattice_of w c n d)
    unfolding lattice_of
    lattice-known d = go (ltb d n)
      where
        go : (b : Bool) → Known w c n d (cond b (checked_by w c n d (guess_of w c n (n - d))) unknown)
        go true = checked-known d (guess_of w c n (n - d)) (guess-is (n - d))
        go false = unknown-known w c n d

  -- the loop over the levels: the guess, and what is known from d on
  pub record Built (d : ℕ) (l : Lattice) (r : List Lattice) : Type 0 where
    pub most : d ≤ n
    pub long : length r ≡ 16
    pub guess : l ≡ guess_of w c n (n - d)
    pub known : (e : ℕ) → d ≤ e → e < 16 → lattice_at r e ≡ lattice_of w c n e

  pub built-none : Built n no_changes (replicate 16 unknown)
  unfolding guess_of lattice_of
  built-none = record {
    most = omega arith;
    long = refl;
    guess = sym (ap (guess_of w c n) (none n));
    known = λ e g h. unknown-at 16 e h ∙ sym (ap (λ b. cond b (checked_by w c n e (guess_of w c n (n - e))) unknown) (le-ltb e n g));
  }
    where
      none : (n : ℕ) → n - n ≡ 0
      none n = omega arith

  pub next-guess : (d : ℕ) → 0 < d → d ≤ n → guess_of w c n (n - (d - 1)) ≡ widened_by (guess_of w c n (n - d)) (w (d - 1)) (c (d - 1))
  unfolding guess_of
  next-guess d z m = ap (guess_of w c n) (one d n z m) ∙ ap₂ (λ (i j : ℕ). widened_by (guess_of w c n (n - d)) (w i) (c j)) (back d n z m) (back d n z m)
    where
      one : (d n : ℕ) → 0 < d → d ≤ n → n - (d - 1) ≡ suc (n - d)
      one d n z m = omega arith

      back : (d n : ℕ) → 0 < d → d ≤ n → n - suc (n - d) ≡ d - 1
      back d n z m = omega arith

  lattice-below : (d : ℕ) → d < n → checked_by w c n d (guess_of w c n (n - d)) ≡ lattice_of w c n d
  unfolding lattice_of
  lattice-below d h = sym (ap (λ b. cond b (checked_by w c n d (guess_of w c n (n - d))) unknown) (lt-ltb d n h))

  pub built-more : (d : ℕ) (l l' : Lattice) (r : List Lattice) → n ≤ 16 → 0 < d → l' ≡ widened_by l (w (d - 1)) (c (d - 1)) → Built d l r
      → Built (d - 1) l' (set r (d - 1) (checked_by w c n (d - 1) l'))
  built-more d l l' r few z g b =
      record { most = omega (arith, b.most); long = length-set r (d - 1) _ ∙ b.long; guess = now; known = λ e f h. entry e f h (ℕ_discrete e (d - 1)) }
    where
      now : l' ≡ guess_of w c n (n - (d - 1))
      now = g ∙ ap (λ x. widened_by x (w (d - 1)) (c (d - 1))) b.guess ∙ sym (next-guess d z b.most)

      here : checked_by w c n (d - 1) l' ≡ lattice_of w c n (d - 1)
      here = ap (checked_by w c n (d - 1)) now ∙ lattice-below (d - 1) (omega (arith, b.most))

      entry : (e : ℕ) → d - 1 ≤ e → e < 16 → Dec (e ≡ d - 1) → lattice_at (set r (d - 1) (checked_by w c n (d - 1) l')) e ≡ lattice_of w c n e
      entry e f h (yes q) = rw (q, get_or-set_same r (d - 1) (checked_by w c n (d - 1) l') beyond (omega (arith, b.long, b.most))) here
      entry e f h (no q) = rw (get_or-set_other r (d - 1) e (checked_by w c n (d - 1) l') beyond q) (b.known e (omega (arith, q)) h)

  pub built-done : (l : Lattice) (r : List Lattice) → Built 0 l r → Latticed w c n r
  built-done l r b d h = b.known d (omega arith) h
