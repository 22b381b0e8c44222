-- How many needs the bounds of a problem leave open: splitting on a broken need leaves fewer.
--   shuts b, covers b    an upper bound of 0 or less, a lower bound of 1 or more
--   decided s n          the bounds of s say that the need n is kept: the item's upper bound shuts it, or its cover's lower bound covers
--   undecided s ns       how many of ns are not decided
-- decided-keeps: a decided need is kept by every feasible point.  broken-undecided: so one that a feasible point breaks is not decided.
-- decided-without, decided-having: each of the two cases of a need decides it.  further-without, further-having: and what was decided stays so.
-- End theorems: undecided-without, undecided-having: each case leaves fewer undecided.  undecided-most: at most all are.
use mathlib.Core.Path.{◌≡◌, refl, sym, ap, subst, ◌∙◌}
use mathlib.Core.Bool.{Bool, true, false, cond, not}
use mathlib.Core.List.{List, [], ◌∷◌}
use Prim.Native.Nat.{ℕ, suc, ◌≤◌, ◌<◌}
use native.Mathlib.Omega.{arith}
use native.Mathlib.Decide.{ℕ_discrete}
use lib.IntN.{ℤ, pos, ◌*ℤ◌}
use lib.ListN.{length}
use lib.Signed.{◌≤ℤ◌, ◌<ℤ◌, lt_z, clash_ℤ}
use Rattle.arith.proofs.Integers.{split, zed, minℤ, maxℤ, ≤ℤ-trans, times-≤}
use Rattle.arith.proofs.Sums.{pick_ind}
use Rattle.arith.proofs.Words.{yes_lt, no_lt, le-no, lt_yes}
use Rattle.knapsack.proofs.Common.{KeepsLowerᴰ, KeepsUpperᴰ, Feasibleᴰ}
use Rattle.knapsack.specs.Meaning.{Instance}
use Rattle.std.specs.Prelude.{Option, None, Some}
use Rattle.model.specs.declared.Need.{Need}
use Rattle.model.specs.Needs.{In, here, there}
use Rattle.cases.proofs.Needs.{KeepsNeedᴰ}
use Rattle.cases.proofs.Splitting.{cap, raise, without, having, upper-here, lower-here}

abbrev pub shuts : Option ℤ → Bool
shuts None = false
shuts (Some u) = not (lt_z (pos 0) u)

abbrev pub covers : Option ℤ → Bool
covers None = false
covers (Some l) = lt_z (pos 0) l

abbrev pub decided : Instance → Need → Bool
decided s n = cond (shuts (s.item n.item).upper) true (covers (s.item n.cover).lower)

-- how many of ns fail a test
abbrev pub misses : (Need → Bool) → List Need → ℕ
misses t [] = 0
misses t (n ∷ ns) = cond (t n) (misses t ns) (suc (misses t ns))

abbrev pub undecided : Instance → List Need → ℕ
undecided s ns = misses (decided s) ns

apart : (b : Bool) → b ≡ true → b ≡ false → ⊥
apart b h k = absurd (let z : ◌≡◌ {A = ℕ} 0 1 = cc in omega arith)

-- ---- decided needs are kept

module _ (D : ℕ) where
  shuts-none : (b : Option ℤ) (n : ℤ) → shuts b ≡ true → KeepsUpperᴰ D b n → n ≤ℤ pos 0
  shuts-none None n h k = absurd (apart false h refl)
  shuts-none (Some u) n h k = ≤ℤ-trans k (under u (go (lt_z (pos 0) u) refl h))
    where
      under : (u : ℤ) → u ≤ℤ pos 0 → (u *ℤ pos D) ≤ℤ pos 0
      under u l = ≤ℤ-trans (times-≤ D u (pos 0) l) zero-times
        where
          zero-times : (pos 0 *ℤ pos D) ≤ℤ pos 0
          zero-times = simp zed (omega arith)

      go : (t : Bool) → lt_z (pos 0) u ≡ t → not t ≡ true → u ≤ℤ pos 0
      go true e f = absurd (apart false f refl)
      go false e f = no_lt e

  covers_one : (b : Option ℤ) (n : ℤ) → covers b ≡ true → KeepsLowerᴰ D b n → (pos 1 *ℤ pos D) ≤ℤ n
  covers_one None n h k = absurd (apart false h refl)
  covers_one (Some l) n h k = ≤ℤ-trans (times-≤ D (pos 1) l (next l (yes_lt h))) k
    where
      next : (l : ℤ) → pos 0 <ℤ l → pos 1 ≤ℤ l
      next = split _ (λ a b. simp zed (omega arith))

module _ (s : Instance) (n : Need) (item_in : n.item < s.count) (cover-in : n.cover < s.count) (D : ℕ) (N : ℕ → ℤ) (p : Feasibleᴰ s D N) where
  pub decided-keeps : decided s n ≡ true → KeepsNeedᴰ D n N
  decided-keeps h = go (shuts (s.item n.item).upper) refl h
    where
      go : (t : Bool) → shuts (s.item n.item).upper ≡ t → cond t true (covers (s.item n.cover).lower) ≡ true → KeepsNeedᴰ D n N
      go true e f m = clash_ℤ m (shuts-none D (s.item n.item).upper (N n.item) e (p.keeps n.item item_in).below)
      go false e f m = covers_one D (s.item n.cover).lower (N n.cover) f (p.keeps n.cover cover-in).above

  pub broken-undecided : ¬ KeepsNeedᴰ D n N → decided s n ≡ false
  broken-undecided h = go (decided s n) refl
    where
      go : (t : Bool) → decided s n ≡ t → decided s n ≡ false
      go true e = absurd (h (decided-keeps e))
      go false e = e

-- ---- the two cases decide

shuts-cap : (b : Option ℤ) → shuts (cap b) ≡ true
shuts-cap None = refl
shuts-cap (Some u) = ap not (le-no (low u))
  where
    low : (u : ℤ) → minℤ u (pos 0) ≤ℤ pos 0
    low = split _ (λ a b. simp zed (omega arith))

covers-raise : (b : Option ℤ) → covers (raise b) ≡ true
covers-raise None = refl
covers-raise (Some l) = lt_yes (high l)
  where
    high : (l : ℤ) → pos 0 <ℤ maxℤ l (pos 1)
    high = split _ (λ a b. simp zed (omega arith))

either : (a b a' b' : Bool) → (a ≡ true → a' ≡ true) → (b ≡ true → b' ≡ true) → cond a true b ≡ true → cond a' true b' ≡ true
either true b a' b' f g h = subst (λ t. cond t true b' ≡ true) (sym (f refl)) refl
either false b true b' f g h = refl
either false b false b' f g h = g h

pub decided-without : (s : Instance) (n : Need) → decided (without s n.item) n ≡ true
decided-without s n = either true false (shuts ((without s n.item).item n.item).upper) (covers ((without s n.item).item n.cover).lower)
    (λ e. ap shuts (upper-here s n.item (s.item n.item).lower (cap (s.item n.item).upper)) ∙ shuts-cap (s.item n.item).upper)
    (λ e. absurd (apart false e refl)) refl

pub decided-having : (s : Instance) (n : Need) → decided (having s n.cover) n ≡ true
decided-having s n = either false true (shuts ((having s n.cover).item n.item).upper) (covers ((having s n.cover).item n.cover).lower)
    (λ e. absurd (apart false e refl)) (λ e. ap covers (lower-here s n.cover (raise (s.item n.cover).lower) (s.item n.cover).upper)
    ∙ covers-raise (s.item n.cover).lower) refl

pub further-without : (s : Instance) (k : ℕ) (n : Need) → decided s n ≡ true → decided (without s k) n ≡ true
further-without s k n = either (shuts (s.item n.item).upper) (covers (s.item n.cover).lower) (shuts ((without s k).item n.item).upper)
    (covers ((without s k).item n.cover).lower)
    (λ h. pick_ind (λ b. shuts b ≡ true) (ℕ_discrete n.item k) (cap (s.item k).upper) (s.item n.item).upper (λ e. shuts-cap (s.item k).upper)
    (λ e. h))
    (λ h. pick_ind (λ b. covers b ≡ true) (ℕ_discrete n.cover k) (s.item k).lower (s.item n.cover).lower
    (λ e. subst (λ j. covers (s.item j).lower ≡ true) e h) (λ e. h))

pub further-having : (s : Instance) (m : ℕ) (n : Need) → decided s n ≡ true → decided (having s m) n ≡ true
further-having s m n = either (shuts (s.item n.item).upper) (covers (s.item n.cover).lower) (shuts ((having s m).item n.item).upper)
    (covers ((having s m).item n.cover).lower)
    (λ h. pick_ind (λ b. shuts b ≡ true) (ℕ_discrete n.item m) (s.item m).upper (s.item n.item).upper
    (λ e. subst (λ j. shuts (s.item j).upper ≡ true) e h) (λ e. h))
    (λ h. pick_ind (λ b. covers b ≡ true) (ℕ_discrete n.cover m) (raise (s.item m).lower) (s.item n.cover).lower
    (λ e. covers-raise (s.item m).lower) (λ e. h))

-- ---- counting

module _ (t u : Need → Bool) (further : (m : Need) → t m ≡ true → u m ≡ true) where
  misses-≤ : (ns : List Need) → misses u ns ≤ misses t ns
  misses-≤ [] = omega arith
  misses-≤ (n ∷ ns) = go (t n) (u n) (further n) (misses-≤ ns)
    where
      go : (a b : Bool) → (a ≡ true → b ≡ true) → misses u ns ≤ misses t ns
          → cond b (misses u ns) (suc (misses u ns)) ≤ cond a (misses t ns) (suc (misses t ns))
      go true true f h = h
      go true false f h = absurd (apart false (f refl) refl)
      go false true f h = omega arith
      go false false f h = omega arith

  misses-< : {n : Need} {ns : List Need} → In n ns → t n ≡ false → u n ≡ true → misses u ns < misses t ns
  misses-< {n} (here {ns = ns}) e f = go (t n) (u n) e f (misses-≤ ns)
    where
      go : (a b : Bool) → a ≡ false → b ≡ true → misses u ns ≤ misses t ns
          → cond b (misses u ns) (suc (misses u ns)) < cond a (misses t ns) (suc (misses t ns))
      go true b x y h = absurd (apart true refl x)
      go false true x y h = omega arith
      go false false x y h = absurd (apart false y refl)
  misses-< {n} (there {m = m} {ns = ns} i) e f = go (t m) (u m) (further m) (misses-< i e f)
    where
      go : (a b : Bool) → (a ≡ true → b ≡ true) → misses u ns < misses t ns
          → cond b (misses u ns) (suc (misses u ns)) < cond a (misses t ns) (suc (misses t ns))
      go true true f h = h
      go true false f h = absurd (apart false (f refl) refl)
      go false true f h = omega arith
      go false false f h = omega arith

pub undecided-without : (s : Instance) (ns : List Need) (n : Need) → In n ns → decided s n ≡ false → undecided (without s n.item) ns < undecided s ns
undecided-without s ns n i h = misses-< (decided s) (decided (without s n.item)) (further-without s n.item) i h (decided-without s n)

pub undecided-having : (s : Instance) (ns : List Need) (n : Need) → In n ns → decided s n ≡ false → undecided (having s n.cover) ns < undecided s ns
undecided-having s ns n i h = misses-< (decided s) (decided (having s n.cover)) (further-having s n.cover) i h (decided-having s n)

pub undecided-most : (s : Instance) (ns : List Need) → undecided s ns ≤ length ns
undecided-most s [] = omega arith
undecided-most s (n ∷ ns) = go (decided s n) (undecided-most s ns)
  where
    go : (a : Bool) → undecided s ns ≤ length ns → cond a (undecided s ns) (suc (undecided s ns)) ≤ suc (length ns)
    go true h = omega arith
    go false h = omega arith
