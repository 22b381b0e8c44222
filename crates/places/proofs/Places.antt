-- The order of places: a tree of levels, in which the start of each level hangs on the levels above.
--   Order           levels, their ends, and the starts;  Laws: starts hang on the prefix alone and lie within the ends
--   AtOrAfter, Run  where a place stands to another; the run of a level
--   μ t P           how many places are left
--   Covers t S P    every place is settled or still to come
-- What a step sets aside, where it goes, that nothing else is lost, and that a measure falls.
use mathlib.Core.Path.{◌≡◌, refl, sym, ◌∙◌, subst, subst₂}
use mathlib.Core.Bool.{Bool, true, false, cond, not}
use mathlib.Core.Logic.{◌≢◌, ◌⊎◌, inl, inr, ⊎_elim}
use Rattle.std.specs.Prelude.{Option, None, Some}
use Prim.Native.Nat.{ℕ, zero, suc, ◌+◌, ◌*◌, ◌≤◌, ◌<◌}
use native.Mathlib.Omega.{arith}
use native.Mathlib.Nat.{mul-le-mul_right}
use native.Mathlib.Decide.{dec_lt, ℕ_discrete}
use lib.IntN.{ℤ, pos, nat_abs, ◌+ℤ◌, ◌-ℤ◌}
use lib.Signed.{◌≤ℤ◌, ◌<ℤ◌, lt_z, lt_z_yes, lt_z_no}
use lib.Dec.{T}
use Rattle.arith.proofs.Integers.{split, split2, split3, split4, zed, ≤ℤ-or-<, ≤ℤ-antisym}
use Rattle.arith.specs.Sum.{Each, pick}
use Rattle.arith.proofs.Sums.{pick_ind}
use Rattle.places.specs.Moves.{below_start, next_value, next_segment, or_else, carry, carry_segment}

-- ---- one level: the amounts lo .. hi are visited s, s + 1, .., hi, s - 1, s - 2, .., lo

-- y is visited after x
abbrev pub Later : (s x y : ℤ) → Type 0
Later s x y = ((s ≤ℤ x) × ((x <ℤ y) ⊎ (y <ℤ s))) ⊎ ((x <ℤ s) × (y <ℤ x))

-- y is in what is left of the run up, or of the run down, that x is in
abbrev pub Segment : (s x y : ℤ) → Type 0
Segment s x y = ((s ≤ℤ x) × (x ≤ℤ y)) ⊎ ((x <ℤ s) × (y ≤ℤ x))

-- how many amounts come after x
unfoldable pub left : (lo hi s x : ℤ) → ℕ
left lo hi s x = cond (lt_z x s) (nat_abs (x -ℤ lo)) (nat_abs (hi -ℤ x) + nat_abs (s -ℤ lo))

abbrev pub In : (lo hi x : ℤ) → Type 0
In lo hi x = (lo ≤ℤ x) × (x ≤ℤ hi)

pub test : {A : Type 0} (a b : ℤ) (Q : A → Type 0) (x y : A) → (a <ℤ b → Q x) → (b ≤ℤ a → Q y) → Q (cond (lt_z a b) x y)
test {A} a b Q x y f g = go (lt_z a b) (λ t. f (lt_z_yes t)) (λ t. g (lt_z_no t))
  where
    go : (b : Bool) → (T b → Q x) → (T (not b) → Q y) → Q (cond b x y)
    go true f g = f tt
    go false f g = g tt

-- what an amount y after x is to the next one
abbrev pub Reach : (s y : ℤ) → Option ℤ → Type 0
Reach s y None = ⊥
Reach s y (Some v) = (v ≡ y) ⊎ Later s v y

-- the next one is in the box and after x
abbrev pub Good : (lo hi s x : ℤ) → Option ℤ → Type 0
Good lo hi s x None = Unit {0}
Good lo hi s x (Some v) = In lo hi v × Later s x v

down-or : (s y x : ℤ) → x ≤ℤ s → y <ℤ x → Reach s y (Some (x -ℤ pos 1))
down-or s y x h k = go (≤ℤ-or-< (x -ℤ pos 1) y)
  where
    same : (y x : ℤ) → y <ℤ x → (x -ℤ pos 1) ≤ℤ y → x -ℤ pos 1 ≡ y
    same = split2 _ (λ a b c e. simp zed (omega arith))

    under : (s x : ℤ) → x ≤ℤ s → (x -ℤ pos 1) <ℤ s
    under = split2 _ (λ a b c e. simp zed (omega arith))

    go : ((x -ℤ pos 1) ≤ℤ y) ⊎ (y <ℤ (x -ℤ pos 1)) → Reach s y (Some (x -ℤ pos 1))
    go (inl l) = inl (same y x k l)
    go (inr l) = inr (inr (under s x h, l))

le-refl' : (s : ℤ) → s ≤ℤ s
le-refl' = split _ (λ a b. simp zed (omega arith))

less-no : (x y : ℤ) → x <ℤ y → y ≤ℤ x → ⊥
less-no = split2 _ (λ a b c e. simp zed (omega arith))

below-start-reach : (lo s y : ℤ) → lo ≤ℤ y → y <ℤ s → Reach s y (below_start lo s)
unfolding below_start
below-start-reach lo s y h k = test lo s (Reach s y) _ _ (λ l. down-or s y s (le-refl' s) k) (λ l. clash lo s y h k l)
  where
    clash : (lo s y : ℤ) → lo ≤ℤ y → y <ℤ s → s ≤ℤ lo → ⊥
    clash = split3 _ (λ a b c e f g. simp zed (omega arith))

pub next-reach : (lo hi s x y : ℤ) → In lo hi y → Later s x y → Reach s y (next_value lo hi s x)
unfolding next_value
next-reach lo hi s x y (yl, yh) (inl (h, inl k)) = test x s (Reach s y) _ _ (λ l. absurd (less-no x s l h))
    (λ _. test x hi (Reach s y) _ _ (λ l. up (≤ℤ-or-< y (x +ℤ pos 1))) (λ l. absurd (clash x y hi k yh l)))
  where
    same : (y x : ℤ) → x <ℤ y → y ≤ℤ (x +ℤ pos 1) → x +ℤ pos 1 ≡ y
    same = split2 _ (λ a b c e. simp zed (omega arith))

    over : (s x : ℤ) → s ≤ℤ x → s ≤ℤ (x +ℤ pos 1)
    over = split2 _ (λ a b c e. simp zed (omega arith))

    clash : (x y hi : ℤ) → x <ℤ y → y ≤ℤ hi → hi ≤ℤ x → ⊥
    clash = split3 _ (λ a b c e f g. simp zed (omega arith))

    up : (y ≤ℤ (x +ℤ pos 1)) ⊎ ((x +ℤ pos 1) <ℤ y) → Reach s y (Some (x +ℤ pos 1))
    up (inl l) = inl (same y x k l)
    up (inr l) = inr (inl (over s x h, inl l))
next-reach lo hi s x y (yl, yh) (inl (h, inr k)) = test x s (Reach s y) _ _ (λ l. absurd (less-no x s l h))
    (λ _. test x hi (Reach s y) _ _ (λ l. inr (inl (over s x h, inr k))) (λ l. below-start-reach lo s y yl k))
  where
    over : (s x : ℤ) → s ≤ℤ x → s ≤ℤ (x +ℤ pos 1)
    over = split2 _ (λ a b c e. simp zed (omega arith))
next-reach lo hi s x y (yl, yh) (inr (h, k)) = test x s (Reach s y) _ _
    (λ _. test lo x (Reach s y) _ _ (λ l. down-or s y x (less s x h) k) (λ l. clash lo x y yl k l)) (λ l. absurd (less-no x s h l))
  where
    less : (s x : ℤ) → x <ℤ s → x ≤ℤ s
    less = split2 _ (λ a b c e. simp zed (omega arith))

    clash : (lo x y : ℤ) → lo ≤ℤ y → y <ℤ x → x ≤ℤ lo → ⊥
    clash = split3 _ (λ a b c e f g. simp zed (omega arith))

below-start-good : (lo hi s x : ℤ) → In lo hi s → s ≤ℤ x → Good lo hi s x (below_start lo s)
unfolding below_start
below-start-good lo hi s x (sl, sh) h = test lo s (Good lo hi s x) _ _ (λ l. (inside lo hi s sh l, inl (h, inr (under s)))) (λ l. tt)
  where
    inside : (lo hi s : ℤ) → s ≤ℤ hi → lo <ℤ s → In lo hi (s -ℤ pos 1)
    inside = split3 _ (λ a b c e f g. simp zed (omega arith))

    under : (s : ℤ) → (s -ℤ pos 1) <ℤ s
    under = split _ (λ a b. simp zed (omega arith))

pub next-good : (lo hi s x : ℤ) → In lo hi s → In lo hi x → Good lo hi s x (next_value lo hi s x)
unfolding next_value
next-good lo hi s x si (xl, xh) = test x s (Good lo hi s x) _ _
    (λ h. test lo x (Good lo hi s x) _ _ (λ l. (down lo hi x xh l, inr (h, under x))) (λ l. tt))
    (λ h. test x hi (Good lo hi s x) _ _ (λ l. (up lo hi x xl l, inl (h, inl (over x)))) (λ l. below-start-good lo hi s x si h))
  where
    down : (lo hi x : ℤ) → x ≤ℤ hi → lo <ℤ x → In lo hi (x -ℤ pos 1)
    down = split3 _ (λ a b c e f g. simp zed (omega arith))

    up : (lo hi x : ℤ) → lo ≤ℤ x → x <ℤ hi → In lo hi (x +ℤ pos 1)
    up = split3 _ (λ a b c e f g. simp zed (omega arith))

    under : (x : ℤ) → (x -ℤ pos 1) <ℤ x
    under = split _ (λ a b. simp zed (omega arith))

    over : (x : ℤ) → x <ℤ (x +ℤ pos 1)
    over = split _ (λ a b. simp zed (omega arith))

pub segment-good : (lo hi s x : ℤ) → In lo hi s → Good lo hi s x (next_segment lo s x)
unfolding next_segment
segment-good lo hi s x si = test x s (Good lo hi s x) _ _ (λ h. tt) (λ h. below-start-good lo hi s x si h)

-- the amounts that are left: fewer than there are, and fewer later
pub left-most : (lo hi s x : ℤ) → In lo hi s → In lo hi x → left lo hi s x ≤ nat_abs (hi -ℤ lo)
unfolding left
left-most lo hi s x si xi = test x s (λ n. n ≤ nat_abs (hi -ℤ lo)) _ _ (λ h. low lo hi s x si xi h) (λ h. high lo hi s x si xi h)
  where
    low : (lo hi s x : ℤ) → In lo hi s → In lo hi x → x <ℤ s → nat_abs (x -ℤ lo) ≤ nat_abs (hi -ℤ lo)
    low = split4 _ (λ a b c e f g h i. simp zed (omega arith))

    high : (lo hi s x : ℤ) → In lo hi s → In lo hi x → s ≤ℤ x → nat_abs (hi -ℤ x) + nat_abs (s -ℤ lo) ≤ nat_abs (hi -ℤ lo)
    high = split4 _ (λ a b c e f g h i. simp zed (omega arith))

pub left_less : (lo hi s x y : ℤ) → In lo hi s → In lo hi x → In lo hi y → Later s x y → left lo hi s y < left lo hi s x
unfolding left
left_less lo hi s x y si xi yi (inl (h, inl k)) = test x s (λ n. left lo hi s y < n) _ _ (λ l. absurd (less-no x s l h))
    (λ _. test y s (λ n. n < nat_abs (hi -ℤ x) + nat_abs (s -ℤ lo)) _ _ (λ l. absurd (clash x y s h k l)) (λ l. go lo hi s x y si yi k))
  where
    clash : (x y s : ℤ) → s ≤ℤ x → x <ℤ y → y <ℤ s → ⊥
    clash = split3 _ (λ a b c e f g. simp zed (omega arith))

    go : (lo hi s x y : ℤ) → In lo hi s → In lo hi y → x <ℤ y → nat_abs (hi -ℤ y) + nat_abs (s -ℤ lo) < nat_abs (hi -ℤ x) + nat_abs (s -ℤ lo)
    go = split _ (λ j k. split4 _ (λ a b c e f g h i. simp zed (omega arith)))
left_less lo hi s x y si xi yi (inl (h, inr k)) = test x s (λ n. left lo hi s y < n) _ _ (λ l. absurd (less-no x s l h))
    (λ _. test y s (λ n. n < nat_abs (hi -ℤ x) + nat_abs (s -ℤ lo)) _ _ (λ l. go lo hi s x y si xi yi k) (λ l. absurd (less-no y s k l)))
  where
    go : (lo hi s x y : ℤ) → In lo hi s → In lo hi x → In lo hi y → y <ℤ s → nat_abs (y -ℤ lo) < nat_abs (hi -ℤ x) + nat_abs (s -ℤ lo)
    go = split _ (λ j k. split4 _ (λ a b c e f g h i. simp zed (omega arith)))
left_less lo hi s x y si xi yi (inr (h, k)) = test x s (λ n. left lo hi s y < n) _ _
    (λ _. test y s (λ n. n < nat_abs (x -ℤ lo)) _ _ (λ l. go lo hi x y xi yi k) (λ l. absurd (clash x y s h k l))) (λ l. absurd (less-no x s h l))
  where
    clash : (x y s : ℤ) → x <ℤ s → y <ℤ x → s ≤ℤ y → ⊥
    clash = split3 _ (λ a b c e f g. simp zed (omega arith))

    go : (lo hi x y : ℤ) → In lo hi x → In lo hi y → y <ℤ x → nat_abs (y -ℤ lo) < nat_abs (x -ℤ lo)
    go = split4 _ (λ a b c e f g h i. simp zed (omega arith))

-- the start is first
pub first-or-later : (s y : ℤ) → (s ≡ y) ⊎ Later s s y
first-or-later s y = go (≤ℤ-or-< s y) (≤ℤ-or-< y s)
  where
    go : (s ≤ℤ y) ⊎ (y <ℤ s) → (y ≤ℤ s) ⊎ (s <ℤ y) → (s ≡ y) ⊎ Later s s y
    go (inr h) k = inr (inl (le-refl' s, inr h))
    go (inl h) (inr k) = inr (inl (le-refl' s, inl k))
    go (inl h) (inl k) = inl (≤ℤ-antisym h k)

pub later_trans : (s x v y : ℤ) → Later s x v → Later s v y → Later s x y
later_trans s x v y (inl (h, inl k)) (inl (l, inl n)) = inl (h, inl (go x v y k n))
  where
    go : (x v y : ℤ) → x <ℤ v → v <ℤ y → x <ℤ y
    go = split3 _ (λ a b c e f g. simp zed (omega arith))
later_trans s x v y (inl (h, inl k)) (inl (l, inr n)) = inl (h, inr n)
later_trans s x v y (inl (h, inr k)) (inl (l, n)) = absurd (less-no v s k l)
later_trans s x v y (inl (h, k)) (inr (l, n)) = inl (h, inr (go s v y l n))
  where
    go : (s v y : ℤ) → v <ℤ s → y <ℤ v → y <ℤ s
    go = split3 _ (λ a b c e f g. simp zed (omega arith))
later_trans s x v y (inr (h, k)) (inl (l, n)) = absurd (go s x v h k l)
  where
    go : (s x v : ℤ) → x <ℤ s → v <ℤ x → s ≤ℤ v → ⊥
    go = split3 _ (λ a b c e f g. simp zed (omega arith))
later_trans s x v y (inr (h, k)) (inr (l, n)) = inr (h, go x v y k n)
  where
    go : (x v y : ℤ) → v <ℤ x → y <ℤ v → y <ℤ x
    go = split3 _ (λ a b c e f g. simp zed (omega arith))

pub later-not : (s x y : ℤ) → Later s x y → (x ≡ y) ⊎ Later s y x → ⊥
later-not s x y (inl (h, inl k)) (inl e) = go s x y h k e
  where
    go : (s x y : ℤ) → s ≤ℤ x → x <ℤ y → x ≡ y → ⊥
    go = split3 _ (λ a b c e f g. simp zed (omega arith))
later-not s x y (inl (h, inr k)) (inl e) = go s x y h k e
  where
    go : (s x y : ℤ) → s ≤ℤ x → y <ℤ s → x ≡ y → ⊥
    go = split3 _ (λ a b c e f g. simp zed (omega arith))
later-not s x y (inr (h, k)) (inl e) = go x y k e
  where
    go : (x y : ℤ) → y <ℤ x → x ≡ y → ⊥
    go = split2 _ (λ a b c e. simp zed (omega arith))
later-not s x y (inl (h, k)) (inr (inr (m, n))) = go s x y h m n
  where
    go : (s x y : ℤ) → s ≤ℤ x → y <ℤ s → x <ℤ y → ⊥
    go = split3 _ (λ a b c e f g. simp zed (omega arith))
later-not s x y (inl (h, inl k)) (inr (inl (m, inl n))) = go x y k n
  where
    go : (x y : ℤ) → x <ℤ y → y <ℤ x → ⊥
    go = split2 _ (λ a b c e. simp zed (omega arith))
later-not s x y (inl (h, inl k)) (inr (inl (m, inr n))) = less-no x s n h
later-not s x y (inl (h, inr k)) (inr (inl (m, n))) = less-no y s k m
later-not s x y (inr (h, k)) (inr (inl (m, n))) = go s x y h k m
  where
    go : (s x y : ℤ) → x <ℤ s → y <ℤ x → s ≤ℤ y → ⊥
    go = split3 _ (λ a b c e f g. simp zed (omega arith))
later-not s x y (inr (h, k)) (inr (inr (m, n))) = go x y k n
  where
    go : (x y : ℤ) → y <ℤ x → x <ℤ y → ⊥
    go = split2 _ (λ a b c e. simp zed (omega arith))

pub later-total : (s x y : ℤ) → (x ≡ y) ⊎ (Later s x y ⊎ Later s y x)
later-total s x y = go (≤ℤ-or-< x y) (≤ℤ-or-< y x) (≤ℤ-or-< s x) (≤ℤ-or-< s y)
  where
    go : (x ≤ℤ y) ⊎ (y <ℤ x) → (y ≤ℤ x) ⊎ (x <ℤ y) → (s ≤ℤ x) ⊎ (x <ℤ s) → (s ≤ℤ y) ⊎ (y <ℤ s) → (x ≡ y) ⊎ (Later s x y ⊎ Later s y x)
    go (inl h) (inl k) a b = inl (≤ℤ-antisym h k)
    go (inr h) k (inl a) (inl b) = inr (inr (inl (b, inl h)))
    go (inr h) k (inl a) (inr b) = inr (inl (inl (a, inr b)))
    go (inr h) k (inr a) b = inr (inl (inr (a, h)))
    go (inl h) (inr k) (inl a) b = inr (inl (inl (a, inl k)))
    go (inl h) (inr k) (inr a) (inl b) = inr (inr (inl (b, inr a)))
    go (inl h) (inr k) (inr a) (inr b) = inr (inr (inr (b, k)))

less-le : (x y : ℤ) → x <ℤ y → x ≤ℤ y
less-le = split2 _ (λ a b c e. simp zed (omega arith))

segment-same : (s x y : ℤ) → x ≡ y → Segment s x y
segment-same s x y e = go (≤ℤ-or-< s x)
  where
    le : (x y : ℤ) → x ≡ y → (x ≤ℤ y) × (y ≤ℤ x)
    le = split2 _ (λ a b c e. simp zed (omega arith))

    go : (s ≤ℤ x) ⊎ (x <ℤ s) → Segment s x y
    go (inl h) = inl (h, (le x y e).0)
    go (inr h) = inr (h, (le x y e).1)

-- ---- places

abbrev pub Place : Type 0
Place = ℕ → ℤ

-- m levels, each with its amounts lo .. hi, and where each starts
pub record Order : Type 0 where
  pub m : ℕ
  pub lo : ℕ → ℤ
  pub hi : ℕ → ℤ
  pub start : Place → ℕ → ℤ

-- the start of a level hangs on the levels above it alone, and is one of the level's amounts
pub record Laws (t : Order) : Type 0 where
  pub by-prefix : (P Q : Place) (d : ℕ) → Each d (λ k. P k ≡ Q k) → t.start P d ≡ t.start Q d
  pub inside : (P : Place) (d : ℕ) → d < t.m → Each d (λ k. In (t.lo k) (t.hi k) (P k)) → In (t.lo d) (t.hi d) (t.start P d)

abbrev pub Agree : ℕ → Place → Place → Type 0
Agree n P y = Each n (λ k. P k ≡ y k)

-- the first n levels are in the box
abbrev pub Box : Order → ℕ → Place → Type 0
Box t n y = Each n (λ k. In (t.lo k) (t.hi k) (y k))

-- y leaves P at a level below n, for a later amount
abbrev pub Parted : Order → ℕ → Place → Place → Type 0
Parted t n P y = (d : ℕ) × (d < n) × Agree d P y × Later (t.start P d) (P d) (y d)

abbrev pub AtOrAfter : Order → Place → Place → Type 0
AtOrAfter t P y = Agree t.m P y ⊎ Parted t t.m P y

-- the run from P on that goes to the end of P's segment at level d
abbrev pub Run : Order → ℕ → Place → Place → Type 0
Run t d P y = Agree d P y × Segment (t.start P d) (P d) (y d)

-- the moves look at the levels that they are asked about, and at no others
pub carry-cong : (lo hi s s' x x' : ℕ → ℤ) (n : ℕ) → Each n (λ k. (s k ≡ s' k) × (x k ≡ x' k)) → carry lo hi s x n ≡ carry lo hi s' x' n
unfolding carry
carry-cong lo hi s s' x x' zero h = refl
carry-cong lo hi s s' x x' (suc j) h = rw ((h j (omega arith)).0, (h j (omega arith)).1, carry-cong lo hi s s' x x' j (λ k l. h k (omega arith)))

pub segment-cong : (lo hi s s' x x' : ℕ → ℤ) (d : ℕ) → Each (suc d) (λ k. (s k ≡ s' k) × (x k ≡ x' k)) → carry_segment lo hi s x d ≡ carry_segment lo hi s' x' d
unfolding carry_segment
segment-cong lo hi s s' x x' d h = rw ((h d (omega arith)).0, (h d (omega arith)).1, carry-cong lo hi s s' x x' d (λ k l. h k (omega arith)))

-- past every place that has P's first n amounts
abbrev pub past_prefix : Order → ℕ → Place → Option (ℕ × ℤ)
past_prefix t n P = carry t.lo t.hi (t.start P) P n

-- past the run of level d
abbrev pub past_run : Order → ℕ → Place → Option (ℕ × ℤ)
past_run t d P = carry_segment t.lo t.hi (t.start P) P d

-- P' is P with v at level j, and the starts at the deeper levels
pub record Moved (t : Order) (P : Place) (j : ℕ) (v : ℤ) (P' : Place) : Type 0 where
  pub above : Agree j P P'
  pub here : P' j ≡ v
  pub deeper : (k : ℕ) → j < k → k < t.m → P' k ≡ t.start P' k

-- ---- a place whose levels from n on are starts comes before all that share its first n amounts

module _ (t : Order) where
  looking : (n : ℕ) (P y : Place) → Agree n P y → ((k : ℕ) → n ≤ k → k < t.m → P k ≡ t.start P k) → (i : ℕ) → i ≤ t.m → Agree i P y ⊎ Parted t i P y
  looking n P y a s zero l = inl (λ k o. absurd (omega arith))
  looking n P y a s (suc i) l = go (looking n P y a s i (omega arith))
    where
      more : Agree i P y → P i ≡ y i → Agree (suc i) P y
      more b e k o = at (ℕ_discrete k i)
        where
          at : Dec (k ≡ i) → P k ≡ y k
          at (yes q) = rw q e
          at (no q) = b k (omega arith)

      here : Agree i P y → (P i ≡ y i) ⊎ Later (t.start P i) (P i) (y i) → Agree (suc i) P y ⊎ Parted t (suc i) P y
      here b (inl e) = inl (more b e)
      here b (inr e) = inr (i, omega arith, b, e)

      pick-level : Dec (i < n) → (P i ≡ y i) ⊎ Later (t.start P i) (P i) (y i)
      pick-level (yes o) = inl (a i o)
      pick-level (no o) = subst (λ z. (z ≡ y i) ⊎ Later (t.start P i) z (y i)) (sym (s i (omega arith) l)) (first-or-later (t.start P i) (y i))

      go : Agree i P y ⊎ Parted t i P y → Agree (suc i) P y ⊎ Parted t (suc i) P y
      go (inl b) = here b (pick-level (dec_lt i n))
      go (inr (d, o, b, e)) = inr (d, omega arith, b, e)

  pub before-all : (n : ℕ) (P y : Place) → Agree n P y → ((k : ℕ) → n ≤ k → k < t.m → P k ≡ t.start P k) → AtOrAfter t P y
  before-all n P y a s = looking n P y a s t.m (omega arith)

  -- (3) the first place
  pub first-place : (P y : Place) → ((k : ℕ) → k < t.m → P k ≡ t.start P k) → AtOrAfter t P y
  first-place P y s = before-all 0 P y (λ k o. absurd (omega arith)) (λ k o l. s k l)

-- ---- (1) what is not set aside stays at or after the new place

-- y is kept by a move; no move: there is no such y
abbrev pub Kept : Order → Place → Place → Option (ℕ × ℤ) → Type 0
Kept t P y None = ⊥
Kept t P y (Some r) = (P' : Place) → Moved t P r.0 r.1 P' → AtOrAfter t P' y

module _ {t : Order} (law : Laws t) (P y : Place) (box : Box t t.m y) where
  -- y leaves P above the level that moved
  kept_above : (j : ℕ) (v : ℤ) → j ≤ t.m → Parted t j P y → (P' : Place) → Moved t P j v P' → AtOrAfter t P' y
  kept_above j v l (d, o, a, e) P' q = inr (
    d,
    omega arith,
    (λ k n. sym (q.above k (omega arith)) ∙ a k n),
    subst₂ (λ s x. Later s x (y d)) (law.by-prefix P P' d (λ k n. q.above k (omega arith))) (q.above d o) e,
  )

  -- y leaves P at that level
  kept_here : (j : ℕ) (v : ℤ) → j < t.m → Agree j P y → (v ≡ y j) ⊎ Later (t.start P j) v (y j) → (P' : Place) → Moved t P j v P' → AtOrAfter t P' y
  kept_here j v l a (inl e) P' q = before-all t (suc j) P' y (λ k n. at k n (ℕ_discrete k j)) (λ k n o. q.deeper k (omega arith) o)
    where
      at : (k : ℕ) → k < suc j → Dec (k ≡ j) → P' k ≡ y k
      at k n (yes p) = rw p (q.here ∙ e)
      at k n (no p) = sym (q.above k (omega arith)) ∙ a k (omega arith)
  kept_here j v l a (inr e) P' q = inr (
    j,
    l,
    (λ k n. sym (q.above k n) ∙ a k n),
    subst₂ (λ s x. Later s x (y j)) (law.by-prefix P P' j (λ k n. q.above k n)) (sym q.here) e,
  )

  -- at level j the amount y j is reached by o, or y leaves P above
  or-else-here : (o : Option ℤ) (j : ℕ) (r : Option (ℕ × ℤ)) → j < t.m → Agree j P y → Reach (t.start P j) (y j) o → Kept t P y (or_else o j r)
  or-else-here None j r l a e = absurd e
  or-else-here (Some v) j r l a e = kept_here j v l a e

  or-else-above : (o : Option ℤ) (j : ℕ) (r : Option (ℕ × ℤ)) → j < t.m → Parted t j P y → Kept t P y r → Kept t P y (or_else o j r)
  or-else-above None j r l a k = k
  or-else-above (Some v) j r l a k = kept_above j v (omega arith) a

  pub carry-keeps : (n : ℕ) → n ≤ t.m → Parted t n P y → Kept t P y (past_prefix t n P)
  unfolding carry
  carry-keeps zero l (d, o, a, e) = omega arith
  carry-keeps (suc j) l (d, o, a, e) = go (ℕ_discrete d j) (λ w. carry-keeps j (omega arith) w)
    where
      go : Dec (d ≡ j) → (Parted t j P y → Kept t P y (past_prefix t j P)) → Kept t P y (past_prefix t (suc j) P)
      go (yes q) ih = or-else-here (next_value (t.lo j) (t.hi j) (t.start P j) (P j)) j (past_prefix t j P) (omega arith) (rw q at a)
          (next-reach (t.lo j) (t.hi j) (t.start P j) (P j) (y j) (box j (omega arith)) (rw q at e))
      go (no q) ih = or-else-above (next_value (t.lo j) (t.hi j) (t.start P j) (P j)) j (past_prefix t j P) (omega arith) (d, omega arith, a, e)
          (ih (d, omega arith, a, e))

  -- y is in the prefix that is set aside, or is kept
  pub prefix-or-kept : (n : ℕ) → n ≤ t.m → AtOrAfter t P y → Agree n P y ⊎ Kept t P y (past_prefix t n P)
  prefix-or-kept n l (inl a) = inl (λ k o. a k (omega arith))
  prefix-or-kept n l (inr (d, o, a, e)) = go (dec_lt d n)
    where
      go : Dec (d < n) → Agree n P y ⊎ Kept t P y (past_prefix t n P)
      go (yes q) = inr (carry-keeps n l (d, q, a, e))
      go (no q) = inl (λ k p. a k (omega arith))

  segment-reach : (d : ℕ) → d < t.m → t.start P d ≤ℤ P d → y d <ℤ t.start P d → Reach (t.start P d) (y d) (next_segment (t.lo d) (t.start P d) (P d))
  unfolding next_segment
  segment-reach d l h k = test (P d) (t.start P d) (Reach (t.start P d) (y d)) _ _ (λ n. absurd (less-no (P d) (t.start P d) n h))
      (λ n. below-start-reach (t.lo d) (t.start P d) (y d) (box d l).0 k)

  pub run-or-kept : (d : ℕ) → d < t.m → AtOrAfter t P y → Run t d P y ⊎ Kept t P y (past_run t d P)
  unfolding carry_segment
  run-or-kept d l (inl a) = inl ((λ k o. a k (omega arith)), segment-same (t.start P d) (P d) (y d) (a d l))
  run-or-kept d l (inr (c, o, a, e)) = go (dec_lt c d) (ℕ_discrete c d)
    where
      at : Agree d P y → Later (t.start P d) (P d) (y d) → Run t d P y ⊎ Kept t P y (past_run t d P)
      at b (inl (h, inl k)) = inl (b, inl (h, less-le (P d) (y d) k))
      at b (inl (h, inr k)) = inr (or-else-here (next_segment (t.lo d) (t.start P d) (P d)) d (past_prefix t d P) l b (segment-reach d l h k))
      at b (inr (h, k)) = inl (b, inr (h, less-le (y d) (P d) k))

      go : Dec (c < d) → Dec (c ≡ d) → Run t d P y ⊎ Kept t P y (past_run t d P)
      go (yes q) w = inr (or-else-above (next_segment (t.lo d) (t.start P d) (P d)) d (past_prefix t d P) l (c, q, a, e)
          (carry-keeps d (omega arith) (c, q, a, e)))
      go (no q) (yes w) = at (rw w at a) (rw w at e)
      go (no q) (no w) = inl ((λ k n. a k (omega arith)), segment-same (t.start P d) (P d) (y d) (a d (omega arith)))

-- ---- (2) the measure: each level counts what is left of it, as digits do

abbrev pub width : Order → ℕ → ℕ
width t d = suc (nat_abs (t.hi d -ℤ t.lo d))

unfoldable pub rank : Order → ℕ → Place → ℕ
rank t zero P = 0
rank t (suc d) P = rank t d P * width t d + left (t.lo d) (t.hi d) (t.start P d) (P d)

abbrev pub μ : Order → Place → ℕ
μ t P = rank t t.m P

-- a move goes to a later amount in the box, at a level below n
abbrev pub Sound : Order → ℕ → Place → Option (ℕ × ℤ) → Type 0
Sound t n P None = Unit {0}
Sound t n P (Some r) = (r.0 < n) × In (t.lo r.0) (t.hi r.0) r.1 × Later (t.start P r.0) (P r.0) r.1

module _ {t : Order} (law : Laws t) (P : Place) (box : Box t t.m P) where
  start-in : (d : ℕ) → d < t.m → In (t.lo d) (t.hi d) (t.start P d)
  start-in d l = law.inside P d l (λ k o. box k (omega arith))

  or-else-sound : (o : Option ℤ) (j : ℕ) (r : Option (ℕ × ℤ)) → Good (t.lo j) (t.hi j) (t.start P j) (P j) o → Sound t j P r
      → Sound t (suc j) P (or_else o j r)
  or-else-sound None j None g h = tt
  or-else-sound None j (Some r) g h = (omega arith, h.1, h.2)
  or-else-sound (Some v) j r g h = (omega arith, g.0, g.1)

  pub carry-sound : (n : ℕ) → n ≤ t.m → Sound t n P (past_prefix t n P)
  unfolding carry
  carry-sound zero l = tt
  carry-sound (suc j) l = or-else-sound (next_value (t.lo j) (t.hi j) (t.start P j) (P j)) j (past_prefix t j P)
      (next-good (t.lo j) (t.hi j) (t.start P j) (P j) (start-in j (omega arith)) (box j (omega arith))) (carry-sound j (omega arith))

  pub run_sound : (d : ℕ) → d < t.m → Sound t (suc d) P (past_run t d P)
  unfolding carry_segment
  run_sound d l = or-else-sound (next_segment (t.lo d) (t.start P d) (P d)) d (past_prefix t d P)
      (segment-good (t.lo d) (t.hi d) (t.start P d) (P d) (start-in d l)) (carry-sound d (omega arith))

  module _ (j : ℕ) (v : ℤ) (j-in : j < t.m) (v-in : In (t.lo j) (t.hi j) v) (P' : Place) (q : Moved t P j v P') where
    -- the new place is in the box
    pub moved-box : (n : ℕ) → n ≤ t.m → Box t n P'
    moved-box zero l k o = absurd (omega arith)
    moved-box (suc n) l k o = go (ℕ_discrete k n) (moved-box n (omega arith))
      where
        at : Box t n P' → Dec (n < j) → Dec (n ≡ j) → In (t.lo n) (t.hi n) (P' n)
        at b (yes w) z = subst (In (t.lo n) (t.hi n)) (q.above n w) (box n (omega arith))
        at b (no w) (yes z) = rw z (subst (In (t.lo j) (t.hi j)) (sym q.here) v-in)
        at b (no w) (no z) = subst (In (t.lo n) (t.hi n)) (sym (q.deeper n (omega arith) (omega arith))) (law.inside P' n (omega arith) b)

        go : Dec (k ≡ n) → Box t n P' → In (t.lo k) (t.hi k) (P' k)
        go (yes e) b = rw e (at b (dec_lt n j) (ℕ_discrete n j))
        go (no e) b = b k (omega arith)

    same_rank : (n : ℕ) → n ≤ j → rank t n P' ≡ rank t n P
    unfolding rank
    same_rank zero l = refl
    same_rank (suc n) l = rw (same_rank n (omega arith), sym (law.by-prefix P P' n (λ k o. q.above k (omega arith))), sym (q.above n l))

    falls_at : Later (t.start P j) (P j) v → rank t (suc j) P' < rank t (suc j) P
    unfolding rank
    falls_at e = rw (same_rank j (omega arith), sym (law.by-prefix P P' j (λ k o. q.above k o)), q.here)
        (omega (arith, left_less (t.lo j) (t.hi j) (t.start P j) (P j) v (start-in j j-in) (box j j-in) v-in e))

    falls-deeper : (n : ℕ) → j < n → n < t.m → rank t n P' < rank t n P → rank t (suc n) P' < rank t (suc n) P
    unfolding rank
    falls-deeper n o l h =
        omega (
          arith,
          mul-le-mul_right (width t n) h,
          left-most (t.lo n) (t.hi n) (t.start P' n) (P' n) (law.inside P' n l (moved-box n (omega arith))) (moved-box (suc n) l n (omega arith)),
        )

    falling : Later (t.start P j) (P j) v → (n : ℕ) → j < n → n ≤ t.m → rank t n P' < rank t n P
    falling e zero o l = absurd (omega arith)
    falling e (suc n) o l = go (ℕ_discrete n j) (λ w. falling e n w (omega arith))
      where
        go : Dec (n ≡ j) → (j < n → rank t n P' < rank t n P) → rank t (suc n) P' < rank t (suc n) P
        go (yes w) ih = rw w (falls_at e)
        go (no w) ih = falls-deeper n (omega arith) (omega arith) (ih (omega arith))

    pub falls : Later (t.start P j) (P j) v → μ t P' < μ t P
    falls e = falling e t.m j-in (omega arith)

-- what a step's move gives, whatever place has it: the place is in the box, and the measure falls
pub move-falls : {t : Order} (law : Laws t) (P : Place) → Box t t.m P → (n : ℕ) → n ≤ t.m → (r : ℕ × ℤ) → Sound t n P (Some r) → (P' : Place)
    → Moved t P r.0 r.1 P' → Box t t.m P' × (μ t P' < μ t P)
move-falls {t} law P box n l r h P' q =
    (moved-box law P box r.0 r.1 (omega arith) h.1 P' q t.m (omega arith), falls law P box r.0 r.1 (omega arith) h.1 P' q h.2)

-- End theorem: a move goes forward. The new place, and all at or after it, come after the old one.
pub after-moved : {t : Order} (law : Laws t) (P : Place) (n : ℕ) → n ≤ t.m → (r : ℕ × ℤ) → Sound t n P (Some r) → (P' y : Place) → Moved t P r.0 r.1 P'
    → AtOrAfter t P' y → Parted t t.m P y
after-moved {t} law P n l (j, v) (jn, vi, e) P' y q w = go w
  where
    s-same : (d : ℕ) → d ≤ j → t.start P' d ≡ t.start P d
    s-same d o = sym (law.by-prefix P P' d (λ k p. q.above k (omega arith)))

    agree : (d : ℕ) → d ≤ j → Agree d P' y → Agree d P y
    agree d o a k p = q.above k (omega arith) ∙ a k p

    here : Agree j P' y → v ≡ y j → Parted t t.m P y
    here a x = (j, omega arith, agree j (omega arith) a, subst (Later (t.start P j) (P j)) x e)

    go : AtOrAfter t P' y → Parted t t.m P y
    go (inl a) = here (λ k o. a k (omega arith)) (sym q.here ∙ a j (omega arith))
    go (inr (d, o, a, f)) = at (dec_lt d j) (ℕ_discrete d j)
      where
        at : Dec (d < j) → Dec (d ≡ j) → Parted t t.m P y
        at (yes x) z = (d, o, agree d (omega arith) a, subst₂ (λ s x. Later s x (y d)) (s-same d (omega arith)) (sym (q.above d x)) f)
        at (no x) (yes z) = (
          j,
          omega arith,
          agree j (omega arith) (rw z at a),
          later_trans (t.start P j) (P j) v (y j) e (subst₂ (λ s x. Later s x (y j)) (s-same j (omega arith)) q.here (rw z at f)),
        )
        at (no x) (no z) = here (λ k p. a k (omega arith)) (sym q.here ∙ a j (omega arith))

-- ---- of two places one comes first: `Parted t m B P` says that B is an earlier place than P

module _ {t : Order} (law : Laws t) where
  -- End theorem: an earlier place is not to come.
  pub earlier-not : (B P : Place) → Parted t t.m B P → ¬ AtOrAfter t P B
  earlier-not B P (d, o, a, e) (inl b) = later-not (t.start B d) (B d) (P d) e (inl (sym (b d o)))
  earlier-not B P (d, o, a, e) (inr (c, p, b, f)) = go (dec_lt c d) (dec_lt d c)
    where
      here : c ≡ d → Later (t.start B d) (P d) (B d)
      here q = rw (law.by-prefix B P d a) (rw q at f)

      go : Dec (c < d) → Dec (d < c) → ⊥
      go (yes q) w = later-not (t.start P c) (P c) (B c) f (inl (sym (a c q)))
      go (no q) (yes w) = later-not (t.start B d) (B d) (P d) e (inl (sym (b d w)))
      go (no q) (no w) = later-not (t.start B d) (B d) (P d) e (inr (here (omega arith)))

  comparing : (P y : Place) (i : ℕ) → i ≤ t.m → Agree i P y ⊎ (Parted t i P y ⊎ Parted t i y P)
  comparing P y zero l = inl (λ k o. absurd (omega arith))
  comparing P y (suc i) l = go (comparing P y i (omega arith))
    where
      here : Agree i P y → (P i ≡ y i) ⊎ (Later (t.start P i) (P i) (y i) ⊎ Later (t.start P i) (y i) (P i)) → Agree (suc i) P y
          ⊎ (Parted t (suc i) P y ⊎ Parted t (suc i) y P)
      here b (inl e) = inl (λ k o. at k o (ℕ_discrete k i))
        where
          at : (k : ℕ) → k < suc i → Dec (k ≡ i) → P k ≡ y k
          at k o (yes q) = rw q e
          at k o (no q) = b k (omega arith)
      here b (inr (inl e)) = inr (inl (i, omega arith, b, e))
      here b (inr (inr e)) = inr (inr (i, omega arith, (λ k o. sym (b k o)), rw (law.by-prefix P y i b) at e))

      go : Agree i P y ⊎ (Parted t i P y ⊎ Parted t i y P) → Agree (suc i) P y ⊎ (Parted t (suc i) P y ⊎ Parted t (suc i) y P)
      go (inl b) = here b (later-total (t.start P i) (P i) (y i))
      go (inr (inl (d, o, b, e))) = inr (inl (d, omega arith, b, e))
      go (inr (inr (d, o, b, e))) = inr (inr (d, omega arith, b, e))

  -- End theorem: of two places the one is at or after the other, or before it.
  pub compare-places : (P y : Place) → AtOrAfter t P y ⊎ Parted t t.m y P
  compare-places P y = go (comparing P y t.m (omega arith))
    where
      go : Agree t.m P y ⊎ (Parted t t.m P y ⊎ Parted t t.m y P) → AtOrAfter t P y ⊎ Parted t t.m y P
      go (inl a) = inl (inl a)
      go (inr (inl a)) = inl (inr a)
      go (inr (inr a)) = inr a

-- ---- the new place exists: the starts are put in from level j on, one after the other

pub put : Place → ℕ → ℤ → Place
put P i v k = pick (ℕ_discrete k i) v (P k)

pub put_same : (P : Place) (i : ℕ) (v : ℤ) → put P i v i ≡ v
unfolding put
put_same P i v = pick_ind (λ z. z ≡ v) (ℕ_discrete i i) _ _ (λ e. refl) (λ e. absurd (e refl))

pub put_other : (P : Place) (i : ℕ) (v : ℤ) (k : ℕ) → k ≢ i → put P i v k ≡ P k
unfolding put
put_other P i v k h = pick_ind (λ z. z ≡ P k) (ℕ_discrete k i) _ _ (λ e. absurd (h e)) (λ e. refl)

-- levels j .. j + n - 1 of P become starts
unfoldable pub deepen : Order → ℕ → ℕ → Place → Place
deepen t zero j P = P
deepen t (suc n) j P = put (deepen t n j P) (j + n) (t.start (deepen t n j P) (j + n))

module _ {t : Order} (law : Laws t) where
  pub deepen-above : (n j : ℕ) (P : Place) → Agree j P (deepen t n j P)
  unfolding deepen
  deepen-above zero j P k o = refl
  deepen-above (suc n) j P k o = deepen-above n j P k o ∙ sym (put_other (deepen t n j P) (j + n) (t.start (deepen t n j P) (j + n)) k (omega arith))

  pub deepen-starts : (n j : ℕ) (P : Place) (k : ℕ) → j ≤ k → k < j + n → deepen t n j P k ≡ t.start (deepen t n j P) k
  unfolding deepen
  deepen-starts zero j P k l o = absurd (omega arith)
  deepen-starts (suc n) j P k l o = go (ℕ_discrete k (j + n)) (λ w. deepen-starts n j P k l w)
    where
      R : Place
      R = deepen t n j P

      still : (i : ℕ) → i ≤ j + n → t.start R i ≡ t.start (put R (j + n) (t.start R (j + n))) i
      still i w = law.by-prefix R (put R (j + n) (t.start R (j + n))) i (λ a b. sym (put_other R (j + n) (t.start R (j + n)) a (omega arith)))

      go : Dec (k ≡ j + n) → (k < j + n → R k ≡ t.start R k) → put R (j + n) (t.start R (j + n)) k ≡ t.start (put R (j + n) (t.start R (j + n))) k
      go (yes e) ih = rw e (put_same R (j + n) (t.start R (j + n)) ∙ still (j + n) (omega arith))
      go (no e) ih = put_other R (j + n) (t.start R (j + n)) k e ∙ ih (omega arith) ∙ still k (omega arith)

  pub moved : (P : Place) (j : ℕ) (v : ℤ) → (P' : Place) × Moved t P j v P'
  moved P j v = (
    deepen t t.m (suc j) (put P j v),
    record {
      above = λ k o. sym (put_other P j v k (omega arith)) ∙ deepen-above t.m (suc j) (put P j v) k (omega arith);
      here = sym (deepen-above t.m (suc j) (put P j v) j (omega arith)) ∙ put_same P j v;
      deeper = λ k o l. deepen-starts t.m (suc j) (put P j v) k (omega arith) (omega arith);
    },
  )

  pub first : (P : Place) × Each t.m (λ k. P k ≡ t.start P k)
  first = (deepen t t.m 0 t.lo, λ k l. deepen-starts t.m 0 t.lo k (omega arith) (omega arith))

  pub starts-box : (P : Place) → Each t.m (λ k. P k ≡ t.start P k) → (n : ℕ) → n ≤ t.m → Box t n P
  starts-box P s zero l k o = absurd (omega arith)
  starts-box P s (suc n) l k o = go (ℕ_discrete k n) (starts-box P s n (omega arith))
    where
      go : Dec (k ≡ n) → Box t n P → In (t.lo k) (t.hi k) (P k)
      go (yes e) b = rw e (subst (In (t.lo n) (t.hi n)) (sym (s n (omega arith))) (law.inside P n (omega arith) b))
      go (no e) b = b k (omega arith)

-- ---- the search: every place of the box is settled, or still to come

abbrev pub Covers : Order → (Place → Type 0) → Place → Type 0
Covers t S P = (y : Place) → Box t t.m y → S y ⊎ AtOrAfter t P y

abbrev pub All : Order → (Place → Type 0) → Type 0
All t S = (y : Place) → Box t t.m y → S y

-- what a step leaves: the invariant at the new place, or, at the end, all settled
abbrev pub Leaves : Order → (Place → Type 0) → Place → Option (ℕ × ℤ) → Type 0
Leaves t S P None = All t S
Leaves t S P (Some r) = (P' : Place) → Moved t P r.0 r.1 P' → Covers t S P'

module _ {t : Order} (law : Laws t) (S : Place → Type 0) where
  pub covers-first : (P : Place) → Each t.m (λ k. P k ≡ t.start P k) → Covers t S P
  covers-first P s y b = inr (first-place t P y s)

  leaves : (P : Place) (o : Option (ℕ × ℤ)) → ((y : Place) → Box t t.m y → S y ⊎ Kept t P y o) → Leaves t S P o
  leaves P None f = λ y b. ⊎_elim (λ s. s) (λ k. absurd k) (f y b)
  leaves P (Some r) f = λ P' q y b. ⊎_elim (λ s. inl s) (λ k. inr (k P' q)) (f y b)

  -- a prefix of n levels is set aside (a domination pair)
  pub skip-prefix : (P : Place) (n : ℕ) → n ≤ t.m → ((y : Place) → Box t t.m y → Agree n P y → S y) → Covers t S P → Leaves t S P (past_prefix t n P)
  skip-prefix P n l s c =
      leaves P (past_prefix t n P) (λ y b. ⊎_elim (λ w. inl w) (λ w. ⊎_elim (λ a. inl (s y b a)) (λ k. inr k) (prefix-or-kept law P y b n l w)) (c y b))

  -- a run is set aside (a bound on its hull)
  pub skip-run : (P : Place) (d : ℕ) → d < t.m → ((y : Place) → Box t t.m y → Run t d P y → S y) → Covers t S P → Leaves t S P (past_run t d P)
  skip-run P d l s c = leaves P (past_run t d P) (λ y b. ⊎_elim (λ w. inl w) (λ w. ⊎_elim (λ a. inl (s y b a)) (λ k. inr k) (run-or-kept law P y b d l w))
      (c y b))

-- the incumbent got better: what was settled stays so
pub covers-mono : (t : Order) (S S' : Place → Type 0) (P : Place) → ((y : Place) → S y → S' y) → Covers t S P → Covers t S' P
covers-mono t S S' P f c y b = ⊎_elim (λ s. inl (f y s)) (λ a. inr a) (c y b)
