-- `NoRay` is complete: where it fails there is a ray of one or two items. So every instance escapes or stays in reach.
use mathlib.Core.Path.{◌≡◌, refl, sym, ap, ap₂, ◌∙◌, subst}
use mathlib.Core.Logic.{◌≢◌, ◌⊎◌, inl, inr}
use Prim.Native.Nat.{ℕ, zero, suc, ◌≤◌, ◌<◌}
use native.Mathlib.Omega.{arith}
use native.Mathlib.Decide.{ℕ_discrete}
use lib.IntN.{ℤ, pos, neg_ℤ, nat_abs, ◌+ℤ◌, ◌*ℤ◌, *ℤ-zero}
use lib.Signed.{◌≤ℤ◌, ◌<ℤ◌}
use Rattle.arith.proofs.Integers.{split, split2, zed, ≤ℤ-or-<}
use Rattle.arith.proofs.Sums.{bump-same, bump-other, each-bump, sum_bump}
use Rattle.arith.specs.Sum.{sum, Each, bump}
use Rattle.knapsack.proofs.Rays.{Ray, ray-unbounded}
use Rattle.knapsack.proofs.Reach.{Way, fore, aft, turn, Free, NoRay, turn-mul, abs-up, abs-dn}
use Rattle.knapsack.specs.Meaning.{Instance, Point, Feasible, Unbounded, weights, prices}
use Rattle.std.specs.Prelude.{Option, None, Some}
use Rattle.knapsack.specs.declared.Item.{Item}

-- steps on i and j alone that make the instance unbounded
pub record Escape (s : Instance) : Type 0 where
  pub d : ℕ → ℤ
  pub i : ℕ
  pub j : ℕ
  pub i-in : i < s.count
  pub j-in : j < s.count
  pub i-moves : d i ≢ pos 0
  pub j-moves : d j ≢ pos 0
  pub others : (k : ℕ) → k ≢ i → k ≢ j → d k ≡ pos 0
  pub ray : Ray s d

-- End theorem: from every feasible point an escape is what an unbounded answer shows.
pub escape : (s : Instance) (x : Point) (c : Escape s) → Feasible s x → Unbounded s x c.d
escape s x c p = ray-unbounded s x c.d c.i c.j c.i-in c.j-in c.i-moves c.j-moves c.others c.ray p

-- a step r meets no bound of i
abbrev FreeBy : Item → ℤ → Type 0
FreeBy i r = (pos 0 <ℤ r → i.upper ≡ None) × (r <ℤ pos 0 → i.lower ≡ None)

free-by : (w : Way) (i : Item) (n : ℕ) → Free w i → FreeBy i (turn w (pos n))
free-by fore i n h = (λ k. h, λ k. absurd (no n k))
  where
    no : (n : ℕ) → pos n <ℤ pos 0 → ⊥
    no n = simp zed (omega arith)
free-by aft i n h = (λ k. absurd (no n k), λ k. h)
  where
    no : (n : ℕ) → pos 0 <ℤ neg_ℤ (pos n) → ⊥
    no n = simp zed (omega arith)

rest : ℕ → ℤ
rest k = pos 0

free-rest : (i : Item) → FreeBy i (pos 0)
free-rest i = (λ k. absurd k.lt, λ k. absurd k.lt)

zero-plus : (r : ℤ) → r ≡ pos 0 +ℤ r
zero-plus = split _ (λ a b. simp zed (omega arith))

sum-rest : (n : ℕ) (a : ℕ → ℤ) → sum n (λ k. a k *ℤ rest k) ≡ pos 0
unfolding rest
sum-rest zero a = refl
sum-rest (suc n) a = rw (sum-rest n a, *ℤ-zero (a n)) refl

sum_one : (n : ℕ) (a : ℕ → ℤ) (i : ℕ) (r : ℤ) → i < n → sum n (λ k. a k *ℤ bump rest i r k) ≡ a i *ℤ r
sum_one n a i r l = sum_bump n a rest i r l ∙ ap (λ z. z +ℤ a i *ℤ r) (sum-rest n a) ∙ sym (zero-plus (a i *ℤ r))

sum-two : (n : ℕ) (a : ℕ → ℤ) (i j : ℕ) (r t : ℤ) → i < n → j < n → sum n (λ k. a k *ℤ bump (bump rest i r) j t k) ≡ a i *ℤ r +ℤ a j *ℤ t
sum-two n a i j r t l m = sum_bump n a (bump rest i r) j t m ∙ ap (λ z. z +ℤ a j *ℤ t) (sum_one n a i r l)

escape-one : (s : Instance) (k : ℕ) (w : Way) → k < s.count → Free w (s.item k) → turn w (weights s k) ≤ℤ pos 0 → pos 0 <ℤ turn w (prices s k) → Escape s
unfolding rest
escape-one s k w l f light gain = record {
  d = bump rest k r;
  i = k;
  j = k;
  i-in = l;
  j-in = l;
  i-moves = rw (bump-same rest k r) (moves w);
  j-moves = rw (bump-same rest k r) (moves w);
  others = λ m n o. bump-other rest k r m n;
  ray = record {
    up = λ m o. (free m o).0;
    down = λ m o. (free m o).1;
    light = rw (sum_one s.count (weights s) k r l, turn-mul w (weights s k) (pos 1)) (one≤ (turn w (weights s k)) light);
    gain = rw (sum_one s.count (prices s) k r l, turn-mul w (prices s k) (pos 1)) (one< (turn w (prices s k)) gain);
  };
}
  where
    r : ℤ
    r = turn w (pos 1)

    free : Each s.count (λ m. FreeBy (s.item m) (bump rest k r m))
    free = each-bump (λ m. FreeBy (s.item m)) rest k r s.count (λ m o. free-rest (s.item m))
        (subst (FreeBy (s.item k)) (zero-plus r) (free-by w (s.item k) 1 f))

    moves : (w : Way) → pos 0 +ℤ turn w (pos 1) ≢ pos 0
    moves fore = simp zed (omega arith)
    moves aft = simp zed (omega arith)

    one≤ : (x : ℤ) → x ≤ℤ pos 0 → (x *ℤ pos 1) ≤ℤ pos 0
    one≤ = split _ (λ a b. simp zed (omega arith))

    one< : (x : ℤ) → pos 0 <ℤ x → pos 0 <ℤ (x *ℤ pos 1)
    one< = split _ (λ a b. simp zed (omega arith))

escape-two : (s : Instance) (i j : ℕ) (v w : Way) → i < s.count → j < s.count → Free v (s.item i) → Free w (s.item j) → pos 0 <ℤ turn v (weights s i) →
    turn w (weights s j) <ℤ pos 0
    → pos 0 <ℤ (turn v (prices s i) *ℤ neg_ℤ (turn w (weights s j)) +ℤ turn w (prices s j) *ℤ turn v (weights s i)) → Escape s
unfolding rest
escape-two s i j v w li lj fi fj heavy light gain = record {
  d = bump (bump rest i r) j t;
  i = i;
  j = j;
  i-in = li;
  j-in = lj;
  i-moves = rw (bump-other (bump rest i r) j t i (λ e. ne (sym e)), bump-same rest i r) (moves v (nat_abs (weights s j)) (1≤dn (weights s j) w light));
  j-moves = rw (bump-same (bump rest i r) j t, bump-other rest i r j ne) (moves w (nat_abs (weights s i)) (1≤up (weights s i) v heavy));
  others = λ m n o. bump-other (bump rest i r) j t m o ∙ bump-other rest i r m n;
  ray = record {
    up = λ m o. (free m o).0;
    down = λ m o. (free m o).1;
    light = rw (sum-two s.count (weights s) i j r t li lj, effect (weights s)) (even (turn v (weights s i)) (turn w (weights s j)));
    gain = rw (sum-two s.count (prices s) i j r t li lj, effect (prices s)) gain;
  };
}
  where
    r : ℤ
    r = turn v (pos (nat_abs (weights s j)))

    t : ℤ
    t = turn w (pos (nat_abs (weights s i)))

    clash : (v w : Way) (a c : ℤ) → pos 0 <ℤ turn v a → turn w a <ℤ pos 0 → pos 0 <ℤ (turn v c *ℤ neg_ℤ (turn w a) +ℤ turn w c *ℤ turn v a) → ⊥
    clash fore fore = split2 _ (λ a b c e. simp zed (omega arith))
    clash fore aft = split2 _ (λ a b c e. simp zed (omega arith))
    clash aft fore = split2 _ (λ a b c e. simp zed (omega arith))
    clash aft aft = split2 _ (λ a b c e. simp zed (omega arith))

    ne : j ≢ i
    ne e = clash v w (weights s i) (prices s i) heavy (rw e at light) (rw e at gain)

    1≤up : (a : ℤ) (w : Way) → pos 0 <ℤ turn w a → 1 ≤ nat_abs a
    1≤up a w h = go (nat_abs a) (rw (← abs-up w a h) at h)
      where
        go : (n : ℕ) → pos 0 <ℤ pos n → 1 ≤ n
        go n = simp zed (omega arith)

    1≤dn : (a : ℤ) (w : Way) → turn w a <ℤ pos 0 → 1 ≤ nat_abs a
    1≤dn a w h = go (nat_abs a) (turn w a) h (abs-dn w a h)
      where
        go : (n : ℕ) (x : ℤ) → x <ℤ pos 0 → pos n ≡ neg_ℤ x → 1 ≤ n
        go n = split _ (λ a b. simp zed (omega arith))

    moves : (w : Way) (n : ℕ) → 1 ≤ n → pos 0 +ℤ turn w (pos n) ≢ pos 0
    moves fore n = simp zed (omega arith)
    moves aft n = simp zed (omega arith)

    free : Each s.count (λ m. FreeBy (s.item m) (bump (bump rest i r) j t m))
    free = each-bump (λ m. FreeBy (s.item m)) (bump rest i r) j t s.count
        (each-bump (λ m. FreeBy (s.item m)) rest i r s.count (λ m o. free-rest (s.item m))
        (subst (FreeBy (s.item i)) (zero-plus r) (free-by v (s.item i) (nat_abs (weights s j)) fi)))
        (rw (bump-other rest i r j ne) (subst (FreeBy (s.item j)) (zero-plus t) (free-by w (s.item j) (nat_abs (weights s i)) fj)))

    effect : (a : ℕ → ℤ) → a i *ℤ r +ℤ a j *ℤ t ≡ turn v (a i) *ℤ neg_ℤ (turn w (weights s j)) +ℤ turn w (a j) *ℤ turn v (weights s i)
    effect a = ap₂ ◌+ℤ◌ (turn-mul v (a i) (pos (nat_abs (weights s j))) ∙ ap (λ z. turn v (a i) *ℤ z) (abs-dn w (weights s j) light))
        (turn-mul w (a j) (pos (nat_abs (weights s i))) ∙ ap (λ z. turn w (a j) *ℤ z) (abs-up v (weights s i) heavy))

    even : (x y : ℤ) → (x *ℤ neg_ℤ y +ℤ y *ℤ x) ≤ℤ pos 0
    even = split2 _ (λ a b c e. simp zed (omega arith))

-- ---- the scan

all_ways : {E : Type 0} (P : Way → Type 0) → ((w : Way) → P w ⊎ E) → ((w : Way) → P w) ⊎ E
all_ways {E} P d = go (d fore) (d aft)
  where
    both : P fore → P aft → (w : Way) → P w
    both p q fore = p
    both p q aft = q

    go : P fore ⊎ E → P aft ⊎ E → ((w : Way) → P w) ⊎ E
    go (inl p) (inl q) = inl (both p q)
    go (inl p) (inr e) = inr e
    go (inr e) q = inr e

all-below : {E : Type 0} (n : ℕ) (P : ℕ → Type 0) → ((k : ℕ) → k < n → P k ⊎ E) → Each n P ⊎ E
all-below zero P d = inl (λ k l. absurd (omega arith))
all-below {E} (suc n) P d = go (all-below n P (λ k l. d k (omega arith))) (d n (omega arith))
  where
    last : Each n P → P n → (k : ℕ) → k < suc n → Dec (k ≡ n) → P k
    last h p k l (yes e) = rw e p
    last h p k l (no e) = h k (omega arith)

    go : Each n P ⊎ E → P n ⊎ E → Each (suc n) P ⊎ E
    go (inl h) (inl p) = inl (λ k l. last h p k l (ℕ_discrete k n))
    go (inl h) (inr e) = inr e
    go (inr e) p = inr e

abbrev Here : Option ℤ → Type 0
Here None = ⊥
Here (Some b) = Unit {0}

none? : (o : Option ℤ) → (o ≡ None) ⊎ (¬ (o ≡ None))
none? None = inl refl
none? (Some b) = inr (λ e. subst Here e tt)

free? : (w : Way) (i : Item) → Free w i ⊎ (¬ Free w i)
free? fore i = none? i.upper
free? aft i = none? i.lower

pub rays : (s : Instance) → NoRay s ⊎ Escape s
rays s = go (all-below s.count (λ k. (w : Way) → One k w)
    (λ k l. all_ways (One k) (λ w. one k w l (free? w (s.item k)) (≤ℤ-or-< (turn w (weights s k)) (pos 0)) (≤ℤ-or-< (turn w (prices s k)) (pos 0)))))
    (all-below s.count (λ i. Each s.count (λ j. (v w : Way) → Two i j v w))
    (λ i l. all-below s.count (λ j. (v w : Way) → Two i j v w) (λ j m. all_ways (λ v. (w : Way) → Two i j v w) (λ v. all_ways (Two i j v) (λ w.
    two i j v w l m (free? v (s.item i)) (free? w (s.item j)) (≤ℤ-or-< (turn v (weights s i)) (pos 0)) (≤ℤ-or-< (pos 0) (turn w (weights s j)))
    (≤ℤ-or-< (turn v (prices s i) *ℤ neg_ℤ (turn w (weights s j)) +ℤ turn w (prices s j) *ℤ turn v (weights s i)) (pos 0)))))))
  where
    One : ℕ → Way → Type 0
    One k w = Free w (s.item k) → turn w (weights s k) ≤ℤ pos 0 → turn w (prices s k) ≤ℤ pos 0

    Two : ℕ → ℕ → Way → Way → Type 0
    Two i j v w = Free v (s.item i) → Free w (s.item j) → pos 0 <ℤ turn v (weights s i) → pos 0 <ℤ turn v (prices s i) → turn w (weights s j) <ℤ pos 0
        → (turn v (prices s i) *ℤ neg_ℤ (turn w (weights s j)) +ℤ turn w (prices s j) *ℤ turn v (weights s i)) ≤ℤ pos 0

    clash : (x y : ℤ) → x <ℤ y → y ≤ℤ x → ⊥
    clash = split2 _ (λ a b c e. simp zed (omega arith))

    one : (k : ℕ) (w : Way) → k < s.count → Free w (s.item k) ⊎ (¬ Free w (s.item k)) → (turn w (weights s k) ≤ℤ pos 0) ⊎ (pos 0 <ℤ turn w (weights s k)) →
        (turn w (prices s k) ≤ℤ pos 0) ⊎ (pos 0 <ℤ turn w (prices s k)) → One k w ⊎ Escape s
    one k w l (inr f) a c = inl (λ h. absurd (f h))
    one k w l (inl f) (inr a) c = inl (λ h m. absurd (clash _ _ a m))
    one k w l (inl f) (inl a) (inl c) = inl (λ h m. c)
    one k w l (inl f) (inl a) (inr c) = inr (escape-one s k w l f a c)

    two : (i j : ℕ) (v w : Way) → i < s.count → j < s.count → Free v (s.item i) ⊎ (¬ Free v (s.item i)) → Free w (s.item j) ⊎ (¬ Free w (s.item j))
        → (turn v (weights s i) ≤ℤ pos 0) ⊎ (pos 0 <ℤ turn v (weights s i)) → (pos 0 ≤ℤ turn w (weights s j)) ⊎ (turn w (weights s j) <ℤ pos 0)
        → ((turn v (prices s i) *ℤ neg_ℤ (turn w (weights s j)) +ℤ turn w (prices s j) *ℤ turn v (weights s i)) ≤ℤ pos 0) ⊎
        (pos 0 <ℤ (turn v (prices s i) *ℤ neg_ℤ (turn w (weights s j)) +ℤ turn w (prices s j) *ℤ turn v (weights s i)))
        → Two i j v w ⊎ Escape s
    two i j v w l m (inr f) g a c d = inl (λ h. absurd (f h))
    two i j v w l m (inl f) (inr g) a c d = inl (λ h k. absurd (g k))
    two i j v w l m (inl f) (inl g) (inl a) c d = inl (λ h k o. absurd (clash _ _ o a))
    two i j v w l m (inl f) (inl g) (inr a) (inl c) d = inl (λ h k o p q. absurd (clash _ _ q c))
    two i j v w l m (inl f) (inl g) (inr a) (inr c) (inl d) = inl (λ h k o p q. d)
    two i j v w l m (inl f) (inl g) (inr a) (inr c) (inr d) = inr (escape-two s i j v w l m f g a c d)

    go : Each s.count (λ k. (w : Way) → One k w) ⊎ Escape s → Each s.count (λ i. Each s.count (λ j. (v w : Way) → Two i j v w)) ⊎ Escape s →
        NoRay s ⊎ Escape s
    go (inl f) (inl g) = inl (record { one = λ k l w. f k l w; two = λ i j l m v w. g i l j m v w })
    go (inl f) (inr e) = inr e
    go (inr e) g = inr e
