-- No ray: amounts beyond a reach are pointless. Steps towards 0, which do not lower the value, lead within it.
--   RangesAt A B C s    an item that lacks a bound weighs at most A, item k's bounds are within ±B k, and the capacity is within ±C
--   Reaches A B C s R   R k is a reach for item k of such a problem
--   shut_at R s          s with item k's absent bounds at ±R k
-- reach-at-most-at, reach-empty-at, reach-optimal-at: what holds of shut_at R s holds of s.
-- Ranges, shut, out-of-shut: an instance at the limits of the format, where 300,000,000 is a reach.
use mathlib.Core.Path.{◌≡◌, refl, sym, ap, ap₂, ◌∙◌, subst}
use mathlib.Core.Logic.{◌≢◌, ◌⊎◌, inl, inr}
use Prim.Native.Nat.{ℕ, zero, suc, ◌+◌, ◌*◌, ◌-◌, ◌≤◌, ◌<◌}
use native.Mathlib.Omega.{arith}
use native.Mathlib.Decide.{dec_lt}
use native.Mathlib.Nat.{mul-le-mul, mul-le-mul_left, mul-le-mul_right, le_of_mul-le-mul_left}
use lib.IntN.{ℤ, pos, negsuc, neg_ℤ, nat_abs, ◌+ℤ◌, ◌-ℤ◌, ◌*ℤ◌}
use lib.Signed.{◌≤ℤ◌, ◌<ℤ◌, ≤ℤ_refl}
use Rattle.arith.proofs.Integers.{split, split2, split3, split4, zed, ≤ℤ-trans, ≤ℤ-reflexive, ≤ℤ-or-<, times-≤, nat_abs_mul}
use Rattle.arith.proofs.Sums.{bump-other, each-bump, sum_bump, sum-cong, sum-scale, part-of-sum, far, far-bump, find}
use Rattle.arith.specs.Limits.{farthest}
use Rattle.arith.specs.Sum.{sum, Each, bump}
use Rattle.knapsack.proofs.Branch.{AtMost, boxed, into-box}
use Rattle.knapsack.proofs.Climb.{descend}
use Rattle.knapsack.proofs.Common.{KeepsMarkᴰ, KeepsLowerᴰ, KeepsUpperᴰ, Keepsᴰ, weighsᴰ, valueᴰ, Feasibleᴰ, Optimalᴰ}
use Rattle.knapsack.proofs.Dual.{Within, within}
use Rattle.knapsack.proofs.Moves.{mark-step, shift, sum-shift, keeps-shift}
use Rattle.knapsack.specs.Meaning.{Instance, weights, prices}
use Rattle.std.specs.Prelude.{Option, None, Some}
use Rattle.knapsack.specs.declared.Item.{Item}
use Rattle.knapsack.specs.declared.Mark.{Mark}
use Rattle.knapsack.specs.declared.Mark.TheVariants.{Integer, Continuous}

-- ---- directions

pub data Way : Type 0 where
  fore aft : Way

abbrev pub turn : Way → ℤ → ℤ
turn fore z = z
turn aft z = neg_ℤ z

-- no bound this way
abbrev pub Free : Way → Item → Type 0
Free fore i = i.upper ≡ None
Free aft i = i.lower ≡ None

-- a unit of item k this way has the weight turn w (weights s k) and the price turn w (prices s k)
pub record NoRay (s : Instance) : Type 0 where
  pub one : (k : ℕ) → k < s.count → (w : Way) → Free w (s.item k) → turn w (weights s k) ≤ℤ pos 0 → turn w (prices s k) ≤ℤ pos 0
  pub two : (i j : ℕ) → i < s.count → j < s.count → (v w : Way) → Free v (s.item i) → Free w (s.item j)
      → pos 0 <ℤ turn v (weights s i) → pos 0 <ℤ turn v (prices s i) → turn w (weights s j) <ℤ pos 0
      → (turn v (prices s i) *ℤ neg_ℤ (turn w (weights s j)) +ℤ turn w (prices s j) *ℤ turn v (weights s i)) ≤ℤ pos 0

abbrev pub AroundAt : ℕ → Option ℤ → Type 0
AroundAt B None = Unit {0}
AroundAt B (Some b) = nat_abs b ≤ B

-- a bound is absent
abbrev pub Open : Item → Type 0
Open i = (i.lower ≡ None) ⊎ (i.upper ≡ None)

pub record RangesAt (A : ℕ) (B : ℕ → ℕ) (C : ℕ) (s : Instance) : Type 0 where
  pub light : (k : ℕ) → k < s.count → Open (s.item k) → nat_abs (weights s k) ≤ A
  pub lowers : (k : ℕ) → k < s.count → AroundAt (B k) (s.item k).lower
  pub uppers : (k : ℕ) → k < s.count → AroundAt (B k) (s.item k).upper
  pub limited : nat_abs s.capacity ≤ C

-- item k's lead F k: beyond it the item may go back; where none does, the capacity and the other items' leads hold the weight of each
-- within C + T + A, and so its amount
pub record Reaches (A : ℕ) (B : ℕ → ℕ) (C : ℕ) (s : Instance) (R : ℕ → ℕ) : Type 0 where
  pub lead : ℕ → ℕ
  pub near : (k : ℕ) → k < s.count → B k ≤ lead k
  pub back-far : (k : ℕ) → k < s.count → Open (s.item k) → B k + A ≤ lead k
  pub total : ℕ
  pub total-is : pos total ≡ sum s.count (λ k. pos (nat_abs (weights s k) * lead k))
  pub enough : (k : ℕ) → k < s.count → 1 ≤ nat_abs (weights s k) → C + total + A ≤ nat_abs (weights s k) * R k
  pub far : (k : ℕ) → k < s.count → lead k ≤ R k

-- the way from 0 to n
abbrev pub way : ℤ → Way
way (pos n) = fore
way (negsuc n) = aft

ahead : (a n : ℤ) → a *ℤ n ≡ turn (way n) a *ℤ pos (nat_abs n)
ahead a (pos n) = refl
ahead a (negsuc n) = flip a
  where
    flip : (a : ℤ) → a *ℤ negsuc n ≡ neg_ℤ a *ℤ pos (suc n)
    flip = split _ (λ a b. simp zed (omega arith))

-- ---- a far amount n / D may go e / D back

pub record Back (D e : ℕ) (i : Item) (n : ℤ) : Type 0 where
  pub free : Free (way n) i
  pub inside : Within D i (n +ℤ turn (way n) (neg_ℤ (pos e)))
  pub nearer : nat_abs ((n +ℤ turn (way n) (neg_ℤ (pos e))) -ℤ pos 0) + e ≤ nat_abs (n -ℤ pos 0)

diff : (B a c : ℕ) → (a - c) + (c - a) ≤ B → (a ≤ B + c) × (c ≤ B + a)
diff B a c h = (omega arith, omega arith)

back : (B D e : ℕ) (i : Item) (n : ℤ) → AroundAt B i.lower → AroundAt B i.upper → Within D i n → B * D < nat_abs n → B * D + e ≤ nat_abs n → Back D e i n
back B D e i (pos m) al au k h h' = record {
  free = free i.upper au k.below;
  inside =
      record { above = lo i.lower al; below = up i.upper k.below };
  nearer = near;
}
  where
    over : (b : ℤ) → nat_abs b ≤ B → pos m ≤ℤ (b *ℤ pos D) → ⊥
    over = split _ (λ a c. simp zed (λ r f. omega (arith, mul-le-mul_right D (diff B a c r).0)))

    free : (b : Option ℤ) → AroundAt B b → KeepsUpperᴰ D b (pos m) → b ≡ None
    free None r f = refl
    free (Some b) r f = absurd (over b r f)

    lo' : (b : ℤ) → nat_abs b ≤ B → (b *ℤ pos D) ≤ℤ (pos m +ℤ neg_ℤ (pos e))
    lo' = split _ (λ a c. simp zed (λ r. omega (arith, mul-le-mul_right D (diff B a c r).0)))

    lo : (b : Option ℤ) → AroundAt B b → KeepsLowerᴰ D b (pos m +ℤ neg_ℤ (pos e))
    lo None r = tt
    lo (Some b) r = lo' b r

    up' : (b : ℤ) → pos m ≤ℤ (b *ℤ pos D) → (pos m +ℤ neg_ℤ (pos e)) ≤ℤ (b *ℤ pos D)
    up' = split _ (λ a c. simp zed (omega arith))

    up : (b : Option ℤ) → KeepsUpperᴰ D b (pos m) → KeepsUpperᴰ D b (pos m +ℤ neg_ℤ (pos e))
    up None f = tt
    up (Some b) f = up' b f

    near : nat_abs ((pos m +ℤ neg_ℤ (pos e)) -ℤ pos 0) + e ≤ nat_abs (pos m -ℤ pos 0)
    near = simp zed (omega arith)
back B D e i (negsuc m) al au k h h' = record {
  free = free i.lower al k.above;
  inside =
      record { above = lo i.lower k.above; below = up i.upper au };
  nearer = near;
}
  where
    over : (b : ℤ) → nat_abs b ≤ B → (b *ℤ pos D) ≤ℤ negsuc m → ⊥
    over = split _ (λ a c. simp zed (λ r f. omega (arith, mul-le-mul_right D (diff B a c r).1)))

    free : (b : Option ℤ) → AroundAt B b → KeepsLowerᴰ D b (negsuc m) → b ≡ None
    free None r f = refl
    free (Some b) r f = absurd (over b r f)

    up' : (b : ℤ) → nat_abs b ≤ B → (negsuc m +ℤ neg_ℤ (neg_ℤ (pos e))) ≤ℤ (b *ℤ pos D)
    up' = split _ (λ a c. simp zed (λ r. omega (arith, mul-le-mul_right D (diff B a c r).1)))

    up : (b : Option ℤ) → AroundAt B b → KeepsUpperᴰ D b (negsuc m +ℤ neg_ℤ (neg_ℤ (pos e)))
    up None r = tt
    up (Some b) r = up' b r

    lo' : (b : ℤ) → (b *ℤ pos D) ≤ℤ negsuc m → (b *ℤ pos D) ≤ℤ (negsuc m +ℤ neg_ℤ (neg_ℤ (pos e)))
    lo' = split _ (λ a c. simp zed (omega arith))

    lo : (b : Option ℤ) → KeepsLowerᴰ D b (negsuc m) → KeepsLowerᴰ D b (negsuc m +ℤ neg_ℤ (neg_ℤ (pos e)))
    lo None f = tt
    lo (Some b) f = lo' b f

    near' : (n : ℤ) → n ≡ negsuc m → nat_abs ((n +ℤ neg_ℤ (neg_ℤ (pos e))) -ℤ pos 0) + e ≤ nat_abs (n -ℤ pos 0)
    near' = split _ (λ a b. simp zed (omega arith))

    near : nat_abs ((negsuc m +ℤ neg_ℤ (neg_ℤ (pos e))) -ℤ pos 0) + e ≤ nat_abs (negsuc m -ℤ pos 0)
    near = near' (negsuc m) refl

-- u units back is a whole step
units : (D u : ℕ) (w : Way) → turn w (neg_ℤ (pos u)) *ℤ pos D ≡ turn w (neg_ℤ (pos (u * D)))
units D u fore = simp zed (omega arith)
units D u aft = simp zed (omega arith)

one_unit : (D : ℕ) (w : Way) → turn w (neg_ℤ (pos 1)) *ℤ pos D ≡ turn w (neg_ℤ (pos D))
one_unit D fore = simp zed (omega arith)
one_unit D aft = simp zed (omega arith)

-- F units from 0 is a whole amount
resting : (D F : ℕ) (m : Mark) (n : ℤ) → F * D < nat_abs n → KeepsMarkᴰ D m (n +ℤ turn (way n) (neg_ℤ (pos (nat_abs n - F * D))))
resting D F Continuous n h = tt
resting D F Integer (pos m) h = (pos F, simp zed (omega arith))
resting D F Integer (negsuc m) h = (neg_ℤ (pos F), go (negsuc m) refl)
  where
    go : (n : ℤ) → n ≡ negsuc m → n +ℤ neg_ℤ (neg_ℤ (pos (suc m - F * D))) ≡ neg_ℤ (pos F) *ℤ pos D
    go = split _ (λ a b. simp zed (omega arith))

-- ---- effects

pub turn-mul : (w : Way) (a r : ℤ) → a *ℤ turn w r ≡ turn w a *ℤ r
turn-mul fore a r = refl
turn-mul aft a r = flip a r
  where
    flip : (a r : ℤ) → a *ℤ neg_ℤ r ≡ neg_ℤ a *ℤ r
    flip = split2 _ (λ a b c e. simp zed (omega arith))

pub abs-up : (w : Way) (a : ℤ) → pos 0 <ℤ turn w a → pos (nat_abs a) ≡ turn w a
abs-up fore = split _ (λ a b. simp zed (omega arith))
abs-up aft = split _ (λ a b. simp zed (omega arith))

pub abs-dn : (w : Way) (a : ℤ) → turn w a <ℤ pos 0 → pos (nat_abs a) ≡ neg_ℤ (turn w a)
abs-dn fore = split _ (λ a b. simp zed (omega arith))
abs-dn aft = split _ (λ a b. simp zed (omega arith))

-- what has a sign is something
some_up : (w : Way) (a : ℤ) → pos 0 <ℤ turn w a → 1 ≤ nat_abs a
some_up fore = split _ (λ a b. simp zed (omega arith))
some_up aft = split _ (λ a b. simp zed (omega arith))

some-dn : (w : Way) (a : ℤ) → turn w a <ℤ pos 0 → 1 ≤ nat_abs a
some-dn fore = split _ (λ a b. simp zed (omega arith))
some-dn aft = split _ (λ a b. simp zed (omega arith))

-- the sign of a product with a natural number
sign-up : (x : ℤ) (m c : ℕ) → pos c <ℤ (x *ℤ pos m) → pos 0 <ℤ x
sign-up x m c h = go (≤ℤ-or-< x (pos 0))
  where
    clash : (y : ℤ) → pos c <ℤ y → y ≤ℤ (pos 0 *ℤ pos m) → ⊥
    clash = split _ (λ a b. simp zed (omega arith))

    go : (x ≤ℤ pos 0) ⊎ (pos 0 <ℤ x) → pos 0 <ℤ x
    go (inl k) = absurd (clash (x *ℤ pos m) h (times-≤ m x (pos 0) k))
    go (inr k) = k

sign-dn : (x : ℤ) (m c : ℕ) → (x *ℤ pos m) <ℤ neg_ℤ (pos c) → x <ℤ pos 0
sign-dn x m c h = go (≤ℤ-or-< (pos 0) x)
  where
    clash : (y : ℤ) → y <ℤ neg_ℤ (pos c) → (pos 0 *ℤ pos m) ≤ℤ y → ⊥
    clash = split _ (λ a b. simp zed (omega arith))

    go : (pos 0 ≤ℤ x) ⊎ (x <ℤ pos 0) → x <ℤ pos 0
    go (inl k) = absurd (clash (x *ℤ pos m) h (times-≤ m (pos 0) x k))
    go (inr k) = k

weak< : (x y : ℤ) → x <ℤ y → x ≤ℤ y
weak< = split2 _ (λ a b c e. simp zed (omega arith))

-- ---- moves

-- an item farther than its lead F may step back; so may one whose term is beyond G
module _ (A : ℕ) (B : ℕ → ℕ) (C : ℕ) (s : Instance) (R : ℕ → ℕ) (q : Reaches A B C s R) (D : ℕ) (D≥1 : 1 ≤ D) (g : RangesAt A B C s) (nr : NoRay s) where
  abbrev F : ℕ → ℕ
  F k = q.lead k

  abbrev G : ℕ → ℕ
  G k = nat_abs (weights s k) * F k

  abbrev T : ℕ
  T = q.total

  size : (ℕ → ℤ) → ℕ
  size = far s.count (λ k. pos 0)

  -- to a feasible point of no lower value that is nearer to 0
  abbrev Next : (ℕ → ℤ) → Type 0
  Next N = (N' : ℕ → ℤ) × Feasibleᴰ s D N' × (valueᴰ s N ≤ℤ valueᴰ s N') × (size N' < size N)

  -- one item goes back
  ease : (N : ℕ → ℤ) → Feasibleᴰ s D N → (i : ℕ) → i < s.count → (e : ℕ) → 1 ≤ e → (b : Back D e (s.item i) (N i)) →
      KeepsMarkᴰ D (s.item i).mark (N i +ℤ turn (way (N i)) (neg_ℤ (pos e)))
      → (weighsᴰ s N -ℤ turn (way (N i)) (weights s i) *ℤ pos e) ≤ℤ (s.capacity *ℤ pos D) → turn (way (N i)) (prices s i) ≤ℤ pos 0 → Next N
  unfolding size
  ease N p i li e e≥1 b m room loss = (
    bump N i r,
    record {
      keeps = each-bump (λ k. Keepsᴰ D (s.item k)) N i r s.count p.keeps (record { marked = m; above = b.inside.above; below = b.inside.below });
      fits = rw (sum_bump s.count (weights s) N i r li, turn-mul (way (N i)) (weights s i) (neg_ℤ (pos e)))
          (less (weighsᴰ s N) (turn (way (N i)) (weights s i)) (s.capacity *ℤ pos D) room);
    },
    rw (sum_bump s.count (prices s) N i r li, turn-mul (way (N i)) (prices s i) (neg_ℤ (pos e))) (more (valueᴰ s N) (turn (way (N i)) (prices s i)) loss),
    omega (arith, far-bump s.count (λ k. pos 0) N i r e li b.nearer, e≥1),
  )
    where
      r : ℤ
      r = turn (way (N i)) (neg_ℤ (pos e))

      less : (w x l : ℤ) → (w -ℤ x *ℤ pos e) ≤ℤ l → (w +ℤ x *ℤ neg_ℤ (pos e)) ≤ℤ l
      less = split3 _ (λ a b c e f g. simp zed (omega arith))

      more : (v x : ℤ) → x ≤ℤ pos 0 → v ≤ℤ (v +ℤ x *ℤ neg_ℤ (pos e))
      more = split2 _ (λ a b c f. simp zed (λ h. omega (arith, mul-le-mul_left e h)))

  -- a heavy item goes back, and a light one to the same weight
  swap : (N : ℕ → ℤ) → Feasibleᴰ s D N → (i j : ℕ) → i < s.count → j < s.count → j ≢ i → (b : Back D (nat_abs (weights s j) * D) (s.item i) (N i)) →
      (e : Back D (nat_abs (weights s i) * D) (s.item j) (N j))
      → pos 0 <ℤ turn (way (N i)) (weights s i) → pos 0 <ℤ turn (way (N i)) (prices s i) → turn (way (N j)) (weights s j) <ℤ pos 0 → Next N
  unfolding size
  swap N p i j li lj ne b e hw hp lw = (
    shift D N i r j t,
    record {
      keeps = keeps-shift s D N i j r t li lj ne p.keeps (rw (units D (nat_abs (weights s j)) (way (N i))) b.inside)
          (rw (units D (nat_abs (weights s i)) (way (N j))) e.inside);
      fits = rw (sum-shift s.count D (weights s) N i j r t li lj, effect (weights s))
          (same (weighsᴰ s N) (s.capacity *ℤ pos D) (turn (way (N i)) (weights s i)) (turn (way (N j)) (weights s j)) p.fits);
    },
    rw (sum-shift s.count D (prices s) N i j r t li lj, effect (prices s))
        (more (valueᴰ s N) _ (opp (turn (way (N i)) (prices s i)) (turn (way (N j)) (prices s j)) (turn (way (N i)) (weights s i))
        (turn (way (N j)) (weights s j)) (nr.two i j li lj (way (N i)) (way (N j)) b.free e.free hw hp lw))),
    omega (arith, first, second, mul-le-mul (1≤ (turn (way (N j)) (weights s j)) (nat_abs (weights s j)) lw uj) D≥1),
  )
    where
      r : ℤ
      r = turn (way (N i)) (neg_ℤ (pos (nat_abs (weights s j))))

      t : ℤ
      t = turn (way (N j)) (neg_ℤ (pos (nat_abs (weights s i))))

      uj : pos (nat_abs (weights s j)) ≡ neg_ℤ (turn (way (N j)) (weights s j))
      uj = abs-dn (way (N j)) (weights s j) lw

      effect : (a : ℕ → ℤ) → a i *ℤ r +ℤ a j *ℤ t ≡ turn (way (N i)) (a i) *ℤ neg_ℤ (neg_ℤ (turn (way (N j)) (weights s j))) +ℤ turn (way (N j)) (a j) *ℤ neg_ℤ
          (turn (way (N i)) (weights s i))
      effect a = ap₂ ◌+ℤ◌ (turn-mul (way (N i)) (a i) (neg_ℤ (pos (nat_abs (weights s j)))) ∙ ap (λ z. turn (way (N i)) (a i) *ℤ neg_ℤ z) uj)
          (turn-mul (way (N j)) (a j) (neg_ℤ (pos (nat_abs (weights s i)))) ∙ ap (λ z. turn (way (N j)) (a j) *ℤ neg_ℤ z) (abs-up (way (N i)) (weights s i) hw))

      same : (w l x y : ℤ) → w ≤ℤ l → (w +ℤ (x *ℤ neg_ℤ (neg_ℤ y) +ℤ y *ℤ neg_ℤ x) *ℤ pos D) ≤ℤ l
      same = split4 _ (λ a b c e f g h i. simp zed (omega arith))

      opp : (c d x y : ℤ) → (c *ℤ neg_ℤ y +ℤ d *ℤ x) ≤ℤ pos 0 → pos 0 ≤ℤ (c *ℤ neg_ℤ (neg_ℤ y) +ℤ d *ℤ neg_ℤ x)
      opp = split4 _ (λ a b c e f g h i. simp zed (omega arith))

      more : (v x : ℤ) → pos 0 ≤ℤ x → v ≤ℤ (v +ℤ x *ℤ pos D)
      more = split2 _ (λ a b c e. simp zed (λ h. omega (arith, mul-le-mul_left D h)))

      1≤ : (y : ℤ) (m : ℕ) → y <ℤ pos 0 → pos m ≡ neg_ℤ y → 1 ≤ m
      1≤ = split _ (λ a b m. simp zed (omega arith))

      first : far s.count (λ k. pos 0) (bump N i (r *ℤ pos D)) + nat_abs (weights s j) * D ≤ far s.count (λ k. pos 0) N
      first = far-bump s.count (λ k. pos 0) N i (r *ℤ pos D) (nat_abs (weights s j) * D) li (rw (units D (nat_abs (weights s j)) (way (N i))) b.nearer)

      second : far s.count (λ k. pos 0) (shift D N i r j t) + nat_abs (weights s i) * D ≤ far s.count (λ k. pos 0) (bump N i (r *ℤ pos D))
      second = far-bump s.count (λ k. pos 0) (bump N i (r *ℤ pos D)) j (t *ℤ pos D) (nat_abs (weights s i) * D) lj
          (rw (bump-other N i (r *ℤ pos D) j ne, units D (nat_abs (weights s i)) (way (N j))) e.nearer)

  -- ---- where no move is left

  abbrev Near : (ℕ → ℤ) → Type 0
  Near N = (k : ℕ) → k < s.count → nat_abs (N k) ≤ R k * D

  -- an item that weighs something is no farther than its weight
  abbrev Held : (ℕ → ℤ) → ℕ → Type 0
  Held N k = (nat_abs (N k) ≤ F k * D) ⊎ (1 ≤ nat_abs (weights s k))

  held : (N : ℕ → ℤ) (k : ℕ) → k < s.count → Held N k → nat_abs (weights s k *ℤ N k) ≤ C * D + T * D + A * D → nat_abs (N k) ≤ R k * D
  held N k i (inl h) l = omega (arith, mul-le-mul_right D (q.far k i))
  held N k i (inr h) l = le_of_mul-le-mul_left {k = nat_abs (weights s k)}
      (omega (arith, nat_abs_mul (weights s k) (N k), mul-le-mul_right D (q.enough k i h))) h

  limits : (l : ℤ) → nat_abs l ≤ C → ((l *ℤ pos D) ≤ℤ pos (C * D)) × (neg_ℤ (pos (C * D)) ≤ℤ (l *ℤ pos D))
  limits = split _ (λ a b. simp zed (λ h. (omega (arith, mul-le-mul_right D (one a b h)), omega (arith, mul-le-mul_right D (one b a (swp a b h))))))
    where
      swp : (a b : ℕ) → (a - b) + (b - a) ≤ C → (b - a) + (a - b) ≤ C
      swp a b h = omega arith

      one : (a b : ℕ) → (a - b) + (b - a) ≤ C → a ≤ C + b
      one a b h = omega arith

  -- the terms' total, over D
  all-terms : sum s.count (λ k. pos (G k * D)) ≡ pos (T * D)
  all-terms = sum-cong s.count _ _ (λ k l. out (G k)) ∙ sum-scale s.count (pos D) (λ k. pos (G k)) ∙ ap (λ z. pos D *ℤ z) (sym q.total-is) ∙ turned T
    where
      out : (n : ℕ) → pos (n * D) ≡ pos D *ℤ pos n
      out n = simp zed (omega arith)

      turned : (n : ℕ) → pos D *ℤ pos n ≡ pos (n * D)
      turned n = sym (out n)

  one-term : (k : ℕ) → k < s.count → G k * D ≤ T * D
  one-term k l = below (G k * D) (T * D) (subst (λ z. pos (G k * D) ≤ℤ z) (ap₂ ◌+ℤ◌ all-terms (none s.count) ∙ plain (T * D))
      (part-of-sum s.count (λ j. pos (G j * D)) (λ j. 0) (λ j m. least (G j * D)) k l))
    where
      below : (m n : ℕ) → pos m ≤ℤ pos n → m ≤ n
      below m n = simp zed (omega arith)

      none : (n : ℕ) → sum n (λ k. pos 0) ≡ pos 0
      none zero = refl
      none (suc n) = rw (none n)

      plain : (n : ℕ) → pos n +ℤ pos 0 ≡ pos n
      plain n = simp zed (omega arith)

      least : (n : ℕ) → neg_ℤ (pos 0) ≤ℤ pos n
      least n = simp zed (omega arith)

  near-low : (N : ℕ → ℤ) → Feasibleᴰ s D N → Each s.count (Held N) → Each s.count (λ k. neg_ℤ (pos (G k * D)) ≤ℤ (weights s k *ℤ N k)) → Near N
  near-low N p h low k l = held N k l (h k l) (fin (G k * D) (T * D) (one-term k l) (weights s k *ℤ N k) (weighsᴰ s N) (s.capacity *ℤ pos D) p.fits
      (limits s.capacity g.limited).0 (low k l)
      (subst (λ z. (weights s k *ℤ N k) ≤ℤ (weighsᴰ s N +ℤ z)) all-terms (part-of-sum s.count (λ j. weights s j *ℤ N j) (λ j. G j * D) low k l)))
    where
      fin : (m t : ℕ) → m ≤ t → (y w l : ℤ) → w ≤ℤ l → l ≤ℤ pos (C * D) → neg_ℤ (pos m) ≤ℤ y → y ≤ℤ (w +ℤ pos t) → nat_abs y ≤ C * D + t + A * D
      fin m t i = split3 _ (λ a b c e f g. simp zed (omega arith))

  near-high : (N : ℕ → ℤ) → Each s.count (Held N) → Each s.count (λ k. (weights s k *ℤ N k) ≤ℤ pos (G k * D)) →
      (s.capacity *ℤ pos D) ≤ℤ (weighsᴰ s N +ℤ pos (A * D)) → Near N
  near-high N h high full k l = held N k l (h k l) (fin (G k * D) (T * D) (one-term k l) (weights s k *ℤ N k) (weighsᴰ s N) (s.capacity *ℤ pos D) full
      (limits s.capacity g.limited).1 (high k l)
      (rw (sum-scale s.count (negsuc 0) (λ j. weights s j *ℤ N j)) at
      (subst (λ z. (negsuc 0 *ℤ (weights s k *ℤ N k)) ≤ℤ (sum s.count (λ j. negsuc 0 *ℤ (weights s j *ℤ N j)) +ℤ z)) all-terms
      (part-of-sum s.count (λ j. negsuc 0 *ℤ (weights s j *ℤ N j)) (λ j. G j * D) (λ j m. flip (G j * D) (weights s j *ℤ N j) (high j m)) k l))))
    where
      flip : (m : ℕ) (y : ℤ) → y ≤ℤ pos m → neg_ℤ (pos m) ≤ℤ (negsuc 0 *ℤ y)
      flip m = split _ (λ a b. simp zed (omega arith))

      fin : (m t : ℕ) → m ≤ t → (y w l : ℤ) → l ≤ℤ (w +ℤ pos (A * D)) → neg_ℤ (pos (C * D)) ≤ℤ l → y ≤ℤ pos m → (negsuc 0 *ℤ y) ≤ℤ (negsuc 0 *ℤ w +ℤ pos t) →
          nat_abs y ≤ C * D + t + A * D
      fin m t i = split3 _ (λ a b c e f g. simp zed (omega arith))

  -- a term beyond G: an amount beyond F
  beyond : (a f n : ℕ) → (a * f) * D < a * n → Dec (f * D < n) → f * D < n
  beyond a f n k (yes h) = h
  beyond a f n k (no h) = absurd (clash (mul-le-mul_left a (bound h)))
    where
      bound : ¬ (f * D < n) → n ≤ f * D
      bound h = omega arith

      clash : a * n ≤ a * (f * D) → ⊥
      clash l = omega arith

  -- an item that is beyond its lead lacks a bound
  open-far : (k : ℕ) (n : ℤ) → k < s.count → Within D (s.item k) n → F k * D < nat_abs n → Open (s.item k)
  open-far k n l w f = go (s.item k).lower (s.item k).upper refl refl (g.lowers k l) (g.uppers k l) w.above w.below
    where
      b≤ : B k * D ≤ F k * D
      b≤ = mul-le-mul_right D (q.near k l)

      over : (m d : ℕ) (a b n : ℤ) → m * D ≤ d → nat_abs a ≤ m → nat_abs b ≤ m → (a *ℤ pos D) ≤ℤ n → n ≤ℤ (b *ℤ pos D) → d < nat_abs n → ⊥
      over m d = split3 _ (λ a b c e f g. simp zed (λ h u v x y z. omega (
        arith,
        mul-le-mul_right D (diff m a b u).0,
        mul-le-mul_right D (diff m a b u).1,
        mul-le-mul_right D (diff m c e v).0,
        mul-le-mul_right D (diff m c e v).1,
      )))

      go : (x y : Option ℤ) → (s.item k).lower ≡ x → (s.item k).upper ≡ y → AroundAt (B k) x → AroundAt (B k) y → KeepsLowerᴰ D x n → KeepsUpperᴰ D y n →
          Open (s.item k)
      go None y e h ax ay kx ky = inl e
      go (Some x) None e h ax ay kx ky = inr h
      go (Some x) (Some y) e h ax ay kx ky = absurd (over (B k) (F k * D) x y n b≤ ax ay kx ky f)

  step : (N : ℕ → ℤ) → Feasibleᴰ s D N → Near N ⊎ Next N
  step N p = idle (find s.count (λ k. (F k * D < nat_abs (N k)) × (weights s k ≡ pos 0)) (Held N)
      (λ k. rests (F k) (weights s k) (dec_lt (F k * D) (nat_abs (N k)))))
    where
      rests : (f : ℕ) (a : ℤ) → {n : ℕ} → Dec (f * D < n) → ((f * D < n) × (a ≡ pos 0)) ⊎ ((n ≤ f * D) ⊎ (1 ≤ nat_abs a))
      rests f a (no h) = inr (inl (omega arith))
      rests f (pos zero) (yes h) = inl (h, refl)
      rests f (pos (suc n)) (yes h) = inr (inr (omega arith))
      rests f (negsuc n) (yes h) = inr (inr (omega arith))

      other : {P Q : Type 0} → P ⊎ Q → Q ⊎ P
      other (inl a) = inr a
      other (inr b) = inl b

      opens : (k : ℕ) → k < s.count → F k * D < nat_abs (N k) → Open (s.item k)
      opens k l f = open-far k (N k) l (within (p.keeps k l)) f

      away : (u k : ℕ) → k < s.count → u ≤ A → F k * D < nat_abs (N k) → Back D (u * D) (s.item k) (N k)
      away u k l h f = let o = q.back-far k l (opens k l f) in back (B k) D (u * D) (s.item k) (N k) (g.lowers k l) (g.uppers k l)
          (within (p.keeps k l)) (omega (arith, mul-le-mul_right D o)) (omega (arith, mul-le-mul_right D h, mul-le-mul_right D o))

      -- one unit back, of an item that weighs something
      unit : (k : ℕ) → k < s.count → 1 ≤ nat_abs (weights s k) → F k * D < nat_abs (N k) → Back D D (s.item k) (N k)
      unit k l h f = let o = q.back-far k l (opens k l f) in back (B k) D D (s.item k) (N k) (g.lowers k l) (g.uppers k l) (within (p.keeps k l))
          (omega (arith, mul-le-mul_right D o)) (omega (arith, mul-le-mul_right D h, mul-le-mul_right D (g.light k l (opens k l f)), mul-le-mul_right D o))

      whole : (k : ℕ) → k < s.count → KeepsMarkᴰ D (s.item k).mark (N k +ℤ turn (way (N k)) (neg_ℤ (pos D)))
      whole k l = rw (one_unit D (way (N k))) at (mark-step D (s.item k).mark (N k) (turn (way (N k)) (neg_ℤ (pos 1))) (p.keeps k l).marked)

      -- an item that weighs nothing goes back to F
      rest : (k : ℕ) → k < s.count → F k * D < nat_abs (N k) → Back D (nat_abs (N k) - F k * D) (s.item k) (N k)
      rest k l f = back (B k) D (nat_abs (N k) - F k * D) (s.item k) (N k) (g.lowers k l) (g.uppers k l) (within (p.keeps k l))
          (omega (arith, mul-le-mul_right D (q.near k l))) (omega (arith, mul-le-mul_right D (q.near k l)))

      y : ℕ → ℤ
      y k = weights s k *ℤ N k

      High : ℕ → Type 0
      High k = pos (G k * D) <ℤ y k

      Low : ℕ → Type 0
      Low k = y k <ℤ neg_ℤ (pos (G k * D))

      high-far : (k : ℕ) → k < s.count → High k → (F k * D < nat_abs (N k)) × (pos 0 <ℤ turn (way (N k)) (weights s k))
      high-far k l h = (
        beyond (nat_abs (weights s k)) (F k) (nat_abs (N k)) (rw (nat_abs_mul (weights s k) (N k)) at (size_of (G k * D) (y k) h))
            (dec_lt (F k * D) (nat_abs (N k))),
        sign-up (turn (way (N k)) (weights s k)) (nat_abs (N k)) (G k * D) (rw (ahead (weights s k) (N k)) at h),
      )
        where
          size_of : (m : ℕ) (y : ℤ) → pos m <ℤ y → m < nat_abs y
          size_of m = split _ (λ a b. simp zed (omega arith))

      low-far : (k : ℕ) → k < s.count → Low k → (F k * D < nat_abs (N k)) × (turn (way (N k)) (weights s k) <ℤ pos 0)
      low-far k l h = (
        beyond (nat_abs (weights s k)) (F k) (nat_abs (N k)) (rw (nat_abs_mul (weights s k) (N k)) at (size_of (G k * D) (y k) h))
            (dec_lt (F k * D) (nat_abs (N k))),
        sign-dn (turn (way (N k)) (weights s k)) (nat_abs (N k)) (G k * D) (rw (ahead (weights s k) (N k)) at h),
      )
        where
          size_of : (m : ℕ) (y : ℤ) → y <ℤ neg_ℤ (pos m) → m < nat_abs y
          size_of m = split _ (λ a b. simp zed (omega arith))

      apart : (i j : ℕ) → High i → Low j → j ≢ i
      apart i j h l e = clash (G i * D) (y i) h (subst Low e l)
        where
          clash : (m : ℕ) (y : ℤ) → pos m <ℤ y → y <ℤ neg_ℤ (pos m) → ⊥
          clash m = split _ (λ a b. simp zed (omega arith))

      -- back in a heavy way, there is room
      room : (e : ℕ) (w l x : ℤ) → w ≤ℤ l → pos 0 ≤ℤ x → (w -ℤ x *ℤ pos e) ≤ℤ l
      room e = split3 _ (λ a b c d f g. simp zed (λ h k. omega (arith, mul-le-mul_right e k)))

      swapped : (i j : ℕ) → i < s.count → j < s.count → High i → Low j →
          (turn (way (N i)) (prices s i) ≤ℤ pos 0) ⊎ (pos 0 <ℤ turn (way (N i)) (prices s i)) → Next N
      swapped i j li lj hi hj (inl c) = let fi = high-far i li hi in
          ease N p i li D D≥1 (unit i li (some_up (way (N i)) (weights s i) fi.1) fi.0) (whole i li)
          (room D (weighsᴰ s N) (s.capacity *ℤ pos D) (turn (way (N i)) (weights s i)) p.fits (weak< _ _ fi.1)) c
      swapped i j li lj hi hj (inr c) = let fi = high-far i li hi in let fj = low-far j lj hj in
          swap N p i j li lj (apart i j hi hj) (away (nat_abs (weights s j)) i li (g.light j lj (opens j lj fj.0)) fi.0)
          (away (nat_abs (weights s i)) j lj (g.light i li (opens i li fi.0)) fj.0) fi.1 c fj.1

      full : (w : Way) (a x l : ℤ) → nat_abs a ≤ A → l <ℤ (x -ℤ turn w a *ℤ pos D) → l ≤ℤ (x +ℤ pos (A * D))
      full fore a x l = go a x l
        where
          one : (a b : ℕ) → (a - b) + (b - a) ≤ A → b ≤ A + a
          one a b h = omega arith

          go : (a x l : ℤ) → nat_abs a ≤ A → l <ℤ (x -ℤ a *ℤ pos D) → l ≤ℤ (x +ℤ pos (A * D))
          go = split3 _ (λ a b c e f g. simp zed (λ h k. omega (arith, mul-le-mul_right D (one a b h))))
      full aft a x l = go a x l
        where
          one : (a b : ℕ) → (a - b) + (b - a) ≤ A → a ≤ A + b
          one a b h = omega arith

          go : (a x l : ℤ) → nat_abs a ≤ A → l <ℤ (x -ℤ neg_ℤ a *ℤ pos D) → l ≤ℤ (x +ℤ pos (A * D))
          go = split3 _ (λ a b c e f g. simp zed (λ h k. omega (arith, mul-le-mul_right D (one a b h))))

      slack : (j : ℕ) → j < s.count → Low j → Each s.count (Held N) → Each s.count (λ k. y k ≤ℤ pos (G k * D))
          → ((weighsᴰ s N -ℤ turn (way (N j)) (weights s j) *ℤ pos D) ≤ℤ (s.capacity *ℤ pos D)) ⊎
          ((s.capacity *ℤ pos D) <ℤ (weighsᴰ s N -ℤ turn (way (N j)) (weights s j) *ℤ pos D)) → Near N ⊎ Next N
      slack j lj hj h high (inl r) = let fj = low-far j lj hj in let b = unit j lj (some-dn (way (N j)) (weights s j) fj.1) fj.0 in
          inr (ease N p j lj D D≥1 b (whole j lj) r (nr.one j lj (way (N j)) b.free (weak< _ _ fj.1)))
      slack j lj hj h high (inr f) = inl (near-high N h high (full (way (N j)) (weights s j) (weighsᴰ s N) (s.capacity *ℤ pos D)
          (g.light j lj (opens j lj (low-far j lj hj).0)) f))

      highs : (j : ℕ) → j < s.count → Low j → Each s.count (Held N) → ((k : ℕ) × (k < s.count) × High k) ⊎ Each s.count (λ k. y k ≤ℤ pos (G k * D)) →
          Near N ⊎ Next N
      highs j lj hj h (inl (i, li, hi)) = inr (swapped i j li lj hi hj (≤ℤ-or-< (turn (way (N i)) (prices s i)) (pos 0)))
      highs j lj hj h (inr high) = slack j lj hj h high (≤ℤ-or-< (weighsᴰ s N -ℤ turn (way (N j)) (weights s j) *ℤ pos D) (s.capacity *ℤ pos D))

      lows : Each s.count (Held N) → ((k : ℕ) × (k < s.count) × Low k) ⊎ Each s.count (λ k. neg_ℤ (pos (G k * D)) ≤ℤ y k) → Near N ⊎ Next N
      lows h (inl (j, lj, hj)) = highs j lj hj h (find s.count High (λ k. y k ≤ℤ pos (G k * D)) (λ k. other (≤ℤ-or-< (y k) (pos (G k * D)))))
      lows h (inr low) = inl (near-low N p h low)

      still : (w : Way) (a : ℤ) → a ≡ pos 0 → turn w a ≡ pos 0
      still fore a h = h
      still aft a h = ap neg_ℤ h

      idle : ((k : ℕ) × (k < s.count) × ((F k * D < nat_abs (N k)) × (weights s k ≡ pos 0))) ⊎ Each s.count (Held N) → Near N ⊎ Next N
      idle (inl (k, l, (f, z))) = let b = rest k l f in let o = still (way (N k)) (weights s k) z in
          inr (ease N p k l (nat_abs (N k) - F k * D) (omega arith) b (resting D (F k) (s.item k).mark (N k) f)
          (room (nat_abs (N k) - F k * D) (weighsᴰ s N) (s.capacity *ℤ pos D) (turn (way (N k)) (weights s k)) p.fits (≤ℤ-reflexive (sym o)))
          (nr.one k l (way (N k)) b.free (≤ℤ-reflexive o)))
      idle (inr h) = lows h (find s.count Low (λ k. neg_ℤ (pos (G k * D)) ≤ℤ y k) (λ k. other (≤ℤ-or-< (neg_ℤ (pos (G k * D))) (y k))))

  -- THE REACH: every feasible point has one of no lower value within R
  reach : (N : ℕ → ℤ) → Feasibleᴰ s D N → (N' : ℕ → ℤ) × Feasibleᴰ s D N' × Near N' × (valueᴰ s N ≤ℤ valueᴰ s N')
  reach = descend (Feasibleᴰ s D) Near (λ N N'. valueᴰ s N ≤ℤ valueᴰ s N') (λ N. ≤ℤ_refl (valueᴰ s N)) (λ x y z. ≤ℤ-trans) size step

-- ---- so an instance with no ray may be closed at ±R

abbrev pub closed : Option ℤ → ℤ → Option ℤ
closed None d = Some d
closed (Some b) d = Some b

abbrev pub lowers_at : (ℕ → ℕ) → Instance → ℕ → Option ℤ
lowers_at R s k = closed (s.item k).lower (neg_ℤ (pos (R k)))

abbrev pub uppers_at : (ℕ → ℕ) → Instance → ℕ → Option ℤ
uppers_at R s k = closed (s.item k).upper (pos (R k))

abbrev pub shut_at : (ℕ → ℕ) → Instance → Instance
shut_at R s = boxed s (lowers_at R s) (uppers_at R s)

pub into-shut-at : (R : ℕ → ℕ) (s : Instance) (D : ℕ) (N : ℕ → ℤ) → Feasibleᴰ s D N → Each s.count (λ k. nat_abs (N k) ≤ R k * D) → Feasibleᴰ (shut_at R s) D N
into-shut-at R s D N p h = into-box s (lowers_at R s) (uppers_at R s) D N p
    (λ k l. (lo (R k) (s.item k).lower (N k) (p.keeps k l).above (h k l), up (R k) (s.item k).upper (N k) (p.keeps k l).below (h k l)))
  where
    lo' : (r : ℕ) (n : ℤ) → nat_abs n ≤ r * D → (neg_ℤ (pos r) *ℤ pos D) ≤ℤ n
    lo' r = split _ (λ a b. simp zed (omega arith))

    lo : (r : ℕ) (b : Option ℤ) (n : ℤ) → KeepsLowerᴰ D b n → nat_abs n ≤ r * D → KeepsLowerᴰ D (closed b (neg_ℤ (pos r))) n
    lo r None n k h = lo' r n h
    lo r (Some b) n k h = k

    up' : (r : ℕ) (n : ℤ) → nat_abs n ≤ r * D → n ≤ℤ (pos r *ℤ pos D)
    up' r = split _ (λ a b. simp zed (omega arith))

    up : (r : ℕ) (b : Option ℤ) (n : ℤ) → KeepsUpperᴰ D b n → nat_abs n ≤ r * D → KeepsUpperᴰ D (closed b (pos r)) n
    up r None n k h = up' r n h
    up r (Some b) n k h = k

pub out-of-shut-at : (R : ℕ → ℕ) (s : Instance) (D : ℕ) (N : ℕ → ℤ) → Feasibleᴰ (shut_at R s) D N → Feasibleᴰ s D N
out-of-shut-at R s D N p = record {
  keeps = λ k l. record {
    marked = (p.keeps k l).marked;
    above = lo (R k) (s.item k).lower (N k) (p.keeps k l).above;
    below = up (R k) (s.item k).upper (N k) (p.keeps k l).below;
  };
  fits = p.fits;
}
  where
    lo : (r : ℕ) (b : Option ℤ) (n : ℤ) → KeepsLowerᴰ D (closed b (neg_ℤ (pos r))) n → KeepsLowerᴰ D b n
    lo r None n k = tt
    lo r (Some b) n k = k

    up : (r : ℕ) (b : Option ℤ) (n : ℤ) → KeepsUpperᴰ D (closed b (pos r)) n → KeepsUpperᴰ D b n
    up r None n k = tt
    up r (Some b) n k = k

-- every feasible point of s has one of no lower value in shut_at R s
pub reach-within : {A : ℕ} {B : ℕ → ℕ} {C : ℕ} {R : ℕ → ℕ} (s : Instance) → RangesAt A B C s → Reaches A B C s R → NoRay s → (D : ℕ) → 1 ≤ D → (N : ℕ → ℤ) →
    Feasibleᴰ s D N
    → (N' : ℕ → ℤ) × Feasibleᴰ (shut_at R s) D N' × (valueᴰ s N ≤ℤ valueᴰ s N')
reach-within {A} {B} {C} {R} s g e nr D d N p = let r = reach A B C s R e D d g nr N p in (r.0, into-shut-at R s D r.0 r.1 r.2, r.3)

pub reach-at-most-at : {A : ℕ} {B : ℕ → ℕ} {C : ℕ} {R : ℕ → ℕ} (s : Instance) → RangesAt A B C s → Reaches A B C s R → NoRay s → (W : ℤ) (E : ℕ) →
    AtMost (shut_at R s) W E → AtMost s W E
reach-at-most-at s g e nr W E a D N d p = let r = reach-within s g e nr D d N p in
    ≤ℤ-trans (times-≤ E (valueᴰ s N) (valueᴰ s r.0) r.2) (a D r.0 d r.1)

pub reach-empty-at : {A : ℕ} {B : ℕ → ℕ} {C : ℕ} {R : ℕ → ℕ} (s : Instance) → RangesAt A B C s → Reaches A B C s R → NoRay s →
    ((D : ℕ) (N : ℕ → ℤ) → 1 ≤ D → ¬ Feasibleᴰ (shut_at R s) D N) → (D : ℕ) (N : ℕ → ℤ) → 1 ≤ D → ¬ Feasibleᴰ s D N
reach-empty-at s g e nr h D N d p = let r = reach-within s g e nr D d N p in h D r.0 d r.1

pub reach-optimal-at : {A : ℕ} {B : ℕ → ℕ} {C : ℕ} {R : ℕ → ℕ} (s : Instance) → RangesAt A B C s → Reaches A B C s R → NoRay s → (E : ℕ) (M : ℕ → ℤ) →
    Optimalᴰ (shut_at R s) E M → Optimalᴰ s E M
reach-optimal-at {R = R} s g e nr E M b = record {
  feasible = out-of-shut-at R s E M b.feasible;
  highest =
      reach-at-most-at s g e nr (valueᴰ s M) E b.highest;
}

-- ---- at the limits of the format, ±300,000,000

abbrev pub Around : Option ℤ → Type 0
Around b = AroundAt 10000 b

-- at most 16 items, and every figure within its limit
pub record Ranges (s : Instance) : Type 0 where
  pub few : s.count ≤ 16
  pub light : (k : ℕ) → k < s.count → nat_abs (weights s k) ≤ 1000
  pub lowers : (k : ℕ) → k < s.count → Around (s.item k).lower
  pub uppers : (k : ℕ) → k < s.count → Around (s.item k).upper
  pub limited : nat_abs s.capacity ≤ 100000000

abbrev pub lowers : Instance → ℕ → Option ℤ
lowers s k = lowers_at (λ k. farthest) s k

abbrev pub uppers : Instance → ℕ → Option ℤ
uppers s k = uppers_at (λ k. farthest) s k

abbrev pub shut : Instance → Instance
shut s = shut_at (λ k. farthest) s

pub out-of-shut : (s : Instance) (D : ℕ) (N : ℕ → ℤ) → Feasibleᴰ (shut s) D N → Feasibleᴰ s D N
out-of-shut s D N p = out-of-shut-at (λ k. farthest) s D N p
