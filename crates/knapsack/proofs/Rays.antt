-- Unbounded: what a planner has to find, and what that says of the value.
--   Ray s d            steps that meet no bound, weigh nothing or less, and gain
--   steppedᴰ D N d t   the numerators N over D after t times the steps d
-- ray-unbounded: from a feasible point a ray is unbounded. unbounded-ray: what is unbounded has a ray.
-- ray-endless: along a ray the value passes every number.
use mathlib.Core.Path.{◌≡◌, refl, sym, ◌∙◌, subst}
use mathlib.Core.Logic.{◌≢◌, ◌⊎◌, inl, inr}
use Prim.Native.Nat.{ℕ, suc, ◌*◌, ◌≤◌, ◌<◌}
use native.Mathlib.Omega.{arith}
use native.Mathlib.Nat.{mul-le-mul, mul-le-mul_left}
use lib.IntN.{ℤ, pos, neg_ℤ, ◌+ℤ◌, ◌*ℤ◌}
use lib.Signed.{◌≤ℤ◌, ◌<ℤ◌, clash_ℤ}
use Rattle.arith.proofs.Fractions.{over-<, Over, over-int, over-+, over-≤, over-total, over-own, over-scale, Common, common, <ᶠ-not-≤}
use Rattle.arith.proofs.Integers.{split, split2, split3, zed, ≤ℤ-or-<}
use Rattle.arith.proofs.Sums.{sum-cong, sum-lin}
use Rattle.arith.specs.Fractions.{Frac, ◌<ᶠ◌}
use Rattle.arith.specs.Sum.{sum}
use Rattle.knapsack.proofs.Bridge.{Reads, bridge-feasible}
use Rattle.knapsack.proofs.Climb.{gap}
use Rattle.knapsack.proofs.Common.{KeepsLowerᴰ, KeepsUpperᴰ, weighsᴰ, valueᴰ, Feasibleᴰ}
use Rattle.knapsack.proofs.Moves.{mark-step}
use Rattle.knapsack.specs.Meaning.{Instance, Point, value, Feasible, stepped, Unbounded, weights, prices}
use Rattle.std.specs.Prelude.{Option, None, Some}

-- the numerators after t times the steps d
abbrev pub steppedᴰ : ℕ → (ℕ → ℤ) → (ℕ → ℤ) → ℕ → ℕ → ℤ
steppedᴰ D N d t k = N k +ℤ (pos t *ℤ d k) *ℤ pos D

pub over-stepped : (s : Instance) (D : ℕ) (x : Point) (N d : ℕ → ℤ) (t : ℕ) → Reads s D x N → Reads s D (stepped x d t) (steppedᴰ D N d t)
over-stepped s D x N d t h k l = over-+ (h k l) (over-int D (pos t *ℤ d k))

pub sum-stepped : (n D : ℕ) (a N d : ℕ → ℤ) (t : ℕ) → sum n (λ k. a k *ℤ steppedᴰ D N d t k) ≡ sum n (λ k. a k *ℤ N k) +ℤ pos (t * D) *ℤ sum n (λ k. a k *ℤ d k)
sum-stepped n D a N d t = sum-cong n _ _ (λ k l. apart (a k) (N k) (d k)) ∙ sum-lin n (pos 1) (pos (t * D)) (λ k. a k *ℤ N k) (λ k. a k *ℤ d k) ∙
    one (sum n (λ k. a k *ℤ N k)) (sum n (λ k. a k *ℤ d k))
  where
    apart : (a n d : ℤ) → a *ℤ (n +ℤ (pos t *ℤ d) *ℤ pos D) ≡ pos 1 *ℤ (a *ℤ n) +ℤ pos (t * D) *ℤ (a *ℤ d)
    apart = split3 _ (λ a b c e f g. simp zed (omega arith))

    one : (x y : ℤ) → pos 1 *ℤ x +ℤ pos (t * D) *ℤ y ≡ x +ℤ pos (t * D) *ℤ y
    one = split2 _ (λ a b c e. simp zed (omega arith))

-- what the point is worth after t times the steps
over-worth : (s : Instance) (D : ℕ) (x : Point) (N d : ℕ → ℤ) (t : ℕ) → Reads s D x N
    → Over D (value s (stepped x d t)) (valueᴰ s N +ℤ pos (t * D) *ℤ valueᴰ s d)
over-worth s D x N d t h =
    rw (sum-stepped s.count D (prices s) N d t) at
    (over-total D s.count (stepped x d t) (steppedᴰ D N d t) (over-stepped s D x N d t h) (prices s))

-- steps that meet no bound, weigh nothing or less, and bring something
pub record Ray (s : Instance) (d : ℕ → ℤ) : Type 0 where
  pub up : (k : ℕ) → k < s.count → pos 0 <ℤ d k → (s.item k).upper ≡ None
  pub down : (k : ℕ) → k < s.count → d k <ℤ pos 0 → (s.item k).lower ≡ None
  pub light : sum s.count (λ k. weights s k *ℤ d k) ≤ℤ pos 0
  pub gain : pos 0 <ℤ sum s.count (λ k. prices s k *ℤ d k)

pub ray-stays : (s : Instance) (D : ℕ) (N d : ℕ → ℤ) → Ray s d → Feasibleᴰ s D N → (t : ℕ) → Feasibleᴰ s D (steppedᴰ D N d t)
ray-stays s D N d r p t = record {
  keeps = λ k l. record {
    marked = mark-step D (s.item k).mark (N k) (pos t *ℤ d k) (p.keeps k l).marked;
    above = lo (s.item k).lower (N k) (d k) (r.down k l) (≤ℤ-or-< (pos 0) (d k)) (p.keeps k l).above;
    below = up (s.item k).upper (N k) (d k) (r.up k l) (≤ℤ-or-< (d k) (pos 0)) (p.keeps k l).below;
  };
  fits = rw (sum-stepped s.count D (weights s) N d t) (lighter (weighsᴰ s N) (s.capacity *ℤ pos D) (sum s.count (λ k. weights s k *ℤ d k)) (t * D)
      p.fits r.light);
}
  where
    lighter : (w b x : ℤ) (m : ℕ) → w ≤ℤ b → x ≤ℤ pos 0 → (w +ℤ pos m *ℤ x) ≤ℤ b
    lighter = split3 _ (λ a b c e f g m. simp zed (λ k l. omega (arith, mul-le-mul_left m l)))

    rise : (l n d : ℤ) → pos 0 ≤ℤ d → l ≤ℤ n → l ≤ℤ (n +ℤ (pos t *ℤ d) *ℤ pos D)
    rise = split3 _ (λ a b c e f g. simp zed (λ k l. omega (arith, mul-le-mul_left (t * D) k)))

    fall : (u n d : ℤ) → d ≤ℤ pos 0 → n ≤ℤ u → (n +ℤ (pos t *ℤ d) *ℤ pos D) ≤ℤ u
    fall = split3 _ (λ a b c e f g. simp zed (λ k l. omega (arith, mul-le-mul_left (t * D) k)))

    lo : (b : Option ℤ) (n d : ℤ) → (d <ℤ pos 0 → b ≡ None) → (pos 0 ≤ℤ d) ⊎ (d <ℤ pos 0) → KeepsLowerᴰ D b n → KeepsLowerᴰ D b (n +ℤ (pos t *ℤ d) *ℤ pos D)
    lo None n d f c h = tt
    lo (Some l) n d f (inl c) h = rise (l *ℤ pos D) n d c h
    lo (Some l) n d f (inr c) h = subst (λ b. KeepsLowerᴰ D b (n +ℤ (pos t *ℤ d) *ℤ pos D)) (sym (f c)) tt

    up : (b : Option ℤ) (n d : ℤ) → (pos 0 <ℤ d → b ≡ None) → (d ≤ℤ pos 0) ⊎ (pos 0 <ℤ d) → KeepsUpperᴰ D b n → KeepsUpperᴰ D b (n +ℤ (pos t *ℤ d) *ℤ pos D)
    up None n d f c h = tt
    up (Some u) n d f (inl c) h = fall (u *ℤ pos D) n d c h
    up (Some u) n d f (inr c) h = subst (λ b. KeepsUpperᴰ D b (n +ℤ (pos t *ℤ d) *ℤ pos D)) (sym (f c)) tt

pub ray-unbounded : (s : Instance) (x : Point) (d : ℕ → ℤ) (i j : ℕ) → i < s.count → j < s.count → d i ≢ pos 0 → d j ≢ pos 0 →
    ((k : ℕ) → k ≢ i → k ≢ j → d k ≡ pos 0) → Ray s d → Feasible s x → Unbounded s x d
ray-unbounded s x d i j li lj di dj rest r p = record {
  i = i;
  j = j;
  i-in = li;
  j-in = lj;
  i-moves = di;
  j-moves = dj;
  others = rest;
  from = p;
  stays = λ t. (bridge-feasible s D (stepped x d t) (steppedᴰ D N d t) D≥1 (over-stepped s D x N d t reads)).1
      (ray-stays s D N d r ((bridge-feasible s D x N D≥1 reads).0 p) t);
  rises = λ t. over-< D≥1 (over-worth s D x N d t reads) (over-worth s D x N d (suc t) reads) (more D t D≥1 (valueᴰ s N) (valueᴰ s d) r.gain);
}
  where
    c : Common s.count x
    c = common s.count x

    D : ℕ
    D = c.D

    N : ℕ → ℤ
    N = c.N

    D≥1 : 1 ≤ D
    D≥1 = c.D≥1

    reads : Reads s D x N
    reads = c.reads

    more : (D t : ℕ) → 1 ≤ D → (v g : ℤ) → pos 0 <ℤ g → (v +ℤ pos (t * D) *ℤ g) <ℤ (v +ℤ pos (suc t * D) *ℤ g)
    more D t d≥1 = split2 _ (λ a b c e. simp zed (λ h. omega (arith, mul-le-mul_left D h)))

-- ---- and the other way: steps that can be repeated for ever, and gain, are a ray

-- what stays under a number however often g is added does not rise
no-climb : (D : ℕ) → 1 ≤ D → (n g u : ℤ) → ((t : ℕ) → (n +ℤ pos (t * D) *ℤ g) ≤ℤ u) → g ≤ℤ pos 0
no-climb D d n g u under = go (≤ℤ-or-< g (pos 0))
  where
    past : (t : ℕ) (n g u : ℤ) → pos 0 <ℤ g → (n +ℤ pos (t * D) *ℤ g) ≤ℤ u → (u +ℤ pos 1) ≤ℤ (n +ℤ pos t) → ⊥
    past t = split3 _ (λ a b c e f h. simp zed (λ k l m. omega (arith, mul-le-mul_left (t * D) k, mul-le-mul_left t d)))

    go : (g ≤ℤ pos 0) ⊎ (pos 0 <ℤ g) → g ≤ℤ pos 0
    go (inl h) = h
    go (inr h) = let t = gap (u +ℤ pos 1) n in absurd (past t.0 n g u h (under t.0) t.1)

-- an upper bound stops rising steps, and a lower one falling ones
stopped-above : (D : ℕ) → 1 ≤ D → (n d u : ℤ) → pos 0 <ℤ d → ((t : ℕ) → (n +ℤ (pos t *ℤ d) *ℤ pos D) ≤ℤ u) → ⊥
stopped-above D l n d u h under = clash_ℤ h (no-climb D l n d u (λ t. join n d u D t (under t)))
  where
    join : (n d u : ℤ) (D t : ℕ) → (n +ℤ (pos t *ℤ d) *ℤ pos D) ≤ℤ u → (n +ℤ pos (t * D) *ℤ d) ≤ℤ u
    join = split3 _ (λ a b c e f g D t. simp zed (λ h. omega (arith, h)))

stopped-below : (D : ℕ) → 1 ≤ D → (n d l : ℤ) → d <ℤ pos 0 → ((t : ℕ) → l ≤ℤ (n +ℤ (pos t *ℤ d) *ℤ pos D)) → ⊥
stopped-below D g n d l h over = stopped-above D g (neg_ℤ n) (neg_ℤ d) (neg_ℤ l) (rises d h) (λ t. turn n d l D t (over t))
  where
    rises : (d : ℤ) → d <ℤ pos 0 → pos 0 <ℤ neg_ℤ d
    rises = split _ (λ a b. simp zed (omega arith))

    turn : (n d l : ℤ) (D t : ℕ) → l ≤ℤ (n +ℤ (pos t *ℤ d) *ℤ pos D) → (neg_ℤ n +ℤ (pos t *ℤ neg_ℤ d) *ℤ pos D) ≤ℤ neg_ℤ l
    turn = split3 _ (λ a b c e f g D t. simp zed (λ h. omega (arith, h)))

module _ (s : Instance) (x : Point) (d : ℕ → ℤ) where
  steep : Common s.count x → Unbounded s x d → Ray s d
  steep c u = record {
    up = upper;
    down = lower;
    light = no-climb D c.D≥1 (weighsᴰ s N) (weighsᴰ s d) (s.capacity *ℤ pos D) fits;
    gain = go (≤ℤ-or-< (valueᴰ s d) (pos 0));
  }
    where
      D : ℕ
      D = c.D

      N : ℕ → ℤ
      N = c.N

      stays : (t : ℕ) → Feasibleᴰ s D (steppedᴰ D N d t)
      stays t = (bridge-feasible s D (stepped x d t) (steppedᴰ D N d t) c.D≥1 (over-stepped s D x N d t c.reads)).0 (u.stays t)

      fits : (t : ℕ) → (weighsᴰ s N +ℤ pos (t * D) *ℤ weighsᴰ s d) ≤ℤ (s.capacity *ℤ pos D)
      fits t = rw (sum-stepped s.count D (weights s) N d t) at (stays t).fits

      upper : (k : ℕ) → k < s.count → pos 0 <ℤ d k → (s.item k).upper ≡ None
      upper k l h = at (s.item k).upper (λ t. ((stays t).keeps k l).below)
        where
          at : (b : Option ℤ) → ((t : ℕ) → KeepsUpperᴰ D b (steppedᴰ D N d t k)) → b ≡ None
          at None f = refl
          at (Some b) f = absurd (stopped-above D c.D≥1 (N k) (d k) (b *ℤ pos D) h f)

      lower : (k : ℕ) → k < s.count → d k <ℤ pos 0 → (s.item k).lower ≡ None
      lower k l h = at (s.item k).lower (λ t. ((stays t).keeps k l).above)
        where
          at : (b : Option ℤ) → ((t : ℕ) → KeepsLowerᴰ D b (steppedᴰ D N d t k)) → b ≡ None
          at None f = refl
          at (Some b) f = absurd (stopped-below D c.D≥1 (N k) (d k) (b *ℤ pos D) h f)

      flat : (D : ℕ) (v g : ℤ) → g ≤ℤ pos 0 → (v +ℤ pos (1 * D) *ℤ g) ≤ℤ (v +ℤ pos (0 * D) *ℤ g)
      flat D = split2 _ (λ a b c e. simp zed (λ h. omega (arith, mul-le-mul_left D h)))

      go : (valueᴰ s d ≤ℤ pos 0) ⊎ (pos 0 <ℤ valueᴰ s d) → pos 0 <ℤ valueᴰ s d
      go (inl h) =
          absurd (<ᶠ-not-≤ _ _ (u.rises 0)
          ((over-≤ c.D≥1 (over-worth s D x N d 1 c.reads) (over-worth s D x N d 0 c.reads)).1 (flat D (valueᴰ s N) (valueᴰ s d) h)))
      go (inr h) = h

  pub unbounded-ray : Unbounded s x d → Ray s d
  unbounded-ray = steep (common s.count x)

-- ---- along a ray the value passes every number

-- for every number some feasible point is worth more
pub ray-endless : (s : Instance) (x : Point) (d : ℕ → ℤ) → Ray s d → Feasible s x → (v : Frac) → (y : Point) × Feasible s y × (v <ᶠ value s y)
ray-endless s x d r p v = go (common s.count x)
  where
    -- t steps are enough if t is at least what is missing
    enough : (D E t : ℕ) → 1 ≤ D → 1 ≤ E → (n g u : ℤ) → pos 0 <ℤ g → (u +ℤ pos 1) ≤ℤ (n *ℤ pos E +ℤ pos t) → u <ℤ ((n +ℤ pos (t * D) *ℤ g) *ℤ pos E)
    enough D E t d e = split3 _ (λ a b c f h i. simp zed (λ k l. omega (arith, mul-le-mul_left (t * D * E) k, mul-le-mul_left t (mul-le-mul d e))))

    go : Common s.count x → (y : Point) × Feasible s y × (v <ᶠ value s y)
    go c = after (gap (v.num *ℤ pos D +ℤ pos 1) (valueᴰ s N *ℤ pos v.den))
      where
        D : ℕ
        D = c.D

        N : ℕ → ℤ
        N = c.N

        after : (t : ℕ) × ((v.num *ℤ pos D +ℤ pos 1) ≤ℤ (valueᴰ s N *ℤ pos v.den +ℤ pos t)) → (y : Point) × Feasible s y × (v <ᶠ value s y)
        after (t, h) = (
          stepped x d t,
          (bridge-feasible s D (stepped x d t) (steppedᴰ D N d t) c.D≥1 (over-stepped s D x N d t c.reads)).1
              (ray-stays s D N d r ((bridge-feasible s D x N c.D≥1 c.reads).0 p) t),
          over-< (mul-le-mul c.D≥1 v.den≥1) (over-own D v) (over-scale v.den (over-worth s D x N d t c.reads))
              (enough D v.den t c.D≥1 v.den≥1 (valueᴰ s N) (valueᴰ s d) (v.num *ℤ pos D) r.gain h),
        )
