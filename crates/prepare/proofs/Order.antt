-- The columns of an accepted problem are in order: their keys' order is one by falling price per weight.
-- key-falls: the order of two keys is that of their items' prices per weight. columns-ordered, columns-sized.
use mathlib.Core.Path.{◌≡◌, refl, sym, ap, ap₂, ◌∙◌, subst}
use mathlib.Core.Bool.{Bool, true, false, cond}
use mathlib.Core.Logic.{◌≢◌, ◌⊎◌, inl, inr}
use Prim.Native.Nat.{ℕ, ◌*◌, ◌≤◌, ◌<◌}
use native.Mathlib.Decide.{ℕ_discrete}
use native.Mathlib.Nat.{mul-le-mul, mul-le-mul_right, le_of_mul-le-mul_right}
use native.Mathlib.Omega.{arith}
use borrow.Author.Tests.{eqb-true, eqb-false}
use lib.Dec.{eqb}
use lib.IntN.{ℤ, pos, nat_abs, ◌+ℤ◌, ◌*ℤ◌}
use lib.Signed.{◌≤ℤ◌, ◌<ℤ◌, lt_z}
use Rattle.arith.proofs.Integers.{split, split2, zed}
use Rattle.arith.proofs.Parts.{abs-within, impossible}
use Rattle.arith.proofs.Words.{yes_lt, no_lt}
use Rattle.greedy.proofs.Greedy.{zero?, abs≥1}
use Rattle.arith.specs.Signs.{times_sign}
use Rattle.greedy.specs.Fill.{at, place, weight_of, price_of, item_of, rank_of}
use Rattle.greedy.specs.Ordered.{Idle, weight_at, rate_at, Ordered}
use Rattle.greedy.specs.Sized.{SizedColumns}
use Rattle.greedy.specs.declared.Columns.{Columns}
use Rattle.knapsack.specs.Ranges.{item_at, ItemInRange, InRange}
use Rattle.std.specs.Prelude.{Option, None, Some}
use Rattle.knapsack.specs.declared.Item.{Item}
use Rattle.knapsack.specs.declared.Problem.{Problem}
use Rattle.ordering.proofs.Insertion.{sorted-order}
use Rattle.ordering.proofs.Order as keyed
use Rattle.ordering.proofs.Order.{AtLeast}
use Rattle.ordering.proofs.Permutations.{onto}
use Rattle.arith.proofs.Signs.{within-times-sign}
use Rattle.prepare.proofs.Ranges.{size-within, weight-within, price-within}
use Rattle.prepare.specs.Figures.{figure_of, live, light_bound, head_start, filling_key, key_of}
use Rattle.prepare.specs.Tables.{listed}
use Rattle.prepare.specs.declared.tables.Figure.TheVariants.{Weight, Price, Size, Rate}
use Rattle.prepare.specs.declared.tables.Key.TheVariants.{Filling}
use Rattle.prepare.specs.Prepared.{Columned}
use Rattle.prepare.proofs.Lists.{tabled-below, tabled-within}

-- ---- the keys

head-start-is : (b : Option ℤ) (a : ℤ) → (t : ℕ) × (head_start b a ≡ pos t) × (t ≤ nat_abs a)
head-start-is None a = (nat_abs a, refl, omega arith)
head-start-is (Some v) a = (0, refl, omega arith)

-- 2,000,000 times a difference that is not 0 is more than the ties
untied : (m n b c : ℕ) → b * n ≤ 1000000 → (x y : ℤ) → ((pos 2000000 *ℤ y +ℤ pos c) *ℤ pos m) ≤ℤ ((pos 2000000 *ℤ x +ℤ pos b) *ℤ pos n)
    → (y *ℤ pos m) ≤ℤ (x *ℤ pos n)
untied m n b c h = split2 _ (λ s t u v. simp zed (λ k. omega arith))

-- the price per weight of j is not above that of i
abbrev Falls : Item → Item → Type 0
Falls i j = (times_sign j.weight j.price *ℤ pos (nat_abs i.weight)) ≤ℤ (times_sign i.weight i.price *ℤ pos (nat_abs j.weight))

pub key-falls : (i j : Item) → ItemInRange i → ItemInRange j → AtLeast (filling_key i) (filling_key j) → Falls i j
key-falls i j r s h = go (head-start-is (light_bound i) i.weight) (head-start-is (light_bound j) j.weight)
  where
    go : (t : ℕ) × (head_start (light_bound i) i.weight ≡ pos t) × (t ≤ nat_abs i.weight) → (t : ℕ) × (head_start (light_bound j) j.weight ≡ pos t)
        × (t ≤ nat_abs j.weight) → Falls i j
    go (b, e, l) (c, f, m) = let q : b ≤ 1000 = omega (arith, r.weight-in) in
        untied (nat_abs i.weight) (nat_abs j.weight) b c (mul-le-mul q s.weight-in) (times_sign i.weight i.price) (times_sign j.weight j.price)
        (rw (e, f) at h)

size-zero : (a : ℤ) → pos (nat_abs a) ≡ pos 0 → a ≡ pos 0
size-zero = split _ (λ a b. simp zed (omega arith))

zero-size : (a : ℤ) → a ≡ pos 0 → pos (nat_abs a) ≡ pos 0
zero-size a e = ap (λ z. pos (nat_abs z)) e

-- ---- worth its weight, or idle

live-true : (a c : ℤ) → live a c ≡ true → (a ≢ pos 0) × (pos 0 <ℤ times_sign a c)
live-true a c = go (eqb (nat_abs a) 0) refl
  where
    go : (b : Bool) → eqb (nat_abs a) 0 ≡ b → cond b false (lt_z (pos 0) (times_sign a c)) ≡ true → (a ≢ pos 0) × (pos 0 <ℤ times_sign a c)
    go true e h = absurd (impossible h)
    go false e h = ((λ z. eqb-false (nat_abs a) 0 e (ap nat_abs z)), yes_lt h)

live-false : (a c : ℤ) → live a c ≡ false → Idle a c
live-false a c = go (eqb (nat_abs a) 0) refl
  where
    go : (b : Bool) → eqb (nat_abs a) 0 ≡ b → cond b false (lt_z (pos 0) (times_sign a c)) ≡ false → Idle a c
    go true e h = inl (size-zero a (ap pos (eqb-true (nat_abs a) 0 e)))
    go false e h = inr (no_lt h)

-- behind an idle item all are idle
idle-after : (i j : Item) → (i.weight ≡ pos 0 → j.weight ≡ pos 0) → (i.weight ≢ pos 0 → j.weight ≢ pos 0 → Falls i j) → Idle i.weight i.price
    → Idle j.weight j.price
idle-after i j last falls (inl z) = inl (last z)
idle-after i j last falls (inr h) = go (zero? i.weight) (zero? j.weight)
  where
    not-above : (m n : ℕ) → 1 ≤ m → (x y : ℤ) → x ≤ℤ pos 0 → (y *ℤ pos m) ≤ℤ (x *ℤ pos n) → y ≤ℤ pos 0
    not-above m n one = split2 _ (λ a b c e. simp zed (λ h k. le_of_mul-le-mul_right {k = m} (omega (arith, mul-le-mul_right n h)) one))

    go : (i.weight ≡ pos 0) ⊎ (i.weight ≢ pos 0) → (j.weight ≡ pos 0) ⊎ (j.weight ≢ pos 0) → Idle j.weight j.price
    go (inl z) w = inl (last z)
    go (inr z) (inl w) = inl w
    go (inr z) (inr w) = inr (not-above (nat_abs i.weight) (nat_abs j.weight) (abs≥1 i.weight z) (times_sign i.weight i.price)
        (times_sign j.weight j.price) h (falls z w))

-- ---- the columns

module _ (p : Problem) (c : Columns) (r : InRange p) (k : Columned p c) where
  -- the item of rank u
  abbrev it : ℕ → Item
  it u = listed p c.order u

  o : keyed.Ordered (λ j. key_of Filling (item_at p j)) p.count (λ u. place c.order u)
  o = sorted-order (λ j. key_of Filling (item_at p j)) p.count c.order k.order

  it-in : (u : ℕ) → u < p.count → ItemInRange (it u)
  it-in u h = r.items-in (item_of c u) (o.place u h)

  pub weight_is : (j : ℕ) → j < p.count → weight_of c j ≡ (item_at p j).weight
  weight_is = tabled-below p.count (λ j. figure_of Weight (item_at p j)) c.weight k.weights

  pub price-is : (j : ℕ) → j < p.count → price_of c j ≡ (item_at p j).price
  price-is = tabled-below p.count (λ j. figure_of Price (item_at p j)) c.price k.prices

  weight-at : (u : ℕ) → u < p.count → weight_at c u ≡ (it u).weight
  weight-at u h = weight_is (item_of c u) (o.place u h)

  price-at : (u : ℕ) → u < p.count → price_of c (item_of c u) ≡ (it u).price
  price-at u h = price-is (item_of c u) (o.place u h)

  rate-at : (u : ℕ) → u < p.count → rate_at c u ≡ times_sign (it u).weight (it u).price
  rate-at u h = ap₂ times_sign (weight-at u h) (price-at u h)

  it-falls : (u v : ℕ) → u < v → v < p.count → (it u).weight ≢ pos 0 → (it v).weight ≢ pos 0 → Falls (it u) (it v)
  it-falls u v h l nu nv = key-falls (it u) (it v) (it-in u (omega arith)) (it-in v l)
      (o.falls u v h l (λ z. nu (size-zero (it u).weight z)) (λ z. nv (size-zero (it v).weight z)))

  it-last : (u v : ℕ) → u < v → v < p.count → (it u).weight ≡ pos 0 → (it v).weight ≡ pos 0
  it-last u v h l z = size-zero (it v).weight (o.last u v h l (zero-size (it u).weight z))

  -- the rank of an item
  led-back : (j : ℕ) → j < p.count → (rank_of c j < p.count) × (item_of c (rank_of c j) ≡ j)
  led-back j l = go (onto p.count (λ u. place c.order u) o.place o.once j l)
    where
      go : (u : ℕ) × (u < p.count) × (place c.order u ≡ j) → (rank_of c j < p.count) × (item_of c (rank_of c j) ≡ j)
      go (u, h, e) = (subst (λ x. rank_of c x < p.count) e (omega (arith, k.rank u h)), subst (λ x. item_of c (rank_of c x) ≡ x) e (ap (item_of c) (k.rank u h)))

  live-is : (u : ℕ) → u < c.live → ((it u).weight ≢ pos 0) × (pos 0 <ℤ times_sign (it u).weight (it u).price)
  live-is u h = live-true (it u).weight (it u).price (k.live.pass u h)

  it-idle : (u : ℕ) → c.live ≤ u → u < p.count → Idle (it u).weight (it u).price
  it-idle u h l = go (ℕ_discrete c.live u)
    where
      stop : Idle (it c.live).weight (it c.live).price
      stop = live-false (it c.live).weight (it c.live).price (k.live.stop (omega arith))

      go : Dec (c.live ≡ u) → Idle (it u).weight (it u).price
      go (yes e) = subst (λ v. Idle (it v).weight (it v).price) e stop
      go (no e) = idle-after (it c.live) (it u) (it-last c.live u (omega arith) l) (it-falls c.live u (omega arith) l) stop

  size_is : (u : ℕ) → u < p.count → at c.size u ≡ pos (nat_abs (it u).weight)
  size_is = tabled-below p.count (λ u. figure_of Size (it u)) c.size k.sizes

  rate-is : (u : ℕ) → u < p.count → at c.rate u ≡ times_sign (it u).weight (it u).price
  rate-is = tabled-below p.count (λ u. figure_of Rate (it u)) c.rate k.rates

  pub columns-ordered : Ordered c
  columns-ordered = record {
    item_in = λ u h. omega (arith, k.count, o.place u (omega (arith, k.count)));
    rank-in = λ j h. omega (arith, k.count, (led-back j (omega (arith, k.count))).0);
    item-rank = λ j h. (led-back j (omega (arith, k.count))).1;
    rank-item = λ u h. k.rank u (omega (arith, k.count));
    falls = λ u v h l nu nv. let m : v < p.count = omega (arith, k.count) in let w : u < p.count = omega arith in
        rw (rate-at v m, rate-at u w, weight-at u w, weight-at v m) (it-falls u v h m (λ z. nu (weight-at u w ∙ z)) (λ z. nv (weight-at v m ∙ z)));
    live_in = omega (arith, k.count, k.live.most);
    live-weight = λ u h z. (live-is u h).0 (sym (weight-at u (omega (arith, k.live.most))) ∙ z);
    live-rate = λ u h. rw (rate-at u (omega (arith, k.live.most))) (live-is u h).1;
    idle = λ u h l. let m : u < p.count = omega (arith, k.count) in rw (weight-at u m, price-at u m) (it-idle u h m);
    sizes = λ u h. let m : u < p.count = omega (arith, k.live.most) in size_is u m ∙ ap (λ z. pos (nat_abs z)) (sym (weight-at u m));
    rates = λ u h. let m : u < p.count = omega (arith, k.live.most) in rate-is u m ∙ sym (rate-at u m);
  }

  pub columns-sized : SizedColumns c
  columns-sized = record {
    few = omega (arith, k.count, r.few-items);
    live-few = omega (arith, k.live.most, r.few-items);
    weights-in = tabled-within p.count (λ j. figure_of Weight (item_at p j)) c.weight k.weights 1000
        (λ u h. weight-within (item_at p u) (r.items-in u h));
    prices-in = tabled-within p.count (λ j. figure_of Price (item_at p j)) c.price k.prices 10000 (λ u h. price-within (item_at p u) (r.items-in u h));
    sizes-in = tabled-within p.count (λ u. figure_of Size (it u)) c.size k.sizes 1000
        (λ u h. size-within (it u).weight (weight-within (it u) (it-in u h)));
    rates-in = tabled-within p.count (λ u. figure_of Rate (it u)) c.rate k.rates 10000
        (λ u h. within-times-sign (it u).weight (it u).price (price-within (it u) (it-in u h)));
    items-in = k.order.below;
    live-sizes = λ u h. rw (size_is u (omega (arith, k.live.most))) (abs≥1 (it u).weight (live-is u h).0);
    capacity-in = rw k.capacity (abs-within p.capacity r.capacity-in);
  }
