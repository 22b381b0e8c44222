-- The relaxation of a box, item by item: every item at its light end, then those that are worth their weight to their heavy end, by falling ratio, until one
-- does not fit.
use mathlib.Core.Path.{◌≡◌, refl, sym, ap, ap₂, ◌∙◌, subst}
use mathlib.Core.Logic.{◌≢◌, ◌⊎◌, inl, inr}
use Prim.Native.Nat.{ℕ, zero, suc, ◌+◌, ◌*◌, ◌≤◌, ◌<◌}
use native.Mathlib.Omega.{arith}
use native.Mathlib.Nat.{mul-le-mul_left}
use native.Mathlib.Decide.{dec_lt, ℕ_discrete}
use lib.IntN.{ℤ, pos, negsuc, neg_ℤ, nat_abs, ◌+ℤ◌, ◌-ℤ◌, ◌*ℤ◌}
use lib.Signed.{◌≤ℤ◌, ◌<ℤ◌}
use Rattle.arith.proofs.Integers.{split, split2, split3, zed, ≤ℤ-trans, ≤ℤ-reflexive, ≤ℤ-or-<, times-≤}
use Rattle.arith.proofs.Sums.{bump-same, bump-other, sum_bump, sum-cong}
use Rattle.arith.specs.Sum.{Each, bump}
use Rattle.arith.specs.Signs.{times_sign}
use Rattle.greedy.specs.Fill.{unit}
use Rattle.greedy.specs.Ordered.{Idle}
use Rattle.greedy.proofs.Critical.{heavy-end, light-end, filled, fill, fill-price}
use Rattle.knapsack.proofs.Branch.{TooHeavy}
use Rattle.knapsack.proofs.Common.{KeepsMarkᴰ, KeepsLowerᴰ, KeepsUpperᴰ, weighsᴰ, Feasibleᴰ}
use Rattle.knapsack.proofs.Dual.{score, AtBound, AtEnd, Certificate, Within}
use Rattle.knapsack.specs.Meaning.{Instance, weights, prices}
use Rattle.std.specs.Prelude.{Option, Some}
use Rattle.knapsack.specs.declared.Mark.{Mark}
use Rattle.knapsack.specs.declared.Mark.TheVariants.{Integer, Continuous}

-- all bounds are present
pub record Boxed (s : Instance) (lo hi : ℕ → ℤ) : Type 0 where
  pub lower : (k : ℕ) → k < s.count → (s.item k).lower ≡ Some (lo k)
  pub upper : (k : ℕ) → k < s.count → (s.item k).upper ≡ Some (hi k)
  pub order : (k : ℕ) → k < s.count → lo k ≤ℤ hi k

-- x is the light end of an item of weight a and price c with the bounds l and u; one of weight 0 is at the end of the better price
pub record LightAt (a c l u x : ℤ) : Type 0 where
  pub heavy : pos 0 <ℤ a → x ≡ l
  pub light : a <ℤ pos 0 → x ≡ u
  pub good : a ≡ pos 0 → pos 0 <ℤ c → x ≡ u
  pub bad : a ≡ pos 0 → c ≤ℤ pos 0 → x ≡ l

pub record HeavyAt (a l u x : ℤ) : Type 0 where
  pub heavy : pos 0 <ℤ a → x ≡ u
  pub light : a <ℤ pos 0 → x ≡ l

-- a place in an order of falling price per weight
pub record Ranked (s : Instance) (rank : ℕ → ℕ) : Type 0 where
  pub falls : (j k : ℕ) → j < s.count → k < s.count → rank j < rank k → weights s j ≢ pos 0 → weights s k ≢ pos 0
      → (times_sign (weights s k) (prices s k) *ℤ pos (nat_abs (weights s j))) ≤ℤ (times_sign (weights s j) (prices s j) *ℤ pos (nat_abs (weights s k)))
  pub distinct : (j k : ℕ) → j < s.count → k < s.count → rank j ≡ rank k → j ≡ k

-- the items of the first t places are at their heavy end if they are worth their weight; the others at their light end; r is the room that is left
pub record Inv (s : Instance) (lo hi : ℕ → ℤ) (rank : ℕ → ℕ) (t : ℕ) (e : ℕ → ℤ) (r : ℤ) : Type 0 where
  pub heavy : (k : ℕ) → k < s.count → rank k < t → weights s k ≢ pos 0 → pos 0 <ℤ times_sign (weights s k) (prices s k)
      → HeavyAt (weights s k) (lo k) (hi k) (e k)
  pub light : (k : ℕ) → k < s.count → (t ≤ rank k) ⊎ Idle (weights s k) (prices s k) → LightAt (weights s k) (prices s k) (lo k) (hi k) (e k)
  pub level : weighsᴰ s e +ℤ r ≡ s.capacity
  pub room : pos 0 ≤ℤ r

-- ---- ends

pub zero? : (a : ℤ) → (a ≡ pos 0) ⊎ (a ≢ pos 0)
zero? (pos zero) = inl refl
zero? (pos (suc n)) = inr (no (pos (suc n)) (simp zed (omega arith)))
  where
    no : (a : ℤ) → pos 0 <ℤ a → a ≢ pos 0
    no = split _ (λ a b. simp zed (omega arith))
zero? (negsuc n) = inr (no (negsuc n) (simp zed (omega arith)))
  where
    no : (a : ℤ) → a <ℤ pos 0 → a ≢ pos 0
    no = split _ (λ a b. simp zed (omega arith))

at_bound : (E : ℕ) (o : Option ℤ) (b x : ℤ) → o ≡ Some b → x ≡ b → AtBound E o (x *ℤ pos E)
at_bound E o b x h e = rw h (ap (λ z. z *ℤ pos E) e)

pub abs≥1 : (a : ℤ) → a ≢ pos 0 → 1 ≤ nat_abs a
abs≥1 = split _ (λ a b. simp zed (omega arith))

pub sign_of : (a : ℤ) → a ≢ pos 0 → (pos 0 <ℤ a) ⊎ (a <ℤ pos 0)
sign_of a nz = go (≤ℤ-or-< (pos 0) a)
  where
    up : (a : ℤ) → a ≢ pos 0 → pos 0 ≤ℤ a → pos 0 <ℤ a
    up = split _ (λ a b. simp zed (omega arith))

    go : (pos 0 ≤ℤ a) ⊎ (a <ℤ pos 0) → (pos 0 <ℤ a) ⊎ (a <ℤ pos 0)
    go (inl h) = inl (up a nz h)
    go (inr h) = inr h

pub times-sign-up : (a c : ℤ) → pos 0 <ℤ a → times_sign a c ≡ c
times-sign-up (pos n) c h = refl
times-sign-up (negsuc n) c h = absurd h.lt

pub times-sign-dn : (a c : ℤ) → a <ℤ pos 0 → times_sign a c ≡ neg_ℤ c
times-sign-dn (pos n) c h = absurd (no n h)
  where
    no : (n : ℕ) → pos n <ℤ pos 0 → ⊥
    no n = simp zed (omega arith)
times-sign-dn (negsuc n) c h = refl

pub not-idle : (a c : ℤ) → a ≢ pos 0 → pos 0 <ℤ times_sign a c → Idle a c → ⊥
not-idle a c nz h (inl z) = nz z
not-idle a c nz h (inr l) = clash (times_sign a c) h l
  where
    clash : (x : ℤ) → pos 0 <ℤ x → x ≤ℤ pos 0 → ⊥
    clash = split _ (λ a b. simp zed (omega arith))

unit-sq : (a : ℤ) → unit a *ℤ unit a ≡ pos 1
unit-sq (pos n) = refl
unit-sq (negsuc n) = refl

pub unit-abs : (a : ℤ) → a ≡ unit a *ℤ pos (nat_abs a)
unit-abs (pos n) = simp zed (omega arith)
unit-abs (negsuc n) = go (negsuc n) refl
  where
    go : (z : ℤ) → z ≡ negsuc n → z ≡ negsuc 0 *ℤ pos (suc n)
    go = split _ (λ a b. simp zed (omega arith))

pub price-abs : (a c : ℤ) → pos 0 <ℤ times_sign a c → c ≡ unit a *ℤ pos (nat_abs c)
price-abs (pos n) c h = go c h
  where
    go : (c : ℤ) → pos 0 <ℤ c → c ≡ pos 1 *ℤ pos (nat_abs c)
    go = split _ (λ a b. simp zed (omega arith))
price-abs (negsuc n) c h = go c h
  where
    go : (c : ℤ) → pos 0 <ℤ neg_ℤ c → c ≡ negsuc 0 *ℤ pos (nat_abs c)
    go = split _ (λ a b. simp zed (omega arith))

pub times-sign-abs : (a c : ℤ) → pos 0 <ℤ times_sign a c → times_sign a c ≡ pos (nat_abs c)
times-sign-abs (pos n) c h = go c h
  where
    go : (c : ℤ) → pos 0 <ℤ c → c ≡ pos (nat_abs c)
    go = split _ (λ a b. simp zed (omega arith))
times-sign-abs (negsuc n) c h = go c h
  where
    go : (c : ℤ) → pos 0 <ℤ neg_ℤ c → neg_ℤ c ≡ pos (nat_abs c)
    go = split _ (λ a b. simp zed (omega arith))

-- from the light end to the heavy end
lift-weight : (a c l u x y : ℤ) → a ≢ pos 0 → LightAt a c l u x → HeavyAt a l u y → a *ℤ (y -ℤ x) ≡ pos (nat_abs a) *ℤ (u -ℤ l)
lift-weight a c l u x y nz lt hv = go (sign_of a nz)
  where
    up : (a l u : ℤ) → a ≡ pos (nat_abs a) → a *ℤ (u -ℤ l) ≡ pos (nat_abs a) *ℤ (u -ℤ l)
    up a l u h = ap (λ z. z *ℤ (u -ℤ l)) h

    dn : (m : ℕ) (l u : ℤ) → neg_ℤ (pos m) *ℤ (l -ℤ u) ≡ pos m *ℤ (u -ℤ l)
    dn m = split2 _ (λ a b c e. simp zed (omega arith))

    abs-up : (a : ℤ) → pos 0 <ℤ a → a ≡ pos (nat_abs a)
    abs-up = split _ (λ a b. simp zed (omega arith))

    abs-dn : (a : ℤ) → a <ℤ pos 0 → a ≡ neg_ℤ (pos (nat_abs a))
    abs-dn = split _ (λ a b. simp zed (omega arith))

    go : (pos 0 <ℤ a) ⊎ (a <ℤ pos 0) → a *ℤ (y -ℤ x) ≡ pos (nat_abs a) *ℤ (u -ℤ l)
    go (inl h) = ap₂ (λ p q. a *ℤ (p -ℤ q)) (hv.heavy h) (lt.heavy h) ∙ up a l u (abs-up a h)
    go (inr h) = ap₂ (λ p q. a *ℤ (p -ℤ q)) (hv.light h) (lt.light h) ∙ ap (λ z. z *ℤ (l -ℤ u)) (abs-dn a h) ∙ dn (nat_abs a) l u

pub light-in : (a c l u x : ℤ) → l ≤ℤ u → LightAt a c l u x → (l ≤ℤ x) × (x ≤ℤ u)
light-in a c l u x o h = go (zero? a)
  where
    at-l : x ≡ l → (l ≤ℤ x) × (x ≤ℤ u)
    at-l e = (≤ℤ-reflexive (sym e), ≤ℤ-trans (≤ℤ-reflexive e) o)

    at-u : x ≡ u → (l ≤ℤ x) × (x ≤ℤ u)
    at-u e = (≤ℤ-trans o (≤ℤ-reflexive (sym e)), ≤ℤ-reflexive e)

    side : (pos 0 <ℤ a) ⊎ (a <ℤ pos 0) → (l ≤ℤ x) × (x ≤ℤ u)
    side (inl k) = at-l (h.heavy k)
    side (inr k) = at-u (h.light k)

    flat : a ≡ pos 0 → (c ≤ℤ pos 0) ⊎ (pos 0 <ℤ c) → (l ≤ℤ x) × (x ≤ℤ u)
    flat z (inl k) = at-l (h.bad z k)
    flat z (inr k) = at-u (h.good z k)

    go : (a ≡ pos 0) ⊎ (a ≢ pos 0) → (l ≤ℤ x) × (x ≤ℤ u)
    go (inl z) = flat z (≤ℤ-or-< c (pos 0))
    go (inr nz) = side (sign_of a nz)

pub heavy-in : (a l u x : ℤ) → l ≤ℤ u → a ≢ pos 0 → HeavyAt a l u x → (l ≤ℤ x) × (x ≤ℤ u)
heavy-in a l u x o nz h = go (sign_of a nz)
  where
    go : (pos 0 <ℤ a) ⊎ (a <ℤ pos 0) → (l ≤ℤ x) × (x ≤ℤ u)
    go (inl k) = (≤ℤ-trans o (≤ℤ-reflexive (sym (h.heavy k))), ≤ℤ-reflexive (h.heavy k))
    go (inr k) = (≤ℤ-reflexive (sym (h.light k)), ≤ℤ-trans (≤ℤ-reflexive (h.light k)) o)

-- at weight 0 the price alone counts
flat_up : (p q : ℕ) (a c : ℤ) → a ≡ pos 0 → pos 0 <ℤ score p q a c → pos 0 <ℤ c
unfolding score
flat_up p q a c z h = go (≤ℤ-or-< c (pos 0))
  where
    no : (c a : ℤ) → a ≡ pos 0 → pos 0 <ℤ (pos q *ℤ c -ℤ pos p *ℤ a) → c ≤ℤ pos 0 → ⊥
    no = split2 _ (λ x y a b. simp zed (λ z h k. omega (arith, mul-le-mul_left q k, ap (λ (n : ℕ). p * n) z)))

    go : (c ≤ℤ pos 0) ⊎ (pos 0 <ℤ c) → pos 0 <ℤ c
    go (inl k) = absurd (no c a z h k)
    go (inr k) = k

flat-dn : (p q : ℕ) (a c : ℤ) → a ≡ pos 0 → score p q a c <ℤ pos 0 → c ≤ℤ pos 0
unfolding score
flat-dn p q a c z h = go (≤ℤ-or-< c (pos 0))
  where
    no : (c a : ℤ) → a ≡ pos 0 → (pos q *ℤ c -ℤ pos p *ℤ a) <ℤ pos 0 → pos 0 <ℤ c → ⊥
    no = split2 _ (λ x y a b. simp zed (λ z h k. omega (arith, mul-le-mul_left q k, ap (λ (n : ℕ). p * n) z)))

    go : (c ≤ℤ pos 0) ⊎ (pos 0 <ℤ c) → c ≤ℤ pos 0
    go (inl k) = k
    go (inr k) = absurd (no c a z h k)

pub cert-cong : (s : Instance) (E : ℕ) (M M' : ℕ → ℤ) → Each s.count (λ k. M k ≡ M' k) → Certificate s E M → Certificate s E M'
cert-cong s E M M' h c = record {
  p = c.p;
  q = c.q;
  q≥1 = c.q≥1;
  ends = λ k l. subst (λ m. AtEnd E (score c.p c.q (weights s k) (prices s k)) (s.item k) m) (h k l) (c.ends k l);
  tight = ap (λ z. pos c.p *ℤ z) (sum-cong s.count (λ k. weights s k *ℤ M' k) (λ k. weights s k *ℤ M k) (λ k l. ap (λ z. weights s k *ℤ z) (sym (h k l))))
      ∙ c.tight;
}

-- e' is e but for item k
abbrev pub Set : ℕ → (ℕ → ℤ) → ℕ → (ℕ → ℤ) → Type 0
Set n e k e' = (j : ℕ) → j < n → j ≢ k → e' j ≡ e j

weighs-set : (s : Instance) (e e' : ℕ → ℤ) (k : ℕ) → k < s.count → Set s.count e k e' → weighsᴰ s e' ≡ weighsᴰ s e +ℤ weights s k *ℤ (e' k -ℤ e k)
weighs-set s e e' k l h = sum-cong s.count (λ j. weights s j *ℤ e' j) (λ j. weights s j *ℤ bump e k (e' k -ℤ e k) j)
    (λ j m. ap (λ z. weights s j *ℤ z) (at j m (ℕ_discrete j k))) ∙ sum_bump s.count (weights s) e k (e' k -ℤ e k) l
  where
    diff : (x y : ℤ) → x ≡ y +ℤ (x -ℤ y)
    diff = split2 _ (λ a b c e. simp zed (omega arith))

    at : (j : ℕ) → j < s.count → Dec (j ≡ k) → e' j ≡ bump e k (e' k -ℤ e k) j
    at j m (yes q) = rw (q, bump-same e k (e' k -ℤ e k)) (diff (e' k) (e k))
    at j m (no q) = h j m q ∙ sym (bump-other e k (e' k -ℤ e k) j q)

-- what the second exit gives: a point at the capacity, one of whose items may be between its bounds
pub record Critical (s : Instance) (q : ℕ) (M : ℕ → ℤ) : Type 0 where
  pub proof : Certificate s q M
  pub p≥1 : 1 ≤ proof.p
  pub inside : (k : ℕ) → k < s.count → Within q (s.item k) (M k)

-- from the light end, r more of weight than none and less than all
pub part : (a c l u x r : ℤ) → a ≢ pos 0 → LightAt a c l u x → pos 0 ≤ℤ r → r <ℤ (pos (nat_abs a) *ℤ (u -ℤ l))
    → ((l *ℤ pos (nat_abs a)) ≤ℤ (x *ℤ pos (nat_abs a) +ℤ unit a *ℤ r)) × ((x *ℤ pos (nat_abs a) +ℤ unit a *ℤ r) ≤ℤ (u *ℤ pos (nat_abs a)))
part (pos zero) c l u x r nz h k m = absurd (nz refl)
part (pos (suc n)) c l u x r nz h k m = rw (h.heavy (simp zed (omega arith))) (go l u r k m)
  where
    go : (l u r : ℤ) → pos 0 ≤ℤ r → r <ℤ (pos (suc n) *ℤ (u -ℤ l)) → ((l *ℤ pos (suc n)) ≤ℤ (l *ℤ pos (suc n) +ℤ pos 1 *ℤ r))
        × ((l *ℤ pos (suc n) +ℤ pos 1 *ℤ r) ≤ℤ (u *ℤ pos (suc n)))
    go = split3 _ (λ a b c e f g. simp zed (omega arith))
part (negsuc n) c l u x r nz h k m = rw (h.light (simp zed (omega arith))) (go l u r k m)
  where
    go : (l u r : ℤ) → pos 0 ≤ℤ r → r <ℤ (pos (suc n) *ℤ (u -ℤ l)) → ((l *ℤ pos (suc n)) ≤ℤ (u *ℤ pos (suc n) +ℤ negsuc 0 *ℤ r))
        × ((u *ℤ pos (suc n) +ℤ negsuc 0 *ℤ r) ≤ℤ (u *ℤ pos (suc n)))
    go = split3 _ (λ a b c e f g. simp zed (omega arith))

module _ (s : Instance) (lo hi : ℕ → ℤ) (b : Boxed s lo hi) where
  heavy-at : (p q k : ℕ) (x : ℤ) → k < s.count → weights s k ≢ pos 0 → (pos p *ℤ pos (nat_abs (weights s k))) ≤ℤ (pos q *ℤ times_sign (weights s k) (prices s k))
      → HeavyAt (weights s k) (lo k) (hi k) x
      → AtEnd q (score p q (weights s k) (prices s k)) (s.item k) (x *ℤ pos q)
  heavy-at p q k x l nz h e = heavy-end p q q (s.item k) (x *ℤ pos q) nz h
      ((λ i. at_bound q (s.item k).upper (hi k) x (b.upper k l) (e.heavy i)), (λ i. at_bound q (s.item k).lower (lo k) x (b.lower k l) (e.light i)))

  light-at : (p q k : ℕ) (x : ℤ) → k < s.count → weights s k ≢ pos 0 → (pos q *ℤ times_sign (weights s k) (prices s k)) ≤ℤ (pos p *ℤ pos (nat_abs (weights s k)))
      → LightAt (weights s k) (prices s k) (lo k) (hi k) x
      → AtEnd q (score p q (weights s k) (prices s k)) (s.item k) (x *ℤ pos q)
  light-at p q k x l nz h e = light-end p q q (s.item k) (x *ℤ pos q) nz h
      ((λ i. at_bound q (s.item k).lower (lo k) x (b.lower k l) (e.heavy i)), (λ i. at_bound q (s.item k).upper (hi k) x (b.upper k l) (e.light i)))

  flat-at : (p q k : ℕ) (x : ℤ) → k < s.count → weights s k ≡ pos 0 → LightAt (weights s k) (prices s k) (lo k) (hi k) x
      → AtEnd q (score p q (weights s k) (prices s k)) (s.item k) (x *ℤ pos q)
  flat-at p q k x l z e = record {
    good = λ h. at_bound q (s.item k).upper (hi k) x (b.upper k l) (e.good z (flat_up p q (weights s k) (prices s k) z h));
    bad = λ h. at_bound q (s.item k).lower (lo k) x (b.lower k l) (e.bad z (flat-dn p q (weights s k) (prices s k) z h));
  }

  inside : (q k : ℕ) (x : ℤ) → k < s.count → (lo k *ℤ pos q) ≤ℤ x → x ≤ℤ (hi k *ℤ pos q) → Within q (s.item k) x
  inside q k x l hl hu =
      record { above = subst (λ o. KeepsLowerᴰ q o x) (sym (b.lower k l)) hl; below = subst (λ o. KeepsUpperᴰ q o x) (sym (b.upper k l)) hu }

  -- ---- the beginning

  abbrev pub AllLight : (ℕ → ℤ) → Type 0
  AllLight e = (k : ℕ) → k < s.count → LightAt (weights s k) (prices s k) (lo k) (hi k) (e k)

  pub too-heavy : (e : ℕ → ℤ) (r : ℤ) → AllLight e → weighsᴰ s e +ℤ r ≡ s.capacity → r <ℤ pos 0 → TooHeavy s 1 e
  too-heavy e r h lev neg = record {
    ends = λ k l. record {
      good = λ g. subst (AtBound 1 (s.item k).upper) (one (e k)) (at_bound 1 (s.item k).upper (hi k) (e k) (b.upper k l)
          ((h k l).light (flip (weights s k) g)));
      bad = λ g. subst (AtBound 1 (s.item k).lower) (one (e k)) (at_bound 1 (s.item k).lower (lo k) (e k) (b.lower k l)
          ((h k l).heavy (flip' (weights s k) g)));
    };
    over = over (weighsᴰ s e) r s.capacity lev neg;
  }
    where
      one : (x : ℤ) → x *ℤ pos 1 ≡ x
      one = split _ (λ a b. simp zed (omega arith))

      flip : (a : ℤ) → pos 0 <ℤ neg_ℤ a → a <ℤ pos 0
      flip = split _ (λ a b. simp zed (omega arith))

      flip' : (a : ℤ) → neg_ℤ a <ℤ pos 0 → pos 0 <ℤ a
      flip' = split _ (λ a b. simp zed (omega arith))

      over : (w r l : ℤ) → w +ℤ r ≡ l → r <ℤ pos 0 → (l *ℤ pos 1) <ℤ w
      over = split3 _ (λ a b c e f g. simp zed (omega arith))

  pub begin : (rank : ℕ → ℕ) (e : ℕ → ℤ) (r : ℤ) → AllLight e → weighsᴰ s e +ℤ r ≡ s.capacity → pos 0 ≤ℤ r → Inv s lo hi rank 0 e r
  begin rank e r h lev room = record { heavy = λ k l o. absurd (omega arith); light = λ k l o. h k l; level = lev; room = room }

  module _ (rank : ℕ → ℕ) (rk : Ranked s rank) where
    -- ---- the steps of the loop

    pub skip : (t k : ℕ) (e : ℕ → ℤ) (r : ℤ) → k < s.count → rank k ≡ t → Idle (weights s k) (prices s k) → Inv s lo hi rank t e r
        → Inv s lo hi rank (t + 1) e r
    skip t k e r l at idle i =
        record {
          heavy = λ j m o nz h. i.heavy j m (before j m o nz h (ℕ_discrete j k)) nz h;
          light = λ j m o. i.light j m (after j o);
          level = i.level;
          room = i.room;
        }
      where
        before : (j : ℕ) → j < s.count → rank j < t + 1 → weights s j ≢ pos 0 → pos 0 <ℤ times_sign (weights s j) (prices s j) → Dec (j ≡ k) → rank j < t
        before j m o nz h (yes q) = absurd (not-idle (weights s j) (prices s j) nz h (rw q idle))
        before j m o nz h (no q) = go (ℕ_discrete (rank j) (rank k))
          where
            go : Dec (rank j ≡ rank k) → rank j < t
            go (yes f) = absurd (q (rk.distinct j k m l f))
            go (no f) = omega arith

        after : (j : ℕ) → (t + 1 ≤ rank j) ⊎ Idle (weights s j) (prices s j) → (t ≤ rank j) ⊎ Idle (weights s j) (prices s j)
        after j (inl o) = inl (omega arith)
        after j (inr d) = inr d

    pub raise : (t k : ℕ) (e e' : ℕ → ℤ) (r r' : ℤ) → k < s.count → rank k ≡ t → weights s k ≢ pos 0 → pos 0 <ℤ times_sign (weights s k) (prices s k)
        → Set s.count e k e' → HeavyAt (weights s k) (lo k) (hi k) (e' k) → r' ≡ r -ℤ pos (nat_abs (weights s k)) *ℤ (hi k -ℤ lo k) → pos 0 ≤ℤ r'
        → Inv s lo hi rank t e r → Inv s lo hi rank (t + 1) e' r'
    raise t k e e' r r' l at nz worth same new less room i = record {
      heavy = λ j m o nz' h. up j m o nz' h (ℕ_discrete j k);
      light = λ j m o. dn j m o (ℕ_discrete j k);
      level = close (weighsᴰ s e') (weighsᴰ s e) (weights s k *ℤ (e' k -ℤ e k)) (pos (nat_abs (weights s k)) *ℤ (hi k -ℤ lo k)) r r' s.capacity
          (weighs-set s e e' k l same)
          (lift-weight (weights s k) (prices s k) (lo k) (hi k) (e k) (e' k) nz (i.light k l (inl (omega arith))) new) less i.level;
      room = room;
    }
      where
        up : (j : ℕ) → j < s.count → rank j < t + 1 → weights s j ≢ pos 0 → pos 0 <ℤ times_sign (weights s j) (prices s j) → Dec (j ≡ k)
            → HeavyAt (weights s j) (lo j) (hi j) (e' j)
        up j m o nz' h (yes q) = rw q new
        up j m o nz' h (no q) = rw (same j m q) (i.heavy j m (go (ℕ_discrete (rank j) (rank k))) nz' h)
          where
            go : Dec (rank j ≡ rank k) → rank j < t
            go (yes f) = absurd (q (rk.distinct j k m l f))
            go (no f) = omega arith

        weaken : (j : ℕ) → (t + 1 ≤ rank j) ⊎ Idle (weights s j) (prices s j) → (t ≤ rank j) ⊎ Idle (weights s j) (prices s j)
        weaken j (inl o) = inl (omega arith)
        weaken j (inr d) = inr d

        never : (t + 1 ≤ rank k) ⊎ Idle (weights s k) (prices s k) → ⊥
        never (inl o) = omega arith
        never (inr d) = not-idle (weights s k) (prices s k) nz worth d

        dn : (j : ℕ) → j < s.count → (t + 1 ≤ rank j) ⊎ Idle (weights s j) (prices s j) → Dec (j ≡ k) → LightAt (weights s j) (prices s j) (lo j) (hi j) (e' j)
        dn j m o (yes q) = absurd (never (rw q at o))
        dn j m o (no q) = rw (same j m q) (i.light j m (weaken j o))

        close : (w' w d n r r' b : ℤ) → w' ≡ w +ℤ d → d ≡ n → r' ≡ r -ℤ n → w +ℤ r ≡ b → w' +ℤ r' ≡ b
        close w' w d n r r' b f g h k = ap₂ ◌+ℤ◌ (f ∙ ap (λ z. w +ℤ z) g) h ∙ cancel w n r ∙ k
          where
            cancel : (w n r : ℤ) → (w +ℤ n) +ℤ (r -ℤ n) ≡ w +ℤ r
            cancel = split3 _ (λ a b c e f g. simp zed (omega arith))

    -- ---- where e stands

    data Stand (t : ℕ) (e : ℕ → ℤ) (k : ℕ) : Type 0 where
      flat : weights s k ≡ pos 0 → LightAt (weights s k) (prices s k) (lo k) (hi k) (e k) → Stand t e k
      poor : weights s k ≢ pos 0 → times_sign (weights s k) (prices s k) ≤ℤ pos 0 → LightAt (weights s k) (prices s k) (lo k) (hi k) (e k) → Stand t e k
      later : weights s k ≢ pos 0 → t ≤ rank k → LightAt (weights s k) (prices s k) (lo k) (hi k) (e k) → Stand t e k
      raised : weights s k ≢ pos 0 → rank k < t → pos 0 <ℤ times_sign (weights s k) (prices s k) → HeavyAt (weights s k) (lo k) (hi k) (e k) → Stand t e k

    stand : (t : ℕ) (e : ℕ → ℤ) (r : ℤ) (k : ℕ) → k < s.count → Inv s lo hi rank t e r → Stand t e k
    stand t e r k l i = go (zero? (weights s k)) (≤ℤ-or-< (times_sign (weights s k) (prices s k)) (pos 0)) (dec_lt (rank k) t)
      where
        go : (weights s k ≡ pos 0) ⊎ (weights s k ≢ pos 0) → (times_sign (weights s k) (prices s k) ≤ℤ pos 0) ⊎ (pos 0 <ℤ times_sign (weights s k) (prices s k))
            → Dec (rank k < t) → Stand t e k
        go (inl z) w d = flat z (i.light k l (inr (inl z)))
        go (inr nz) (inl w) d = poor nz w (i.light k l (inr (inr w)))
        go (inr nz) (inr w) (yes o) = raised nz o w (i.heavy k l o nz w)
        go (inr nz) (inr w) (no o) = later nz (omega arith) (i.light k l (inl (omega arith)))

    between : (t : ℕ) (e : ℕ → ℤ) (r : ℤ) (k : ℕ) → k < s.count → Inv s lo hi rank t e r → (lo k ≤ℤ e k) × (e k ≤ℤ hi k)
    between t e r k l i = go (stand t e r k l i)
      where
        go : Stand t e k → (lo k ≤ℤ e k) × (e k ≤ℤ hi k)
        go (flat z h) = light-in (weights s k) (prices s k) (lo k) (hi k) (e k) (b.order k l) h
        go (poor nz w h) = light-in (weights s k) (prices s k) (lo k) (hi k) (e k) (b.order k l) h
        go (later nz o h) = light-in (weights s k) (prices s k) (lo k) (hi k) (e k) (b.order k l) h
        go (raised nz o w h) = heavy-in (weights s k) (lo k) (hi k) (e k) (b.order k l) nz h

    -- ---- the first exit: nothing more is worth its weight

    pub finish : (t : ℕ) (e : ℕ → ℤ) (r : ℤ) → Inv s lo hi rank t e r → ((k : ℕ) → k < s.count → t ≤ rank k → Idle (weights s k) (prices s k))
        → Certificate s 1 e
    finish t e r i rest = cert-cong s 1 (λ k. e k *ℤ pos 1) e (λ k l. one (e k))
        (record {
          p = 0;
          q = 1;
          q≥1 = omega arith;
          ends = λ k l. go k l (stand t e r k l i);
          tight = nought (weighsᴰ s (λ k. e k *ℤ pos 1)) (s.capacity *ℤ pos 1);
        })
      where
        one : (x : ℤ) → x *ℤ pos 1 ≡ x
        one = split _ (λ a b. simp zed (omega arith))

        nought : (x y : ℤ) → pos 0 *ℤ x ≡ pos 0 *ℤ y
        nought = split2 _ (λ a b c e. simp zed (omega arith))

        low : (x : ℤ) (m : ℕ) → x ≤ℤ pos 0 → (pos 1 *ℤ x) ≤ℤ (pos 0 *ℤ pos m)
        low = split _ (λ a b m. simp zed (omega arith))

        high : (x : ℤ) (m : ℕ) → pos 0 <ℤ x → (pos 0 *ℤ pos m) ≤ℤ (pos 1 *ℤ x)
        high = split _ (λ a b m. simp zed (omega arith))

        go : (k : ℕ) → k < s.count → Stand t e k → AtEnd 1 (score 0 1 (weights s k) (prices s k)) (s.item k) (e k *ℤ pos 1)
        go k l (flat z h) = flat-at 0 1 k (e k) l z h
        go k l (poor nz w h) = light-at 0 1 k (e k) l nz (low (times_sign (weights s k) (prices s k)) (nat_abs (weights s k)) w) h
        go k l (raised nz o w h) = heavy-at 0 1 k (e k) l nz (high (times_sign (weights s k) (prices s k)) (nat_abs (weights s k)) w) h
        go k l (later nz o h) = idle (rest k l o)
          where
            idle : Idle (weights s k) (prices s k) → AtEnd 1 (score 0 1 (weights s k) (prices s k)) (s.item k) (e k *ℤ pos 1)
            idle (inl z) = absurd (nz z)
            idle (inr w) = light-at 0 1 k (e k) l nz (low (times_sign (weights s k) (prices s k)) (nat_abs (weights s k)) w) h

    -- what the loop has is a feasible point
    pub inv-feasible : (t : ℕ) (e : ℕ → ℤ) (r : ℤ) → Inv s lo hi rank t e r → Feasibleᴰ s 1 e
    inv-feasible t e r i = record {
      keeps = λ k l. let w = inside 1 k (e k) l (one-l (lo k) (e k) (between t e r k l i).0) (one-u (e k) (hi k) (between t e r k l i).1) in
          record { marked = mark (s.item k).mark (e k); above = w.above; below = w.below };
      fits = fit (weighsᴰ s e) r s.capacity i.level i.room;
    }
      where
        one-l : (x y : ℤ) → x ≤ℤ y → (x *ℤ pos 1) ≤ℤ y
        one-l = split2 _ (λ a b c e. simp zed (omega arith))

        one-u : (x y : ℤ) → x ≤ℤ y → x ≤ℤ (y *ℤ pos 1)
        one-u = split2 _ (λ a b c e. simp zed (omega arith))

        one : (x : ℤ) → x ≡ x *ℤ pos 1
        one = split _ (λ a b. simp zed (omega arith))

        mark : (m : Mark) (x : ℤ) → KeepsMarkᴰ 1 m x
        mark Integer x = (x, one x)
        mark Continuous x = tt

        fit : (w r l : ℤ) → w +ℤ r ≡ l → pos 0 ≤ℤ r → w ≤ℤ (l *ℤ pos 1)
        fit = split3 _ (λ a b c e f g. simp zed (omega arith))

    -- ---- at the ratio of the item k of place t

    -- every other item stands at its end
    pub standing : (t k : ℕ) (e : ℕ → ℤ) (r : ℤ) → k < s.count → rank k ≡ t → weights s k ≢ pos 0 → pos 0 <ℤ times_sign (weights s k) (prices s k)
        → Inv s lo hi rank t e r → (j : ℕ) → j < s.count → j ≢ k
        → AtEnd (nat_abs (weights s k)) (score (nat_abs (prices s k)) (nat_abs (weights s k)) (weights s j) (prices s j)) (s.item j)
        (e j *ℤ pos (nat_abs (weights s k)))
    standing t k e r l at nz worth i j m ne = ends j m ne (stand t e r j m i)
      where
        q : ℕ
        q = nat_abs (weights s k)

        p : ℕ
        p = nat_abs (prices s k)

        tk : times_sign (weights s k) (prices s k) ≡ pos p
        tk = times-sign-abs (weights s k) (prices s k) worth

        comm≤ : (m n : ℕ) (x y : ℤ) → (pos m *ℤ x) ≤ℤ (y *ℤ pos n) → (pos m *ℤ x) ≤ℤ (pos n *ℤ y)
        comm≤ m n = split2 _ (λ a b c e. simp zed (omega arith))

        comm≥ : (m n : ℕ) (x y : ℤ) → (y *ℤ pos n) ≤ℤ (pos m *ℤ x) → (pos n *ℤ y) ≤ℤ (pos m *ℤ x)
        comm≥ m n = split2 _ (λ a b c e. simp zed (omega arith))

        poorer : (m n : ℕ) (x : ℤ) (k : ℕ) → x ≤ℤ pos 0 → (pos n *ℤ x) ≤ℤ (pos m *ℤ pos k)
        poorer m n = split _ (λ a b k. simp zed (λ h. omega (arith, mul-le-mul_left n h)))

        ends : (j : ℕ) → j < s.count → j ≢ k → Stand t e j → AtEnd q (score p q (weights s j) (prices s j)) (s.item j) (e j *ℤ pos q)
        ends j m ne (flat z h) = flat-at p q j (e j) m z h
        ends j m ne (poor nz' w h) = light-at p q j (e j) m nz' (poorer p q (times_sign (weights s j) (prices s j)) (nat_abs (weights s j)) w) h
        ends j m ne (raised nz' o w h) =
            heavy-at p q j (e j) m nz' (comm≤ p q (pos (nat_abs (weights s j))) (times_sign (weights s j) (prices s j))
            (rw tk at (rk.falls j k m l (omega arith) nz' nz))) h
        ends j m ne (later nz' o h) = go (ℕ_discrete (rank j) (rank k))
          where
            go : Dec (rank j ≡ rank k) → AtEnd q (score p q (weights s j) (prices s j)) (s.item j) (e j *ℤ pos q)
            go (yes f) = absurd (ne (rk.distinct j k m l f))
            go (no f) = light-at p q j (e j) m nz' (comm≥ p q (pos (nat_abs (weights s j))) (times_sign (weights s j) (prices s j))
                (rw tk at (rk.falls k j l m (omega arith) nz nz'))) h

    -- ---- the second exit: the item k of place t does not fit, and takes the room that is left

    pub critical : (t k : ℕ) (e M : ℕ → ℤ) (r : ℤ) → k < s.count → rank k ≡ t → weights s k ≢ pos 0 → pos 0 <ℤ times_sign (weights s k) (prices s k)
        → r <ℤ (pos (nat_abs (weights s k)) *ℤ (hi k -ℤ lo k))
        → Inv s lo hi rank t e r → ((j : ℕ) → j < s.count → j ≢ k → M j ≡ e j *ℤ pos (nat_abs (weights s k)))
        → M k ≡ e k *ℤ pos (nat_abs (weights s k)) +ℤ unit (weights s k) *ℤ r → Critical s (nat_abs (weights s k)) M
    unfolding cert-cong
    critical t k e M r l at nz worth full i others own = record {
      proof = cert-cong s q (filled s k q (unit (weights s k)) e) M (λ j m. is j m (ℕ_discrete j k))
          (fill s k p q (unit (weights s k)) e l q≥1 (unit-sq (weights s k)) (unit-abs (weights s k)) (price-abs (weights s k) (prices s k) worth) at-ends);
      p≥1 = rw (fill-price s k p q (unit (weights s k)) e l q≥1 (unit-sq (weights s k)) (unit-abs (weights s k)) (price-abs (weights s k) (prices s k) worth)
          at-ends) p≥1;
      inside = λ j m. within-j j m (ℕ_discrete j k);
    }
      where
        q : ℕ
        q = nat_abs (weights s k)

        q≥1 : 1 ≤ q
        q≥1 = abs≥1 (weights s k) nz

        p : ℕ
        p = nat_abs (prices s k)

        tk : times_sign (weights s k) (prices s k) ≡ pos p
        tk = times-sign-abs (weights s k) (prices s k) worth

        p≥1 : 1 ≤ p
        p≥1 = go (nat_abs (prices s k)) (rw tk at worth)
          where
            go : (n : ℕ) → pos 0 <ℤ pos n → 1 ≤ n
            go n = simp zed (omega arith)

        left : (w r l : ℤ) → w +ℤ r ≡ l → l -ℤ w ≡ r
        left = split3 _ (λ a b c e f g. simp zed (omega arith))

        is : (j : ℕ) → j < s.count → Dec (j ≡ k) → filled s k q (unit (weights s k)) e j ≡ M j
        is j m (yes f) = rw (
          f,
          bump-same (λ n. e n *ℤ pos q) k (unit (weights s k) *ℤ (s.capacity -ℤ weighsᴰ s e)),
          left (weighsᴰ s e) r s.capacity i.level,
        ) (sym own)
        is j m (no f) = bump-other (λ n. e n *ℤ pos q) k (unit (weights s k) *ℤ (s.capacity -ℤ weighsᴰ s e)) j f ∙ sym (others j m f)

        at-ends : (j : ℕ) → j < s.count → j ≢ k → AtEnd q (score p q (weights s j) (prices s j)) (s.item j) (e j *ℤ pos q)
        at-ends j m ne = standing t k e r l at nz worth i j m ne

        within-j : (j : ℕ) → j < s.count → Dec (j ≡ k) → Within q (s.item j) (M j)
        within-j j m (yes f) =
            rw (f, own) (let g = part (weights s k) (prices s k) (lo k) (hi k) (e k) r nz (i.light k l (inl (omega arith))) i.room full in inside q k
            (e k *ℤ pos q +ℤ unit (weights s k) *ℤ r) l g.0 g.1)
        within-j j m (no f) =
            rw (others j m f) (let g = between t e r j m i in inside q j (e j *ℤ pos q) m (times-≤ q (lo j) (e j) g.0) (times-≤ q (e j) (hi j) g.1))
