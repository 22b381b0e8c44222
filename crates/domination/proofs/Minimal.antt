-- The computed pair is 01's.
--   turn w r          the step r with the sign of the weight w taken out: the fill coordinate of document 000's observation 3.2
--   Fill a b c d R S  01's two sums in fill coordinates, for weights a, b and prices c, d without sign
--   Outcome x y q     what 01 says of q as the least pair of x and y
-- ways: a cost pair is a trade of one of the items for the other.
-- pair-outcome: pair_of is 01's least pair.
-- pair-steps, pair-missing: and it gives steps exactly if they are the least pair, None exactly if there is no cost pair.
-- same-signs, theorem-3-2: document 000's theorem 3.2 for eligible items.
use mathlib.Core.Path.{◌≡◌, refl, sym, ap, ap₂, ◌∙◌, subst}
use mathlib.Core.Bool.{Bool, true, false, cond}
use mathlib.Core.Logic.{◌↔◌, ◌⊎◌, inl, inr, ⊎_elim}
use Prim.Native.Nat.{ℕ, zero, suc, ◌*◌, ◌≤◌, ◌<◌}
use native.Mathlib.Omega.{arith}
use lib.Dec.{le→leb}
use lib.IntN.{ℤ, pos, negsuc, neg_ℤ, nat_abs, ◌+ℤ◌, ◌-ℤ◌, ◌*ℤ◌}
use lib.Signed.{◌≤ℤ◌, ◌<ℤ◌, le_z_yes, lt_z_yes}
use borrow.Author.Tests.{ltb-true, lt-ltb}
use Rattle.arith.specs.Gcd.{signed}
use Rattle.arith.proofs.Integers.{split, split2, zed, ≤ℤ-trans, nat_abs-neg}
use Rattle.arith.proofs.Parts.{zs, sum, prod}
use Rattle.std.specs.Prelude.{Option, None, Some}
use Rattle.knapsack.specs.declared.Item.{Item}
use Rattle.knapsack.specs.Meaning.{StepFits, TwoSteps, CostPair, LeastPair, NoPair}
use Rattle.domination.specs.Trades.{Trade}
use Rattle.domination.specs.Eligible.{Eligible}
use Rattle.domination.specs.Pairs.{room_for, less_efficient, giving, taking, one_way, swapped, pair_of}
use Rattle.domination.proofs.Tests.{not-both, test-le}
use Rattle.domination.proofs.Trades.{Least, least-trade, trade-way, trade-gives}

-- ---- weight and price of one sign

pub data Signs : ℤ → ℤ → Type 0 where
  above : (w c : ℕ) → Signs (pos (suc w)) (pos (suc c))
  below : (w c : ℕ) → Signs (negsuc w) (negsuc c)

signs-above : (w c : ℤ) → pos 0 <ℤ w → pos 0 <ℤ c → Signs w c
signs-above (pos zero) c h k = absurd h.lt
signs-above (pos (suc w)) (pos zero) h k = absurd k.lt
signs-above (pos (suc w)) (pos (suc c)) h k = above w c
signs-above (pos (suc w)) (negsuc c) h k = absurd k.lt
signs-above (negsuc w) c h k = absurd h.lt

signs-below : (w c : ℤ) → w <ℤ pos 0 → c <ℤ pos 0 → Signs w c
signs-below (pos w) c h k = absurd (omega (arith, zs))
signs-below (negsuc w) (pos c) h k = absurd (omega (arith, zs))
signs-below (negsuc w) (negsuc c) h k = below w c

pub signs : (x : Item) → Eligible x → Signs x.weight x.price
signs x e = ⊎_elim (λ h. signs-above x.weight x.price h.0 h.1) (λ h. signs-below x.weight x.price h.0 h.1) e.one-sign

own_sign : (w c : ℤ) → Signs w c → Signs w w
own_sign w c (above m n) = above m m
own_sign w c (below m n) = below m m

pub nonzero : (w c : ℤ) → Signs w c → (1 ≤ nat_abs w) × (1 ≤ nat_abs c)
nonzero w c (above m n) = (omega arith, omega arith)
nonzero w c (below m n) = (omega arith, omega arith)

-- ---- fill coordinates

abbrev turn : ℤ → ℤ → ℤ
turn (pos n) r = r
turn (negsuc n) r = neg_ℤ r

nat_abs-turn : (w r : ℤ) → nat_abs (turn w r) ≡ nat_abs r
nat_abs-turn (pos n) r = refl
nat_abs-turn (negsuc n) r = nat_abs-neg r

neg-neg : (r : ℤ) → neg_ℤ (neg_ℤ r) ≡ r
neg-neg = split _ (λ a b. simp zed)

turn-turn : (w r : ℤ) → turn w (turn w r) ≡ r
turn-turn (pos n) r = refl
turn-turn (negsuc n) r = neg-neg r

against : (n : ℕ) (r : ℤ) → negsuc n *ℤ r ≡ pos (suc n) *ℤ neg_ℤ r
against n = split _ (λ a b. simp zed (omega arith))

figure-turned : (w z r : ℤ) → Signs w z → z *ℤ r ≡ pos (nat_abs z) *ℤ turn w r
figure-turned w z r (above m n) = refl
figure-turned w z r (below m n) = against n r

-- a sum of two items' figures, each with the sign of its item's weight
sum-turned : (w u r v z s : ℤ) → Signs w u → Signs v z → u *ℤ r +ℤ z *ℤ s ≡ pos (nat_abs u) *ℤ turn w r +ℤ pos (nat_abs z) *ℤ turn v s
sum-turned w u r v z s p q = ap₂ ◌+ℤ◌ (figure-turned w u r p) (figure-turned v z s q)

signed-turn : (w : ℤ) (n : ℕ) → signed w n ≡ turn w (pos n)
unfolding signed
signed-turn (pos k) n = refl
signed-turn (negsuc k) n = refl

opposite-turn : (w : ℤ) (n : ℕ) → neg_ℤ (signed w n) ≡ turn w (neg_ℤ (pos n))
unfolding signed
opposite-turn (pos k) n = refl
opposite-turn (negsuc k) n = refl

record Fill (a b c d : ℕ) (R S : ℤ) : Type 0 where
  pub heavy : pos 0 ≤ℤ (pos a *ℤ R +ℤ pos b *ℤ S)
  pub loss : (pos c *ℤ R +ℤ pos d *ℤ S) <ℤ pos 0

-- one item is given and the other taken
data Way (a b c d : ℕ) : ℤ → ℤ → Type 0 where
  forth : (r t : ℕ) → Trade a b c d r (suc t) → Way a b c d (pos r) (negsuc t)
  back : (r t : ℕ) → Trade b a d c t (suc r) → Way a b c d (negsuc r) (pos t)

ways : (a b c d : ℕ) (R S : ℤ) → 1 ≤ a → Fill a b c d R S → Way a b c d R S
ways a b c d (pos r) (pos t) h f = absurd (omega (arith, zs, f.loss))
ways a b c d (pos r) (negsuc t) h f =
    forth r t (record {
      light = omega (arith, zs, f.heavy, sum (pos a *ℤ pos r) (pos b *ℤ negsuc t), prod (pos b) (negsuc t));
      dear = omega (arith, zs, f.loss, sum (pos c *ℤ pos r) (pos d *ℤ negsuc t), prod (pos d) (negsuc t));
    })
ways a b c d (negsuc r) (pos t) h f =
    back r t (record {
      light = omega (arith, zs, f.heavy, sum (pos a *ℤ negsuc r) (pos b *ℤ pos t), prod (pos a) (negsuc r));
      dear = omega (arith, zs, f.loss, sum (pos c *ℤ negsuc r) (pos d *ℤ pos t), prod (pos c) (negsuc r));
    })
ways a b c d (negsuc r) (negsuc t) h f =
    absurd (omega (arith, zs, f.heavy, sum (pos a *ℤ negsuc r) (pos b *ℤ negsuc t), prod (pos a) (negsuc r), prod (pos b) (negsuc t)))

fill : (a b c d r t : ℕ) → Trade a b c d r t → (S : ℤ) → S ≡ neg_ℤ (pos t) → Fill a b c d (pos r) S
fill a b c d r t x =
    split _
    (λ u v. simp zed
    (λ e. record {
      heavy = simp zed (omega (arith, x.light, ap (λ (n : ℕ). b * n) e));
      loss = simp zed (omega (arith, x.dear, ap (λ (n : ℕ). d * n) e));
    }))

-- ---- room

room-for : (l u : Option ℤ) (n : ℕ) (r : ℤ) → nat_abs r ≡ n → room_for l u n ≡ true → StepFits l u r
room-for None u n r e h = tt
room-for (Some l) None n r e h = tt
room-for (Some l) (Some u) n r e h = rw e (le_z_yes (rw h tt))

-- where a step has room, a lesser one has
room-less : (l u : Option ℤ) (n : ℕ) (r : ℤ) → n ≤ nat_abs r → StepFits l u r → room_for l u n ≡ true
room-less None u n r e h = refl
room-less (Some l) None n r e h = refl
room-less (Some l) (Some u) n r e h = test-le (pos n) (u -ℤ l) (≤ℤ-trans (le_z_yes {a = pos n} {b = pos (nat_abs r)} (le→leb n (nat_abs r) e)) h)

-- ---- two eligible items

add_comm : (x y : ℤ) → x +ℤ y ≡ y +ℤ x
add_comm = split2 _ (λ a b c e. simp zed (omega arith))

steps-swap : {x y : Item} {r s : ℤ} → TwoSteps x y r s → TwoSteps y x s r
steps-swap h = record { r-moves = h.t-moves; t-moves = h.r-moves; r-fits = h.t-fits; t-fits = h.r-fits }

cost-swap : {x y : Item} {r s : ℤ} → CostPair x y r s → CostPair y x s r
cost-swap {x} {y} {r} {s} h = record {
  steps = steps-swap h.steps;
  heavy = rw (add_comm (y.weight *ℤ s) (x.weight *ℤ r)) h.heavy;
  loss = rw (add_comm (y.price *ℤ s) (x.price *ℤ r)) h.loss;
}

least-swap : {x y : Item} {r s : ℤ} → LeastPair x y r s → LeastPair y x s r
least-swap m = record { pair = cost-swap m.pair; least = λ r' s' h. let k = m.least s' r' (cost-swap h) in (k.1, k.0) }

abbrev pub Outcome : Item → Item → Option (ℤ × ℤ) → Type 0
Outcome x y None = NoPair x y
Outcome x y (Some (r, s)) = LeastPair x y r s

outcome-swap : (x y : Item) (q : Option (ℤ × ℤ)) → Outcome y x q → Outcome x y (swapped q)
outcome-swap x y None h = λ r s d. h s r (cost-swap d)
outcome-swap x y (Some (r, s)) h = least-swap h

abbrev TradeOf : Item → Item → ℕ → ℕ → Type 0
TradeOf x y = Trade (nat_abs x.weight) (nat_abs y.weight) (nat_abs x.price) (nat_abs y.price)

abbrev WayOf : Item → Item → ℤ → ℤ → Type 0
WayOf x y = Way (nat_abs x.weight) (nat_abs y.weight) (nat_abs x.price) (nat_abs y.price)

abbrev FillOf : Item → Item → ℤ → ℤ → Type 0
FillOf x y = Fill (nat_abs x.weight) (nat_abs y.weight) (nat_abs x.price) (nat_abs y.price)

abbrev Less : Item → Item → Type 0
Less x y = nat_abs x.price * nat_abs y.weight < nat_abs x.weight * nat_abs y.price

weighs : (x : Item) → Eligible x → Signs x.weight x.weight
weighs x e = own_sign x.weight x.price (signs x e)

-- what is given in a trade is something, and of the less efficient item
trade-something : (x y : Item) → Eligible y → (r t : ℕ) → TradeOf x y r t → 1 ≤ r
trade-something x y e r t h = trade-gives _ _ _ _ r t (nonzero _ _ (signs y e)).0 h

trade-direction : (x y : Item) → Eligible y → (r t : ℕ) → TradeOf x y r t → less_efficient x y ≡ true
trade-direction x y e r t h = lt-ltb _ _ (trade-way _ _ _ _ r t (nonzero _ _ (signs y e)).0 h)

one-direction : (x y : Item) → less_efficient x y ≡ true → less_efficient y x ≡ true → ⊥
one-direction x y h k = let p : Less x y = ltb-true _ _ h in let q : Less y x = ltb-true _ _ k in omega arith

module _ (x y : Item) (ex : Eligible x) (ey : Eligible y) where
  -- 01's two sums in fill coordinates
  turned : (r s : ℤ) → CostPair x y r s → FillOf x y (turn x.weight r) (turn y.weight s)
  turned r s h = record {
    heavy = rw (sum-turned x.weight x.weight r y.weight y.weight s (weighs x ex) (weighs y ey)) at h.heavy;
    loss = rw (sum-turned x.weight x.price r y.weight y.price s (signs x ex) (signs y ey)) at h.loss;
  }

  -- and back
  unturned : (R S : ℤ) → FillOf x y R S →
      (pos 0 ≤ℤ (x.weight *ℤ turn x.weight R +ℤ y.weight *ℤ turn y.weight S)) ×
      ((x.price *ℤ turn x.weight R +ℤ y.price *ℤ turn y.weight S) <ℤ pos 0)
  unturned R S f =
      let r = turn x.weight R in
      let s = turn y.weight S in (
        rw (sum-turned x.weight x.weight r y.weight y.weight s (weighs x ex) (weighs y ey), turn-turn x.weight R, turn-turn y.weight S)
            f.heavy,
        rw (sum-turned x.weight x.price r y.weight y.price s (signs x ex) (signs y ey), turn-turn x.weight R, turn-turn y.weight S) f.loss,
      )

  way : (r s : ℤ) → CostPair x y r s → WayOf x y (turn x.weight r) (turn y.weight s)
  way r s h = ways _ _ _ _ _ _ (nonzero _ _ (signs x ex)).0 (turned r s h)

  module _ (l : less_efficient x y ≡ true) where
    found : Least (nat_abs x.weight) (nat_abs y.weight) (nat_abs x.price) (nat_abs y.price) (giving x y) (taking x y)
    found = least-trade _ _ _ _ (nonzero _ _ (signs y ey)).0 (nonzero _ _ (signs y ey)).1 (ltb-true _ _ l)

    gives : 1 ≤ giving x y
    gives = trade-something x y ey (giving x y) (taking x y) found.trade

    -- no cost pair has lesser steps
    bound : (r s : ℤ) → CostPair x y r s → (giving x y ≤ nat_abs r) × (taking x y ≤ nat_abs s)
    bound r s h = go _ _ (nat_abs-turn x.weight r) (nat_abs-turn y.weight s) (way r s h)
      where
        go : (R S : ℤ) → nat_abs R ≡ nat_abs r → nat_abs S ≡ nat_abs s → WayOf x y R S → (giving x y ≤ nat_abs r) × (taking x y ≤ nat_abs s)
        go R S p q (forth u t w) = (omega (arith, found.gives u (suc t) w), omega (arith, found.takes u (suc t) w))
        go R S p q (back u t w) = absurd (one-direction x y l (trade-direction y x ex t (suc u) w))

    abbrev first : ℤ
    first = signed x.weight (giving x y)

    abbrev second : ℤ
    second = neg_ℤ (signed y.weight (taking x y))

    first-size : nat_abs first ≡ giving x y
    first-size = ap nat_abs (signed-turn x.weight (giving x y)) ∙ nat_abs-turn x.weight (pos (giving x y))

    second-size : nat_abs second ≡ taking x y
    second-size = ap nat_abs (opposite-turn y.weight (taking x y)) ∙ nat_abs-turn y.weight (neg_ℤ (pos (taking x y))) ∙ nat_abs-neg (pos (taking x y))

    meets : room_for x.lower x.upper (giving x y) ≡ true → room_for y.lower y.upper (taking x y) ≡ true → LeastPair x y first second
    meets p q =
        let f = fill _ _ _ _ _ _ found.trade _ refl in
        let b = unturned (pos (giving x y)) (neg_ℤ (pos (taking x y))) f in
        record {
          pair = record {
            steps = record {
              r-moves = λ e. let z = sym first-size ∙ ap nat_abs e in omega (arith, gives);
              t-moves = λ e. let z = sym second-size ∙ ap nat_abs e in omega arith;
              r-fits = room-for x.lower x.upper (giving x y) _ first-size p;
              t-fits = room-for y.lower y.upper (taking x y) _ second-size q;
            };
            heavy = rw (signed-turn x.weight (giving x y), opposite-turn y.weight (taking x y)) b.0;
            loss = rw (signed-turn x.weight (giving x y), opposite-turn y.weight (taking x y)) b.1;
          };
          least = λ r s h. rw (first-size, second-size) (bound r s h);
        }

    no-first-room : room_for x.lower x.upper (giving x y) ≡ false → NoPair x y
    no-first-room e r s h = not-both _ (room-less x.lower x.upper (giving x y) r (bound r s h).0 h.steps.r-fits) e

    no-second-room : room_for y.lower y.upper (taking x y) ≡ false → NoPair x y
    no-second-room e r s h = not-both _ (room-less y.lower y.upper (taking x y) s (bound r s h).1 h.steps.t-fits) e

    one-way-outcome : Outcome x y (one_way x y)
    unfolding one_way
    one-way-outcome = go (room_for x.lower x.upper (giving x y)) (room_for y.lower y.upper (taking x y)) refl refl
      where
        go : (p q : Bool) → room_for x.lower x.upper (giving x y) ≡ p → room_for y.lower y.upper (taking x y) ≡ q →
            Outcome x y (cond p (cond q (Some (first, second)) None) None)
        go true true e f = meets e f
        go true false e f = no-second-room f
        go false q e f = no-first-room e

  -- of equal ratios there is no cost pair
  no-direction : less_efficient x y ≡ false → less_efficient y x ≡ false → NoPair x y
  no-direction p q r s h = go _ _ (way r s h)
    where
      go : (R S : ℤ) → WayOf x y R S → ⊥
      go R S (forth u t w) = not-both _ (trade-direction x y ey u (suc t) w) p
      go R S (back u t w) = not-both _ (trade-direction y x ex t (suc u) w) q

pub pair-outcome : (x y : Item) → Eligible x → Eligible y → Outcome x y (pair_of x y)
unfolding pair_of
pair-outcome x y ex ey = go (less_efficient x y) (less_efficient y x) refl refl
  where
    go : (p q : Bool) → less_efficient x y ≡ p → less_efficient y x ≡ q → Outcome x y (cond p (one_way x y) (cond q (swapped (one_way y x)) None))
    go true q e f = one-way-outcome x y ex ey e
    go false true e f = outcome-swap x y (one_way y x) (one-way-outcome y x ey ex f)
    go false false e f = no-direction x y ex ey e f

-- ---- 01's least pair exactly, and document 000's theorem 3.2

abbrev pub SameSign : ℤ → ℤ → Type 0
SameSign r s = ((pos 0 <ℤ r) × (pos 0 <ℤ s)) ⊎ ((r <ℤ pos 0) × (s <ℤ pos 0))

-- the steps of theorem 3.2's second case
pub record Leads (x y : Item) (r s : ℤ) : Type 0 where
  pub minimal : LeastPair x y r s
  pub signs-kept : (r' s' : ℤ) → CostPair x y r' s' → SameSign r r' × SameSign s s'

neg-below : (r : ℤ) → pos 0 <ℤ neg_ℤ r → r <ℤ pos 0
neg-below = split _ (λ a b. simp zed (omega arith))

neg-above : (r : ℤ) → neg_ℤ r <ℤ pos 0 → pos 0 <ℤ r
neg-above = split _ (λ a b. simp zed (omega arith))

turn-signs : (w r s : ℤ) → SameSign (turn w r) (turn w s) → SameSign r s
turn-signs (pos n) r s h = h
turn-signs (negsuc n) r s (inl h) = inr (neg-below r h.0, neg-below s h.1)
turn-signs (negsuc n) r s (inr h) = inl (neg-above r h.0, neg-above s h.1)

above_zero : (n : ℕ) → 1 ≤ n → pos 0 <ℤ pos n
above_zero n h = omega (arith, zs)

same_size : (r s : ℤ) → SameSign r s → nat_abs r ≡ nat_abs s → r ≡ s
same_size (pos m) (pos n) h e = ap pos e
same_size (pos m) (negsuc n) (inl h) e = absurd h.1.lt
same_size (pos m) (negsuc n) (inr h) e = absurd (omega (arith, zs, h.0))
same_size (negsuc m) (pos n) (inl h) e = absurd h.0.lt
same_size (negsuc m) (pos n) (inr h) e = absurd (omega (arith, zs, h.1))
same_size (negsuc m) (negsuc n) h e = ap negsuc (omega arith)

module _ (x y : Item) (ex : Eligible x) (ey : Eligible y) where
  way-signs : (R S R' S' : ℤ) → WayOf x y R S → WayOf x y R' S' → SameSign R R' × SameSign S S'
  way-signs R S R' S' (forth r t v) (forth u q w) =
      (inl (above_zero r (trade-something x y ey r (suc t) v), above_zero u (trade-something x y ey u (suc q) w)), inr (lt_z_yes tt, lt_z_yes tt))
  way-signs R S R' S' (forth r t v) (back u q w) = absurd (one-direction x y (trade-direction x y ey r (suc t) v) (trade-direction y x ex q (suc u) w))
  way-signs R S R' S' (back r t v) (forth u q w) = absurd (one-direction x y (trade-direction x y ey u (suc q) w) (trade-direction y x ex t (suc r) v))
  way-signs R S R' S' (back r t v) (back u q w) =
      (inr (lt_z_yes tt, lt_z_yes tt), inl (above_zero t (trade-something y x ex t (suc r) v), above_zero q (trade-something y x ex q (suc u) w)))

  pub same-signs : (r s r' s' : ℤ) → CostPair x y r s → CostPair x y r' s' → SameSign r r' × SameSign s s'
  same-signs r s r' s' h k =
      let g = way-signs _ _ _ _ (way x y ex ey r s h) (way x y ex ey r' s' k) in
      (turn-signs x.weight r r' g.0, turn-signs y.weight s s' g.1)

  -- there is one least pair at most
  least-unique : (r s r' s' : ℤ) → LeastPair x y r s → LeastPair x y r' s' → (r ≡ r') × (s ≡ s')
  least-unique r s r' s' m n =
      let g = same-signs r s r' s' m.pair n.pair in (
        same_size r r' g.0 (omega (arith, m.least r' s' n.pair, n.least r s m.pair)),
        same_size s s' g.1 (omega (arith, m.least r' s' n.pair, n.least r s m.pair)),
      )

  outcome-steps : (q : Option (ℤ × ℤ)) → Outcome x y q → (r s : ℤ) → LeastPair x y r s → q ≡ Some (r, s)
  outcome-steps None o r s m = absurd (o r s m.pair)
  outcome-steps (Some (r, s)) o r' s' m = let g = least-unique r s r' s' o m in ap₂ (λ r s. Some (r, s)) g.0 g.1

  outcome-missing : (q : Option (ℤ × ℤ)) → Outcome x y q → NoPair x y → q ≡ None
  outcome-missing None o n = refl
  outcome-missing (Some (r, s)) o n = absurd (n r s o.pair)

  pub pair-steps : (r s : ℤ) → (pair_of x y ≡ Some (r, s)) ↔ LeastPair x y r s
  pair-steps r s = (λ e. subst (Outcome x y) e (pair-outcome x y ex ey), outcome-steps (pair_of x y) (pair-outcome x y ex ey) r s)

  pub pair-missing : (pair_of x y ≡ None) ↔ NoPair x y
  pair-missing = (λ e. subst (Outcome x y) e (pair-outcome x y ex ey), outcome-missing (pair_of x y) (pair-outcome x y ex ey))

  -- there is no cost pair, or some steps have both the least |r| and the least |s|, and all others their signs; not both
  pub theorem-3-2 : NoPair x y ⊎ ((r : ℤ) × (s : ℤ) × Leads x y r s)
  theorem-3-2 = go (pair_of x y) (pair-outcome x y ex ey)
    where
      go : (q : Option (ℤ × ℤ)) → Outcome x y q → NoPair x y ⊎ ((r : ℤ) × (s : ℤ) × Leads x y r s)
      go None o = inl o
      go (Some (r, s)) o = inr (r, s, record { minimal = o; signs-kept = λ r' s' h. same-signs r s r' s' o.pair h })

  pub theorem-3-2-one : (r s : ℤ) → NoPair x y → Leads x y r s → ⊥
  theorem-3-2-one r s n l = n r s l.minimal.pair
