-- The filling of a box, in the order of Tied, is the first of its relaxed optima.
--   parts c e          the divisor of the filling's point;  filling c e: the point, solution c e (fill c e)
-- fill-first: no feasible point is worth more, and none that is worth as much comes before it, whatever the marks.  fill_stops: where it stops.
-- fill-foremost: where every integer item is fixed, it is feasible: the first best point of the box.
-- The filling does not look at prices, so that it is also that at ghost prices (ghost-fill), where it is an optimum (greedy, fill-bound).
use mathlib.Core.Path.{◌≡◌, refl, sym, ap, ap₂, ◌∙◌, subst, subst₂}
use mathlib.Core.Bool.{Bool, true, false, cond}
use mathlib.Core.Logic.{◌⊎◌, inl, inr}
use Prim.Native.Nat.{ℕ, zero, suc, ◌+◌, ◌*◌, ◌≤◌, ◌<◌}
use native.Mathlib.Omega.{arith}
use native.Mathlib.Nat.{mul-le-mul_left, mul-le-mul_right}
use lib.Dec.{ltb, eqb}
use lib.IntN.{ℤ, pos, nat_abs, ◌+ℤ◌, ◌-ℤ◌, ◌*ℤ◌}
use lib.Signed.{◌≤ℤ◌, ◌<ℤ◌, lt_z}
use Rattle.arith.proofs.Integers.{split, zed, ≤ℤ-or-<}
use Rattle.arith.proofs.Mixes.{over}
use Rattle.arith.proofs.Sums.{sum-cong, sum-times}
use Rattle.arith.proofs.Words.{lt_yes, le-no}
use Rattle.arith.specs.Sum.{sum, Each}
use Rattle.arith.specs.declared.Mixed.{Mixed}
use Rattle.greedy.specs.declared.Columns.{Columns}
use Rattle.greedy.specs.declared.Ends.{Ends}
use Rattle.greedy.specs.declared.Fill.{Fill}
use Rattle.greedy.specs.Fill.{at, weight_of, price_of, rank_of, light_of, heavy_of, width, unit, begun, raised, fill_from, fill, bound, stand, taken, solution}
use Rattle.greedy.specs.Ordered.{Ordered}
use Rattle.greedy.proofs.Relaxed.{box_of, InOrder, Stopped, fill-stopped, fill-bound, fill-value, fill-point, parts≥1}
use Rattle.knapsack.proofs.Common.{valueᴰ, Feasibleᴰ}
use Rattle.knapsack.specs.Meaning.{Instance}
use Rattle.knapsack.specs.declared.Mark.{Mark}
use Rattle.knapsack.specs.declared.Mark.TheVariants.{Integer}
use Rattle.foremost.proofs.Earlier.{Agree}
use Rattle.foremost.proofs.Foremost.{Foremostᴰ, feasible-cong, total-cong}
use Rattle.foremost.proofs.Leads.{LeadsAll, leads-foremost}
use Rattle.foremost.proofs.Ghost.{power, place, power-some, ghost, Near, near-diff, ghost-first, most, most-is}
use Rattle.foremost.specs.Tied.{Tied}
use Rattle.foremost.proofs.Ties.{Large, ghosted, ghost-price, ghost-ordered, place-top}

-- ---- the filling at ghost prices

-- the signs of prices stay
ghost-sign : (M n k : ℕ) (c : ℕ → ℤ) → 2 ≤ M → k < n → lt_z (pos 0) (ghost M n c k) ≡ lt_z (pos 0) (c k)
ghost-sign M n k c h l = go (≤ℤ-or-< (c k) (pos 0))
  where
    low : (P q : ℕ) (c : ℤ) → c ≤ℤ pos 0 → (pos P *ℤ c -ℤ pos q) ≤ℤ pos 0
    low P q = split _ (λ a b. simp zed (λ x. omega (arith, mul-le-mul_left P x)))

    high : (P q : ℕ) (c : ℤ) → M * q ≤ P → 1 ≤ P → pos 0 <ℤ c → pos 0 <ℤ (pos P *ℤ c -ℤ pos q)
    high P q = split _ (λ a b. simp zed (λ x y z. omega (arith, mul-le-mul_left P z, mul-le-mul_right q h)))

    go : (c k ≤ℤ pos 0) ⊎ (pos 0 <ℤ c k) → lt_z (pos 0) (ghost M n c k) ≡ lt_z (pos 0) (c k)
    go (inl x) = le-no (low (power M n) (place M n k) (c k) x) ∙ sym (le-no x)
    go (inr x) = lt_yes (high (power M n) (place M n k) (c k) (place-top M n k (omega arith) l) (power-some M n (omega arith)) x) ∙ sym (lt_yes x)

pub record SameFill (f g : Fill) : Type 0 where
  pub rank : f.at ≡ g.at
  pub room : f.room ≡ g.room

module _ (M : ℕ) (c : Columns) (e : Ends) (h : 2 ≤ M) where
  pub ghost-light : (k : ℕ) → k < c.count → light_of (ghosted M c) e k ≡ light_of c e k
  ghost-light k l = ap
      (λ b. cond (lt_z (pos 0) (weight_of c k)) (at e.lo k) (cond (lt_z (weight_of c k) (pos 0)) (at e.hi k) (cond b (at e.hi k) (at e.lo k))))
      (ap (lt_z (pos 0)) (ghost-price M c k l) ∙ ghost-sign M c.count k (price_of c) h l)

  ghost-begun : SameFill (begun (ghosted M c) e) (begun c e)
  ghost-begun = record {
    rank = refl;
    room = ap (λ z. c.capacity -ℤ z) (total-cong c.count (weight_of c) (light_of (ghosted M c) e) (light_of c e) ghost-light);
  }

  cond_same : (a b : Bool) {f g i j : Fill} → a ≡ b → SameFill f g → SameFill i j → SameFill (cond a f i) (cond b g j)
  cond_same true true q x y = x
  cond_same false false q x y = y
  cond_same true false q x y = absurd (let z : ◌≡◌ {A = ℕ} 0 1 = cc in omega arith)
  cond_same false true q x y = absurd (let z : ◌≡◌ {A = ℕ} 0 1 = cc in omega arith)

  ghost-from : (n : ℕ) (f g : Fill) → SameFill f g → SameFill (fill_from (ghosted M c) e n f) (fill_from c e n g)
  unfolding fill_from
  ghost-from zero f g s = s
  ghost-from (suc n) f g s = cond_same _ _ (ap₂ (λ r t. lt_z r (at c.size t *ℤ width c e t)) s.room s.rank) s
      (ghost-from n (raised (ghosted M c) e f) (raised c e g)
      (record { rank = ap (λ (t : ℕ). t + 1) s.rank; room = ap₂ (λ r t. r -ℤ at c.size t *ℤ width c e t) s.room s.rank }))

  pub ghost-fill : SameFill (fill (ghosted M c) e) (fill c e)
  unfolding fill
  ghost-fill = cond_same _ _ (ap (λ r. lt_z r (pos 0)) ghost-begun.room) ghost-begun (ghost-from c.live (begun (ghosted M c) e) (begun c e) ghost-begun)

-- ---- and its point

pub parts-by : (c : Columns) (f : Fill) → (bound c f).parts ≡ cond (ltb f.at c.live) (nat_abs (at c.size f.at)) 1
unfolding bound
parts-by c f = go (ltb f.at c.live) _ _
  where
    go : (b : Bool) (x y : Mixed) → (cond b x y).parts ≡ cond b x.parts y.parts
    go true x y = refl
    go false x y = refl

module _ (M : ℕ) (c : Columns) (e : Ends) (h : 2 ≤ M) (f g : Fill) (s : SameFill f g) where
  same_parts : (bound (ghosted M c) f).parts ≡ (bound c g).parts
  same_parts = parts-by (ghosted M c) f ∙ ap (λ t. cond (ltb t c.live) (nat_abs (at c.size t)) 1) s.rank ∙ sym (parts-by c g)

  pub same-stand : (k : ℕ) → k < c.count → stand (ghosted M c) e f.at k ≡ stand c e g.at k
  same-stand k l = ap₂ (λ t x. cond (ltb (rank_of c k) t) (heavy_of c e k) x) s.rank (ghost-light M c e h k l)

  same_taken : (k : ℕ) → taken (ghosted M c) f k ≡ taken c g k
  same_taken k = ap₂ (λ t r. cond (ltb t c.live) (cond (eqb (rank_of c k) t) (unit (weight_of c k) *ℤ r) (pos 0)) (pos 0)) s.rank s.room

  same-solution : (k : ℕ) → k < c.count → solution (ghosted M c) e f k ≡ solution c e g k
  same-solution k l = ap₂ ◌+ℤ◌ (ap₂ (λ x p. x *ℤ pos p) (same-stand k l) same_parts) (same_taken k)

-- ---- the theorem

abbrev pub parts : Columns → Ends → ℕ
parts c e = (bound c (fill c e)).parts

abbrev pub filling : Columns → Ends → ℕ → ℤ
filling c e k = solution c e (fill c e) k

-- every integer item is fixed
abbrev pub Settled : Columns → Ends → (ℕ → Mark) → Type 0
Settled c e marks = (k : ℕ) → k < c.count → marks k ≡ Integer → at e.lo k ≡ at e.hi k

module _ (c : Columns) (e : Ends) (marks : ℕ → Mark) (o : Tied c) (b : InOrder c e) (some : pos 0 ≤ℤ (fill c e).room) where
  abbrev n : ℕ
  n = c.count

  abbrev pub box : Instance
  box = box_of c e marks

  -- what holds at large ghost prices
  module _ (M : ℕ) (big : Large M c) where
    abbrev t : Columns
    t = ghosted M c

    abbrev g : ℕ → ℤ
    g = ghost M n (price_of c)

    o' : Ordered t
    o' = ghost-ordered M c o big

    same : SameFill (fill t e) (fill c e)
    same = ghost-fill M c e big.two

    stopped : Stopped t e marks o' b (fill t e)
    stopped = fill-stopped t e marks o' b (subst (λ r. pos 0 ≤ℤ r) (sym same.room) some)

    agree : Agree c.count (solution t e (fill t e)) (filling c e)
    agree = same-solution M c e big.two (fill t e) (fill c e) same

    divisor : (bound t (fill t e)).parts ≡ parts c e
    divisor = same_parts M c e big.two (fill t e) (fill c e) same

    -- values at ghost prices
    valued : (X : ℕ → ℤ) → sum n (λ k. g k *ℤ X k) ≡ valueᴰ (box_of t e marks) X
    valued X = sum-cong n (λ k. g k *ℤ X k) (λ k. price_of t k *ℤ X k) (λ k l. ap (λ z. z *ℤ X k) (sym (ghost-price M c k l)))

    into-ghost : (D : ℕ) (N : ℕ → ℤ) → Feasibleᴰ box D N → Feasibleᴰ (box_of t e marks) D N
    into-ghost D N p = record {
      keeps = λ k l. record { marked = (p.keeps k l).marked; above = (p.keeps k l).above; below = (p.keeps k l).below };
      fits = p.fits;
    }

    out-of-ghost : (D : ℕ) (N : ℕ → ℤ) → Feasibleᴰ (box_of t e marks) D N → Feasibleᴰ box D N
    out-of-ghost D N p = record {
      keeps = λ k l. record { marked = (p.keeps k l).marked; above = (p.keeps k l).above; below = (p.keeps k l).below };
      fits = p.fits;
    }

    first-valued : sum n (λ k. g k *ℤ filling c e k) ≡ over (bound t (fill t e))
    first-valued = total-cong n g (filling c e) (solution t e (fill t e)) (λ k l. sym (agree k l)) ∙ valued (solution t e (fill t e))
        ∙ fill-value t e marks o' b (fill t e) stopped

    at-ghost : (D : ℕ) (N : ℕ → ℤ) → 1 ≤ D → Feasibleᴰ box D N → sum n (λ k. g k *ℤ (N k *ℤ pos (parts c e))) ≤ℤ sum n (λ k. g k *ℤ (filling c e k *ℤ pos D))
    at-ghost D N d p = subst₂ ◌≤ℤ◌ (ap₂ (λ x q. x *ℤ pos q) (sym (valued N)) divisor ∙ sym (sum-times n g N (parts c e)))
        (ap (λ x. x *ℤ pos D) (sym first-valued) ∙ sym (sum-times n g (filling c e) D))
        (fill-bound t e marks o' b (fill t e) stopped D N d (into-ghost D N p))

    ghost-point : Settled c e marks → Feasibleᴰ box (parts c e) (filling c e)
    ghost-point fixed = feasible-cong box (parts c e) (solution t e (fill t e)) (filling c e) agree
        (subst (λ q. Feasibleᴰ box q (solution t e (fill t e))) divisor
        (out-of-ghost _ (solution t e (fill t e)) (fill-point t e marks o' b fixed (fill t e) stopped)))

    ghost-parts : 1 ≤ parts c e
    ghost-parts = subst (λ q. 1 ≤ q) divisor (parts≥1 t e marks o' b (fill t e) stopped)

    ghost-stops : ((fill c e).at ≡ c.live) ⊎ (((fill c e).at < c.live) × ((fill c e).room <ℤ (at c.size (fill c e).at *ℤ width c e (fill c e).at)))
    ghost-stops = subst₂ (λ u r. (u ≡ c.live) ⊎ ((u < c.live) × (r <ℤ (at c.size u *ℤ width c e u)))) same.rank same.room stopped.why

  -- large enough for two points
  abbrev enough : (x y : ℕ → ℤ) → ℕ
  enough x y = suc (suc (most n (λ k. 2 * nat_abs (weight_of c k) + (nat_abs (x k) + nat_abs (y k)))))

  is-large : (x y : ℕ → ℤ) → Large (enough x y) c
  is-large x y = record { two = omega arith; weights = λ k l. omega (arith, most-is n (λ k. 2 * nat_abs (weight_of c k) + (nat_abs (x k) + nat_abs (y k))) k l) }

  is-near : (x y : ℕ → ℤ) → Each n (λ k. Near (enough x y) (x k -ℤ y k))
  is-near x y k l = near-diff (enough x y) (x k) (y k) (omega (arith, most-is n (λ k. 2 * nat_abs (weight_of c k) + (nat_abs (x k) + nat_abs (y k))) k l))

  pub fill-first : LeadsAll box (parts c e) (filling c e)
  fill-first D N d p = let r = ghost-first (enough x y) n (price_of c) y x (is-near x y) (at-ghost (enough x y) (is-large x y) D N d p) in record {
    worth = subst₂ ◌≤ℤ◌ (sum-times n (price_of c) N (parts c e)) (sum-times n (price_of c) (filling c e) D) r.0;
    sooner = λ m. r.1 (subst₂ ◌≤ℤ◌ (sym (sum-times n (price_of c) (filling c e) D)) (sym (sum-times n (price_of c) N (parts c e))) m);
  }
    where
      x : ℕ → ℤ
      x k = filling c e k *ℤ pos D

      y : ℕ → ℤ
      y k = N k *ℤ pos (parts c e)

  pub parts-some : 1 ≤ parts c e
  parts-some = ghost-parts (enough (filling c e) (filling c e)) (is-large (filling c e) (filling c e))

  -- where it stops: behind the live ranks, or at one that does not fit
  pub fill_stops : ((fill c e).at ≡ c.live) ⊎ (((fill c e).at < c.live) × ((fill c e).room <ℤ (at c.size (fill c e).at *ℤ width c e (fill c e).at)))
  fill_stops = ghost-stops (enough (filling c e) (filling c e)) (is-large (filling c e) (filling c e))

  pub fill-foremost : Settled c e marks → Foremostᴰ box (parts c e) (filling c e)
  fill-foremost fixed = leads-foremost box (parts c e) (filling c e)
      (ghost-point (enough (filling c e) (filling c e)) (is-large (filling c e) (filling c e)) fixed)
      fill-first
