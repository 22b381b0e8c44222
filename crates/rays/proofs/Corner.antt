-- The light corner: every item at the closed end where it weighs least. None bounds are closed at the farthest amounts (knapsack, proofs/Reach).
--   LightCorner s lo hi e    e is a light corner of s, whose closed ends are lo and hi
-- ranges-of: what a problem in range says of its figures.
-- corner-small, corner-shut, corner-feasible: a corner that fits is feasible, in the box too, and near.
-- corner-infeasible: if it does not fit, every end that matters was a bound, and nothing is feasible.
-- corner-point, corner-shown, corner-unbounded: a point that shows a corner that fits, and the steps of a ray from it.
use mathlib.Core.Path.{◌≡◌, refl, sym, ap, ◌∙◌}
use mathlib.Core.Logic.{◌⊎◌, inl, inr}
use Prim.Native.Nat.{ℕ, zero, suc, ◌*◌, ◌≤◌, ◌<◌}
use native.Mathlib.Omega.{arith}
use native.Mathlib.Nat.{mul-le-mul, mul-le-mul_right}
use lib.IntN.{ℤ, pos, negsuc, neg_ℤ, nat_abs, ◌+ℤ◌, ◌*ℤ◌}
use lib.Signed.{◌≤ℤ◌, ◌<ℤ◌, ≤ℤ_refl, lt_z_yes}
use Rattle.arith.specs.Limits.{farthest}
use Rattle.arith.proofs.Integers.{split, split3, zed, ≤ℤ-trans, nat_abs-times, nat_abs_mul}
use Rattle.arith.proofs.Sums.{sum-scale, even-part-of-sum}
use Rattle.arith.specs.Sum.{Each}
use Rattle.arith.specs.declared.Fraction.{Fraction}
use Rattle.std.specs.Prelude.{Option, None, Some, List}
use Rattle.knapsack.specs.declared.Mark.{Mark}
use Rattle.knapsack.specs.declared.Mark.TheVariants.{Integer, Continuous}
use Rattle.knapsack.specs.declared.Problem.{Problem}
use Rattle.knapsack.specs.Ranges.{item_at, BoundInRange, InRange}
use Rattle.knapsack.specs.Meaning.{Instance, Point, instance_of, weights, Feasible, Infeasible, Unbounded, nought, own_divisor, Shown}
use Rattle.knapsack.proofs.Branch.{empty}
use Rattle.knapsack.proofs.Bridge.{Reads, bridge-feasible, bridge-infeasible}
use Rattle.knapsack.proofs.Common.{KeepsMarkᴰ, weighsᴰ, Feasibleᴰ}
use Rattle.knapsack.proofs.Dual.{AtBound}
use Rattle.knapsack.proofs.Reach.{Way, fore, aft, turn, turn-mul, Around, Ranges, closed, lowers, uppers, shut, out-of-shut}
use Rattle.rays.specs.Directions.{stop}
use Rattle.rays.specs.Rays.{steps_at, RayFound}

-- ---- a record in range

around : (b : Option ℤ) → BoundInRange b → Around b
around None h = tt
around (Some v) h = h

pub ranges-of : (p : Problem) → InRange p → Ranges (instance_of p)
ranges-of p r = record {
  few = r.few-items;
  light = λ k l. (r.items-in k l).weight-in;
  lowers = λ k l. around (item_at p k).lower (r.items-in k l).lower_in;
  uppers = λ k l. around (item_at p k).upper (r.items-in k l).upper_in;
  limited = r.capacity-in;
}

-- ---- closed ends

whole : (n : ℤ) → n ≡ n *ℤ pos 1
whole = split _ (λ a b. simp zed (omega arith))

-- what stands at a closed end
at-inj : {a b : ℤ} → Some a ≡ Some b → a ≡ b
at-inj {a} {b} h = cc

-- the closed end of a bound: the bound, or d where it is absent
end_of : (b : Option ℤ) (d z : ℤ) → closed b d ≡ Some z → (b ≡ Some z) ⊎ ((b ≡ None) × (d ≡ z))
end_of None d z h = inr (refl, at-inj h)
end_of (Some b) d z h = inl h

end-small : (b : Option ℤ) (d z : ℤ) → Around b → nat_abs d ≤ farthest → closed b d ≡ Some z → nat_abs z ≤ farthest
end-small None d z r n h = rw (at-inj h) at n
end-small (Some b) d z r n h = let k : nat_abs z ≤ 10000 = rw (at-inj h) at r in omega arith

-- the way that makes an item lighter, if it weighs something
lighter : (a : ℤ) → ((w : Way) × (turn w a <ℤ pos 0)) ⊎ (a ≡ pos 0)
lighter (pos zero) = inr refl
lighter (pos (suc n)) = inl (aft, lt_z_yes tt)
lighter (negsuc n) = inl (fore, lt_z_yes tt)

heavier : (a : ℤ) → turn aft a <ℤ pos 0 → pos 0 <ℤ a
heavier = split _ (λ a b. simp zed (omega arith))

-- an item that goes 300,000,000 out the way that makes it lighter
far-term : (a : ℤ) (w : Way) (z : ℤ) → turn w a <ℤ pos 0 → turn w (pos farthest) ≡ z → (a *ℤ z) ≤ℤ neg_ℤ (pos farthest)
far-term a w z h e = rw (← e, turn-mul w a (pos farthest)) (go (turn w a) h)
  where
    go : (x : ℤ) → x <ℤ pos 0 → (x *ℤ pos farthest) ≤ℤ neg_ℤ (pos farthest)
    go = split _ (λ a b. simp zed (omega arith))

-- ---- the corner

pub record LightCorner (s : Instance) (lo hi e : ℕ → ℤ) : Type 0 where
  pub lows : (k : ℕ) → k < s.count → lowers s k ≡ Some (lo k)
  pub highs : (k : ℕ) → k < s.count → uppers s k ≡ Some (hi k)
  pub ordered : (k : ℕ) → k < s.count → lo k ≤ℤ hi k
  pub heavy : (k : ℕ) → k < s.count → pos 0 <ℤ weights s k → e k ≡ lo k
  pub light : (k : ℕ) → k < s.count → weights s k <ℤ pos 0 → e k ≡ hi k
  pub flat : (k : ℕ) → k < s.count → weights s k ≡ pos 0 → (e k ≡ lo k) ⊎ (e k ≡ hi k)

module _ (s : Instance) (g : Ranges s) (lo hi e : ℕ → ℤ) (c : LightCorner s lo hi e) where
  -- the corner is at one of the ends
  at-end : (k : ℕ) → k < s.count → (e k ≡ lo k) ⊎ (e k ≡ hi k)
  at-end k l = go (lighter (weights s k))
    where
      go : ((w : Way) × (turn w (weights s k) <ℤ pos 0)) ⊎ (weights s k ≡ pos 0) → (e k ≡ lo k) ⊎ (e k ≡ hi k)
      go (inl (fore, h)) = inr (c.light k l h)
      go (inl (aft, h)) = inl (c.heavy k l (heavier (weights s k) h))
      go (inr h) = c.flat k l h

  -- |e k| is at most 300,000,000
  pub corner-small : (k : ℕ) → k < s.count → nat_abs (e k) ≤ farthest
  corner-small k l = go (at-end k l)
    where
      go : (e k ≡ lo k) ⊎ (e k ≡ hi k) → nat_abs (e k) ≤ farthest
      go (inl h) = rw h (end-small (s.item k).lower _ (lo k) (g.lowers k l) (omega arith) (c.lows k l))
      go (inr h) = rw h (end-small (s.item k).upper _ (hi k) (g.uppers k l) (omega arith) (c.highs k l))

  -- the corner that fits, in the box and so in s
  pub corner-shut : weighsᴰ s e ≤ℤ s.capacity → Feasibleᴰ (shut s) 1 e
  corner-shut h = record {
    keeps = λ k l. record {
      marked = mark (s.item k).mark (e k);
      above = rw (c.lows k l) (above k l (at-end k l));
      below = rw (c.highs k l) (below k l (at-end k l));
    };
    fits = rw (← whole s.capacity) h;
  }
    where
      mark : (m : Mark) (n : ℤ) → KeepsMarkᴰ 1 m n
      mark Integer n = (n, whole n)
      mark Continuous n = tt

      above : (k : ℕ) → k < s.count → (e k ≡ lo k) ⊎ (e k ≡ hi k) → (lo k *ℤ pos 1) ≤ℤ e k
      above k l (inl h) = rw (h, ← whole (lo k)) (≤ℤ_refl (lo k))
      above k l (inr h) = rw (h, ← whole (lo k)) (c.ordered k l)

      below : (k : ℕ) → k < s.count → (e k ≡ lo k) ⊎ (e k ≡ hi k) → e k ≤ℤ (hi k *ℤ pos 1)
      below k l (inl h) = rw (h, ← whole (hi k)) (c.ordered k l)
      below k l (inr h) = rw (h, ← whole (hi k)) (≤ℤ_refl (hi k))

  pub corner-feasible : weighsᴰ s e ≤ℤ s.capacity → Feasibleᴰ s 1 e
  corner-feasible h = out-of-shut s 1 e (corner-shut h)

  -- ---- a corner that does not fit

  -- the end in the way that makes the item lighter
  light-end : (k : ℕ) → k < s.count → (w : Way) → turn w (weights s k) <ℤ pos 0 → closed (stop w (s.item k)) (turn w (pos farthest)) ≡ Some (e k)
  light-end k l fore h = c.highs k l ∙ ap Some (sym (c.light k l h))
  light-end k l aft h = c.lows k l ∙ ap Some (sym (c.heavy k l (heavier (weights s k) h)))

  light-stop : (k : ℕ) → k < s.count → (w : Way) → Around (stop w (s.item k))
  light-stop k l fore = g.uppers k l
  light-stop k l aft = g.lowers k l

  -- no item weighs more than 10,000,000 there
  near-term : (k : ℕ) → k < s.count → (w : Way) → turn w (weights s k) <ℤ pos 0 → (weights s k *ℤ e k) ≤ℤ pos 10000000
  near-term k l w h = go (end_of (stop w (s.item k)) (turn w (pos farthest)) (e k) (light-end k l w h))
    where
      size : (y : ℤ) → nat_abs y ≤ 10000000 → y ≤ℤ pos 10000000
      size = split _ (λ a b. simp zed (omega arith))

      go : (stop w (s.item k) ≡ Some (e k)) ⊎ ((stop w (s.item k) ≡ None) × (turn w (pos farthest) ≡ e k)) → (weights s k *ℤ e k) ≤ℤ pos 10000000
      go (inl b) = let n : nat_abs (e k) ≤ 10000 =
          rw b at (light-stop k l w) in size (weights s k *ℤ e k) (omega (arith, nat_abs_mul (weights s k) (e k), mul-le-mul (g.light k l) n))
      go (inr (b, d)) = ≤ℤ-trans (far-term (weights s k) w (e k) h d) (simp zed (omega arith))

  no-heavy-term : Each s.count (λ k. (weights s k *ℤ e k) ≤ℤ pos 10000000)
  no-heavy-term k l = go (lighter (weights s k))
    where
      nothing : (z : ℤ) → (pos 0 *ℤ z) ≤ℤ pos 10000000
      nothing = split _ (λ a b. simp zed (omega arith))

      go : ((w : Way) × (turn w (weights s k) <ℤ pos 0)) ⊎ (weights s k ≡ pos 0) → (weights s k *ℤ e k) ≤ℤ pos 10000000
      go (inl (w, h)) = near-term k l w h
      go (inr h) = rw h (nothing (e k))

  -- with one item 300,000,000 out, everything weighs less than any capacity
  too-light : (k : ℕ) → k < s.count → (weights s k *ℤ e k) ≤ℤ neg_ℤ (pos farthest) → s.capacity <ℤ weighsᴰ s e → ⊥
  too-light k l far over =
      clash (weights s k *ℤ e k) (weighsᴰ s e) s.capacity (s.count * 10000000) (omega (arith, mul-le-mul_right 10000000 g.few)) far over g.limited
      (rw (sum-scale s.count (negsuc 0) (λ j. weights s j *ℤ e j)) at (even-part-of-sum s.count (λ j. negsuc 0 *ℤ (weights s j *ℤ e j)) 10000000
      (λ j m. flip (weights s j *ℤ e j) (no-heavy-term j m)) k l))
    where
      flip : (y : ℤ) → y ≤ℤ pos 10000000 → neg_ℤ (pos 10000000) ≤ℤ (negsuc 0 *ℤ y)
      flip = split _ (λ a b. simp zed (omega arith))

      clash : (y w b : ℤ) (m : ℕ) → m ≤ 160000000 → y ≤ℤ neg_ℤ (pos farthest) → b <ℤ w → nat_abs b ≤ 100000000 → (negsuc 0 *ℤ y) ≤ℤ (negsuc 0 *ℤ w +ℤ pos m) → ⊥
      clash = split3 _ (λ a b c e f g m. simp zed (omega arith))

  -- so the end of an item that weighs something is a bound of it
  present : s.capacity <ℤ weighsᴰ s e → (k : ℕ) → k < s.count → (w : Way) → turn w (weights s k) <ℤ pos 0 → AtBound 1 (stop w (s.item k)) (e k)
  present over k l w h = go (end_of (stop w (s.item k)) (turn w (pos farthest)) (e k) (light-end k l w h))
    where
      go : (stop w (s.item k) ≡ Some (e k)) ⊎ ((stop w (s.item k) ≡ None) × (turn w (pos farthest) ≡ e k)) → AtBound 1 (stop w (s.item k)) (e k)
      go (inl b) = rw b (whole (e k))
      go (inr (b, d)) = absurd (too-light k l (far-term (weights s k) w (e k) h d) over)

  pub corner-infeasible : s.capacity <ℤ weighsᴰ s e → Infeasible s
  corner-infeasible over = bridge-infeasible s (empty s 1 e (record {
    ends = λ k l. record { good = λ h. present over k l fore (flip (weights s k) h); bad = present over k l aft };
    over = rw (← whole s.capacity) over;
  }))
    where
      flip : (a : ℤ) → pos 0 <ℤ neg_ℤ a → a <ℤ pos 0
      flip = split _ (λ a b. simp zed (omega arith))

  -- ---- a point that shows the corner

  pub corner-point : (x : Point) → Reads s 1 x e → weighsᴰ s e ≤ℤ s.capacity → Feasible s x
  corner-point x h fits = (bridge-feasible s 1 x e (omega arith) h).1 (corner-feasible fits)

  -- over own divisors
  abbrev pub corner_amount : ℕ → Fraction
  corner_amount k = record { p = e k *ℤ pos (own_divisor (s.item k)); q = own_divisor (s.item k) }

  pub corner-shown : (x : ℕ → Fraction) → ((k : ℕ) → k < s.count → x k ≡ corner_amount k) → ((k : ℕ) → s.count ≤ k → x k ≡ nought) → Shown s x
  corner-shown x h b = record {
    divisor = λ k l. rw (h k l);
    small = λ k l. rw (h k l, nat_abs-times (e k) (own_divisor (s.item k))) (omega (arith, mul-le-mul_right (own_divisor (s.item k)) (corner-small k l)));
    single = λ j k l m n. absurd (n (rw (h j l) (e j, refl)));
    beyond = b;
  }

pub corner-unbounded : (p : Problem) (r : Option (List ℤ)) (l : List ℤ) (lo hi e : ℕ → ℤ) (x : Point) → InRange p → RayFound p r → r ≡ Some l
    → LightCorner (instance_of p) lo hi e → Reads (instance_of p) 1 x e
    → weighsᴰ (instance_of p) e ≤ℤ p.capacity → Unbounded (instance_of p) x (steps_at l)
corner-unbounded p r l lo hi e x range found y c reads fits = found.escapes l y x (corner-point (instance_of p) (ranges-of p range) lo hi e c x reads fits)
