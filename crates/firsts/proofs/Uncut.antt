-- The frame in which no item is cut: where another one can be needed, its points are points of the latest of these, so that it need not be looked at.
-- feasible-times: a point over a divisor. last-led: what leads the other frames leads the last one.
use mathlib.Core.Path.{◌≡◌, refl, sym, ap, ◌∙◌, subst}
use mathlib.Core.Bool.{Bool, true, false, cond}
use mathlib.Core.Logic.{◌≢◌, ◌⊎◌, inl, inr}
use Prim.Native.Nat.{ℕ, zero, suc, ◌≤◌, ◌<◌}
use native.Mathlib.Omega.{arith}
use native.Mathlib.Decide.{ℕ_discrete, dec_lt}
use borrow.Author.Tests.{lt-ltb, le-ltb}
use lib.IntN.{ℤ, pos, ◌*ℤ◌}
use lib.Signed.{◌≤ℤ◌, ◌<ℤ◌, lt_z, clash_ℤ}
use Rattle.arith.proofs.Integers.{split, zed, ≤ℤ-or-<, ≤ℤ-antisym, ≤ℤ-reflexive, times-≤}
use Rattle.arith.proofs.Sums.{sum-times}
use Rattle.knapsack.proofs.Common.{KeepsMarkᴰ, KeepsLowerᴰ, KeepsUpperᴰ, Keepsᴰ, valueᴰ, weighsᴰ, Feasibleᴰ}
use Rattle.knapsack.specs.Meaning.{Instance, weights, prices}
use Rattle.std.specs.Prelude.{Option, None, Some}
use Rattle.knapsack.specs.declared.Item.{Item}
use Rattle.knapsack.specs.declared.Mark.{Mark}
use Rattle.knapsack.specs.declared.Mark.TheVariants.{Integer, Continuous}
use Rattle.greedy.specs.declared.Columns.{Columns}
use Rattle.greedy.specs.declared.Ends.{Ends}
use Rattle.greedy.specs.Fill.{at, weight_of, price_of, item_of, rank_of, lightest, heaviest, stand}
use Rattle.greedy.proofs.Relaxed.{box_of, InOrder}
use Rattle.foremost.specs.Tied.{Tied}
use Rattle.foremost.proofs.Covering.{marks-differ}
use Rattle.foremost.proofs.Frames.{scale_at, Uncut, Frame, last, cuts, FramePoint, LeadsFrame, by-mark, scale-some}
use Rattle.foremost.proofs.Leads.{Leads, leads-trans}

times-one : (x : ℤ) → x *ℤ pos 1 ≡ x
times-one = split _ (λ a b. simp zed (omega arith))

-- ---- a point over a divisor

keeps-times : (E : ℕ) (i : Item) (n : ℤ) → Keepsᴰ 1 i n → Keepsᴰ E i (n *ℤ pos E)
keeps-times E i n h = record { marked = mark i.mark h.marked; above = low i.lower h.above; below = high i.upper h.below }
  where
    mark : (m : Mark) → KeepsMarkᴰ 1 m n → KeepsMarkᴰ E m (n *ℤ pos E)
    mark Integer (z, q) = (z, ap (λ (x : ℤ). x *ℤ pos E) (q ∙ times-one z))
    mark Continuous u = u

    low : (b : Option ℤ) → KeepsLowerᴰ 1 b n → KeepsLowerᴰ E b (n *ℤ pos E)
    low None u = u
    low (Some l) u = times-≤ E l n (subst (λ x. x ≤ℤ n) (times-one l) u)

    high : (b : Option ℤ) → KeepsUpperᴰ 1 b n → KeepsUpperᴰ E b (n *ℤ pos E)
    high None u = u
    high (Some l) u = times-≤ E n l (subst (λ x. n ≤ℤ x) (times-one l) u)

pub feasible-times : (s : Instance) (E : ℕ) (N : ℕ → ℤ) → Feasibleᴰ s 1 N → Feasibleᴰ s E (λ k. N k *ℤ pos E)
feasible-times s E N p = record {
  keeps = λ k l. keeps-times E (s.item k) (N k) (p.keeps k l);
  fits = subst (λ x. x ≤ℤ (s.capacity *ℤ pos E)) (sym (sum-times s.count (weights s) N E))
      (times-≤ E _ _ (subst (λ x. weighsᴰ s N ≤ℤ x) (times-one s.capacity) p.fits));
}

-- ---- the latest frame that can be needed

-- an item between two equal ends
fixed-ends : (a c l u : ℤ) → l ≡ u → heaviest a l u ≡ lightest a c l u
fixed-ends a c l u e = rw e (go (lt_z a (pos 0)) (lt_z (pos 0) a) (lt_z (pos 0) c))
  where
    go : (x y z : Bool) → cond x u u ≡ cond y u (cond x u (cond z u u))
    go true true z = refl
    go true false z = refl
    go false true z = refl
    go false false true = refl
    go false false false = refl

module _ (c : Columns) (e : Ends) (marks : ℕ → Mark) (o : Tied c) (b : InOrder c e) where
  one : scale_at c c.live ≡ 1
  one = rw (le-ltb c.live c.live (omega arith))

  in_count : (t : ℕ) → t < c.live → item_of c t < c.count
  in_count t l = o.item_in t (omega (arith, o.live_in))

  -- whether frame t can be needed
  needed : (t : ℕ) → t < c.live → Dec (Frame c e marks t)
  needed t l = go (by-mark (marks (item_of c t))) (≤ℤ-or-< (at e.hi (item_of c t)) (at e.lo (item_of c t)))
    where
      k : ℕ
      k = item_of c t

      off : Frame c e marks t → (marks (item_of c t) ≡ Continuous) × (at e.lo (item_of c t) ≢ at e.hi (item_of c t))
      off (last q) = absurd (omega arith)
      off (cuts i m n) = (m, n)

      go : (marks (item_of c t) ≡ Integer) ⊎ (marks (item_of c t) ≡ Continuous) →
          (at e.hi (item_of c t) ≤ℤ at e.lo (item_of c t)) ⊎ (at e.lo (item_of c t) <ℤ at e.hi (item_of c t)) → Dec (Frame c e marks t)
      go (inl m) d = no (λ f. marks-differ m (off f).0)
      go (inr m) (inl h) = no (λ f. (off f).1 (≤ℤ-antisym (b (item_of c t) (in_count t l)) h))
      go (inr m) (inr h) = yes (cuts l m (λ q. clash_ℤ h (≤ℤ-reflexive (sym q))))

  module _ (u : ℕ) (u-in : u < c.live) (none : (t : ℕ) → u < t → t < c.live → Frame c e marks t → ⊥) where
    -- an item that frame u does not cut stands as in the last frame
    same-stand : (k : ℕ) → k < c.count → marks k ≡ Continuous → Uncut c u k → stand c e c.live k ≡ stand c e u k
    same-stand k l m n = go (dec_lt (rank_of c k) u) (dec_lt (rank_of c k) c.live)
      where
        item : item_of c (rank_of c k) ≡ k
        item = o.item-rank k l

        equal : u < rank_of c k → rank_of c k < c.live → at e.lo k ≡ at e.hi k
        equal i j = ends (≤ℤ-or-< (at e.hi k) (at e.lo k))
          where
            ends : (at e.hi k ≤ℤ at e.lo k) ⊎ (at e.lo k <ℤ at e.hi k) → at e.lo k ≡ at e.hi k
            ends (inl h) = ≤ℤ-antisym (b k l) h
            ends (inr h) = absurd (none (rank_of c k) i j (cuts j (ap marks item ∙ m)
                (subst (λ x. at e.lo x ≢ at e.hi x) (sym item) (λ q. clash_ℤ h (≤ℤ-reflexive (sym q))))))

        go : Dec (rank_of c k < u) → Dec (rank_of c k < c.live) → stand c e c.live k ≡ stand c e u k
        go (yes i) d = rw (lt-ltb (rank_of c k) u i, lt-ltb (rank_of c k) c.live (omega arith))
        go (no i) (no j) = rw (le-ltb (rank_of c k) u (omega arith), le-ltb (rank_of c k) c.live (omega arith))
        go (no i) (yes j) = rw (le-ltb (rank_of c k) u (omega arith), lt-ltb (rank_of c k) c.live j)
            (fixed-ends (weight_of c k) (price_of c k) (at e.lo k) (at e.hi k) (equal (omega (arith, n u-in)) j))

    module _ (X : ℕ → ℤ) (x : FramePoint c e marks c.live X) where
      abbrev E : ℕ
      E = scale_at c u

      abbrev Y : ℕ → ℤ
      Y k = X k *ℤ pos E

      at_one : Feasibleᴰ (box_of c e marks) 1 X
      at_one = subst (λ q. Feasibleᴰ (box_of c e marks) q X) one x.feasible

      point : FramePoint c e marks u Y
      point = record {
        feasible = feasible-times (box_of c e marks) E X at_one;
        stands = λ k l m n. ap (λ (a : ℤ). a *ℤ pos E) (x.stands k l m (λ i. absurd (omega arith))
            ∙ ap (λ q. stand c e c.live k *ℤ pos q) one ∙ times-one (stand c e c.live k) ∙ same-stand k l m n);
      }

      as-good : Leads (valueᴰ (box_of c e marks)) c.count E Y (scale_at c c.live) X
      as-good = subst (λ q. Leads (valueᴰ (box_of c e marks)) c.count E Y q X) (sym one) (record {
        worth = ≤ℤ-reflexive (sym (times-one (valueᴰ (box_of c e marks) Y) ∙ sum-times c.count (prices (box_of c e marks)) X E));
        sooner = λ h. inl (λ k l. times-one (Y k));
      })

    led-by : (F : ℕ) (Z : ℕ → ℤ) → 1 ≤ F → LeadsFrame c e marks F Z u → LeadsFrame c e marks F Z c.live
    led-by F Z f h X x = leads-trans (valueᴰ (box_of c e marks)) c.count (λ k. X k *ℤ pos (scale_at c u)) X Z
        (scale-some c e marks o c.live) (scale-some c e marks o u) f (h (λ k. X k *ℤ pos (scale_at c u)) (point X x)) (as-good X x)

  pub last-led : (F : ℕ) (Z : ℕ → ℤ) → 1 ≤ F → ((t : ℕ) → t < c.live → Frame c e marks t → LeadsFrame c e marks F Z t) → (n : ℕ) → n ≤ c.live →
      ((t : ℕ) → n ≤ t → t < c.live → Frame c e marks t → ⊥) → (u : ℕ) → u < n → Frame c e marks u → LeadsFrame c e marks F Z c.live
  last-led F Z f h zero i none u l fr = absurd (omega arith)
  last-led F Z f h (suc n) i none u l fr = go (needed n (omega arith)) (λ q. last-led F Z f h n (omega arith) (more q) u (below q) fr)
    where
      below : (Frame c e marks n → ⊥) → u < n
      below q = less (ℕ_discrete u n)
        where
          less : Dec (u ≡ n) → u < n
          less (yes k) = absurd (q (subst (λ t. Frame c e marks t) k fr))
          less (no k) = omega arith

      more : (Frame c e marks n → ⊥) → (t : ℕ) → n ≤ t → t < c.live → Frame c e marks t → ⊥
      more q t j k v = least (ℕ_discrete t n)
        where
          least : Dec (t ≡ n) → ⊥
          least (yes d) = q (subst (λ a. Frame c e marks a) d v)
          least (no d) = none t (omega arith) k v

      go : Dec (Frame c e marks n) → ((Frame c e marks n → ⊥) → LeadsFrame c e marks F Z c.live) → LeadsFrame c e marks F Z c.live
      go (yes q) k = led-by n (omega arith) (λ t j k. none t (omega arith) k) F Z f (h n (omega arith) q)
      go (no q) k = k q
