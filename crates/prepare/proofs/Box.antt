-- The search's box is the problem with its absent bounds closed.
-- same-feasible, same-value: instances that agree at the items of the problem have the same feasible points and values.
-- box-is-shut: the box of a setting that is prepared at r and the problem shut at ±r are such; box-optimal, box-empty: so are their answers.
use mathlib.Core.Path.{◌≡◌, refl, ap, ◌∙◌, subst, subst₂}
use mathlib.Core.Logic.{◌↔◌}
use Prim.Native.Nat.{ℕ, ◌≤◌, ◌<◌}
use native.Mathlib.Omega.{arith}
use lib.IntN.{ℤ, pos, neg_ℤ, ◌*ℤ◌}
use lib.Signed.{◌≤ℤ◌}
use Rattle.arith.proofs.Sums.{sum-cong}
use Rattle.arith.specs.Sum.{sum}
use Rattle.greedy.proofs.Relaxed.{box_of}
use Rattle.knapsack.proofs.Common.{Keepsᴰ, valueᴰ, Feasibleᴰ, Optimalᴰ}
use Rattle.knapsack.proofs.Reach.{closed, shut_at}
use Rattle.knapsack.proofs.Same.{Same, same-sym}
use Rattle.knapsack.specs.Meaning.{Instance, instance_of}
use Rattle.knapsack.specs.Ranges.{item_at}
use Rattle.std.specs.Prelude.{Option, None, Some}
use Rattle.knapsack.specs.declared.Item.{Item}
use Rattle.knapsack.specs.declared.Problem.{Problem}
use Rattle.setting.specs.declared.Setting.{Setting}
use Rattle.prepare.specs.Figures.{end_or}
use Rattle.prepare.specs.Prepared.{PreparedAt}

same_sum : (a : Item → ℤ) (s t : Instance) → Same s t → (N : ℕ → ℤ) → sum s.count (λ k. a (s.item k) *ℤ N k) ≡ sum t.count (λ k. a (t.item k) *ℤ N k)
same_sum a s t e N = sum-cong s.count (λ k. a (s.item k) *ℤ N k) (λ k. a (t.item k) *ℤ N k) (λ k h. ap (λ i. a i *ℤ N k) (e.items k h))
    ∙ ap (λ n. sum n (λ k. a (t.item k) *ℤ N k)) e.count

pub same-value : (s t : Instance) → Same s t → (N : ℕ → ℤ) → valueᴰ s N ≡ valueᴰ t N
same-value = same_sum (λ i. i.price)

pub same-feasible : (s t : Instance) → Same s t → (D : ℕ) (N : ℕ → ℤ) → Feasibleᴰ s D N → Feasibleᴰ t D N
same-feasible s t e D N p = record {
  keeps = λ k h. let m : k < s.count = omega (arith, e.count) in subst (λ i. Keepsᴰ D i (N k)) (e.items k m) (p.keeps k m);
  fits = subst₂ (λ w b. w ≤ℤ (b *ℤ pos D)) (same_sum (λ i. i.weight) s t e N) e.capacity p.fits;
}

pub same-optimal : (s t : Instance) → Same s t → (E : ℕ) (M : ℕ → ℤ) → Optimalᴰ s E M → Optimalᴰ t E M
same-optimal s t e E M o = record {
  feasible = same-feasible s t e E M o.feasible;
  highest = λ D N d p. subst₂ (λ x y. (x *ℤ pos E) ≤ℤ (y *ℤ pos D)) (same-value s t e N) (same-value s t e M)
      (o.highest D N d (same-feasible t s (same-sym s t e) D N p));
}

-- ---- the box

closed_is : (b : Option ℤ) (d : ℤ) → Some (end_or b d) ≡ closed b d
closed_is None d = refl
closed_is (Some v) d = refl

module _ {r : ℕ → ℕ} (p : Problem) (s : Setting) (q : PreparedAt r p s) where
  abbrev pub box : Instance
  box = box_of s.cols s.ends (λ k. (item_at p k).mark)

  pub box-same : Same box (shut_at r (instance_of p))
  box-same = record { capacity = q.capacity; count = q.count; items = λ k h. item k (omega (arith, q.count)) }
    where
      item : (k : ℕ) → k < p.count → box.item k ≡ (shut_at r (instance_of p)).item k
      item k h = rw (
        q.weights k h,
        q.prices k h,
        q.lows k h,
        q.highs k h,
        closed_is (item_at p k).lower (neg_ℤ (pos (r k))),
        closed_is (item_at p k).upper (pos (r k)),
      )

  pub box-is-shut : (D : ℕ) (N : ℕ → ℤ) → (Feasibleᴰ box D N ↔ Feasibleᴰ (shut_at r (instance_of p)) D N) × (valueᴰ box N ≡ valueᴰ (shut_at r (instance_of p)) N)
  box-is-shut D N = (
    (
      same-feasible box (shut_at r (instance_of p)) box-same D N,
      same-feasible (shut_at r (instance_of p)) box (same-sym box (shut_at r (instance_of p)) box-same) D N,
    ),
    same-value box (shut_at r (instance_of p)) box-same N,
  )

  pub box-optimal : (E : ℕ) (M : ℕ → ℤ) → Optimalᴰ box E M → Optimalᴰ (shut_at r (instance_of p)) E M
  box-optimal = same-optimal box (shut_at r (instance_of p)) box-same

  pub box-empty : ((D : ℕ) (N : ℕ → ℤ) → 1 ≤ D → ¬ Feasibleᴰ box D N) → (D : ℕ) (N : ℕ → ℤ) → 1 ≤ D → ¬ Feasibleᴰ (shut_at r (instance_of p)) D N
  box-empty h D N d f = h D N d ((box-is-shut D N).0.1 f)
