-- The places beyond the count play no part.
--   Same s t     the instances agree at the items of the problem
-- same-sym: so they do the other way round. same-value, same-feasible: a point is worth as much in both, and feasible in both.
-- same-unbounded, same-shown: so are what is unbounded, and what an answer shows.
use mathlib.Core.Path.{◌≡◌, sym, ap, ◌∙◌, subst, subst₂}
use Prim.Native.Nat.{ℕ, suc, ◌<◌}
use native.Mathlib.Omega.{arith}
use lib.IntN.{ℤ}
use Rattle.arith.proofs.Fractions.{total-cong}
use Rattle.arith.specs.Fractions.{int, ◌·ᶠ◌, ◌≤ᶠ◌, ◌<ᶠ◌, total}
use Rattle.arith.specs.Sum.{Each}
use Rattle.arith.specs.declared.Fraction.{Fraction}
use Rattle.knapsack.specs.declared.Item.{Item}
use Rattle.knapsack.specs.Meaning.{Instance, Point, Keeps, value, Feasible, Unbounded, stepped, own_divisor, Shown}

pub record Same (s t : Instance) : Type 0 where
  pub capacity : s.capacity ≡ t.capacity
  pub count : s.count ≡ t.count
  pub items : Each s.count (λ k. s.item k ≡ t.item k)

pub same-sym : (s t : Instance) → Same s t → Same t s
same-sym s t e = record { capacity = sym e.capacity; count = sym e.count; items = λ k h. sym (e.items k (omega (arith, e.count))) }

module _ (s t : Instance) (e : Same s t) where
  in-s : (k : ℕ) → k < t.count → k < s.count
  in-s k h = omega (arith, e.count)

  same_total : (a : Item → ℤ) (x : Point) → total s.count (λ k. a (s.item k) ·ᶠ x k) ≡ total t.count (λ k. a (t.item k) ·ᶠ x k)
  same_total a x =
      total-cong s.count (λ k. a (s.item k) ·ᶠ x k) (λ k. a (t.item k) ·ᶠ x k) (λ k h. ap (λ i. a i ·ᶠ x k) (e.items k h))
      ∙ ap (λ n. total n (λ k. a (t.item k) ·ᶠ x k)) e.count

  pub same-value : (x : Point) → value s x ≡ value t x
  same-value x = same_total (λ i. i.price) x

  pub same-feasible : (x : Point) → Feasible s x → Feasible t x
  same-feasible x p = record {
    keeps = λ k h. subst (λ i. Keeps i (x k)) (e.items k (in-s k h)) (p.keeps k (in-s k h));
    fits = subst₂ (λ w b. w ≤ᶠ int b) (same_total (λ i. i.weight) x) e.capacity p.fits;
  }

  pub same-unbounded : (x : Point) (d : ℕ → ℤ) → Unbounded s x d → Unbounded t x d
  same-unbounded x d u = record {
    i = u.i;
    j = u.j;
    i-in = omega (arith, e.count, u.i-in);
    j-in = omega (arith, e.count, u.j-in);
    i-moves = u.i-moves;
    j-moves = u.j-moves;
    others = u.others;
    from = same-feasible x u.from;
    stays = λ n. same-feasible (stepped x d n) (u.stays n);
    rises = λ n. subst₂ ◌<ᶠ◌ (same-value (stepped x d n)) (same-value (stepped x d (suc n))) (u.rises n);
  }

  -- what is shown depends on the count, the marks and the weights alone
  pub same-shown : (x : ℕ → Fraction) → Shown s x → Shown t x
  same-shown x h = record {
    divisor = λ k l. h.divisor k (in-s k l) ∙ ap own_divisor (e.items k (in-s k l));
    small = λ k l. h.small k (in-s k l);
    single = λ j k l n. h.single j k (in-s j l) (in-s k n);
    beyond = λ k l. h.beyond k (omega (arith, e.count));
  }
