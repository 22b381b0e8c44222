-- The order of points, each amount with its own divisor, and the first best point, by those over a common divisor.
-- bridge-earlier, earlier-bridge, bridge-agree, agree-bridge: the two orders are the same.
-- bridge-foremost: so the first best point over a common divisor is Optimal and Foremost.
-- neither-same: points neither of which comes before the other are the same.
use mathlib.Core.Path.{◌≡◌, sym, subst}
use mathlib.Core.Logic.{◌⊎◌, inl, inr}
use Prim.Native.Nat.{ℕ, ◌*◌, ◌≤◌, ◌<◌}
use native.Mathlib.Omega.{arith}
use native.Mathlib.Nat.{mul-le-mul, mul_comm}
use lib.IntN.{ℤ, pos, ◌*ℤ◌}
use lib.Signed.{◌≤ℤ◌, ◌<ℤ◌, clash_ℤ}
use Rattle.arith.proofs.Fractions.{Over, over-≤, over-<, over-≈, over-total, over-scale, Common, common}
use Rattle.arith.proofs.Integers.{≤ℤ-or-<, ≤ℤ-antisym, ≤ℤ-reflexive}
use Rattle.arith.specs.Fractions.{Frac, ◌≤ᶠ◌, ◌<ᶠ◌, ◌≈ᶠ◌}
use Rattle.knapsack.proofs.Bridge.{Reads, bridge-feasible, bridge-optimal}
use Rattle.knapsack.proofs.Common.{valueᴰ}
use Rattle.knapsack.specs.Meaning.{Instance, Point, value, Optimal, prices, Earlier, Foremost}
use Rattle.foremost.proofs.Earlier.{Earlierᴰ, Agree, Trichotomy, before, agree, after, trichotomy, not-after-not}
use Rattle.foremost.proofs.Foremost.{Foremostᴰ}

-- ---- over one divisor

pub over-<-back : {D : ℕ} {x y : Frac} {m n : ℤ} → 1 ≤ D → Over D x m → Over D y n → x <ᶠ y → m <ℤ n
unfolding ◌<ᶠ◌ ◌≤ᶠ◌
over-<-back {D} {x} {y} {m} {n} d h k l = go (≤ℤ-or-< n m)
  where
    go : (n ≤ℤ m) ⊎ (m <ℤ n) → m <ℤ n
    go (inl r) = clash_ℤ l ((over-≤ d k h).1 r)
    go (inr r) = r

over-≈-back : {D : ℕ} {x y : Frac} {m n : ℤ} → 1 ≤ D → Over D x m → Over D y n → x ≈ᶠ y → m ≡ n
unfolding ◌≈ᶠ◌ ◌≤ᶠ◌
over-≈-back {D} {x} {y} {m} {n} d h k e = ≤ℤ-antisym ((over-≤ d h k).0 (≤ℤ-reflexive e)) ((over-≤ d k h).0 (≤ℤ-reflexive (sym e)))

module _ (n D E : ℕ) (x y : Point) (N M : ℕ → ℤ) (d : 1 ≤ D) (e : 1 ≤ E) (h : (k : ℕ) → k < n → Over D (x k) (N k)) (i : (k : ℕ) → k < n → Over E (y k) (M k))
  where
    left : (k : ℕ) → k < n → Over (D * E) (x k) (N k *ℤ pos E)
    left k l = over-scale E (h k l)

    right : (k : ℕ) → k < n → Over (D * E) (y k) (M k *ℤ pos D)
    right k l = subst (λ F. Over F (y k) (M k *ℤ pos D)) (mul_comm E D) (over-scale D (i k l))

    both : 1 ≤ D * E
    both = mul-le-mul d e

    pub bridge-earlier : Earlier n x y → Earlierᴰ n (λ k. N k *ℤ pos E) (λ k. M k *ℤ pos D)
    bridge-earlier b = record {
      place = b.place;
      below = b.below;
      same = λ j l. let m : j < n = omega (arith, b.below) in over-≈-back both (left j m) (right j m) (b.same j l);
      less = over-<-back both (left b.place b.below) (right b.place b.below) b.less;
    }

    pub earlier-bridge : Earlierᴰ n (λ k. N k *ℤ pos E) (λ k. M k *ℤ pos D) → Earlier n x y
    earlier-bridge b = record {
      place = b.place;
      below = b.below;
      same = λ j l. let m : j < n = omega (arith, b.below) in over-≈ (left j m) (right j m) both (b.same j l);
      less = over-< both (left b.place b.below) (right b.place b.below) b.less;
    }

    pub bridge-agree : ((k : ℕ) → k < n → x k ≈ᶠ y k) → Agree n (λ k. N k *ℤ pos E) (λ k. M k *ℤ pos D)
    bridge-agree a k l = over-≈-back both (left k l) (right k l) (a k l)

    pub agree-bridge : Agree n (λ k. N k *ℤ pos E) (λ k. M k *ℤ pos D) → (k : ℕ) → k < n → x k ≈ᶠ y k
    agree-bridge a k l = over-≈ (left k l) (right k l) both (a k l)

-- ---- the first best point

pub bridge-foremost : (s : Instance) (E : ℕ) (x : Point) (M : ℕ → ℤ) → 1 ≤ E → Reads s E x M → Foremostᴰ s E M → Optimal s x × Foremost s x
bridge-foremost s E x M e h b = (bridge-optimal s E x M e h b.optimal, λ y o r. go y o r (common s.count y))
  where
    go : (y : Point) → Optimal s y → Earlier s.count y x → Common s.count y → ⊥
    go y o r c = not-after-not s.count (λ k. M k *ℤ pos c.D) (λ k. c.N k *ℤ pos E)
        (b.first c.D c.N c.D≥1 ((bridge-feasible s c.D y c.N c.D≥1 c.reads).0 o.feasible)
        ((over-≤ (mul-le-mul e c.D≥1) (over-scale c.D (over-total E s.count x M h (prices s)))
        (subst (λ F. Over F (value s y) (valueᴰ s c.N *ℤ pos E)) (mul_comm c.D E)
        (over-scale E (over-total c.D s.count y c.N c.reads (prices s))))
        ).0 (o.highest x ((bridge-feasible s E x M e h).1 b.optimal.feasible))))
        (bridge-earlier s.count c.D E y x c.N M c.D≥1 e c.reads h r)

-- points neither of which comes before the other are the same
pub neither-same : (n : ℕ) (x y : Point) → ¬ Earlier n x y → ¬ Earlier n y x → (k : ℕ) → k < n → x k ≈ᶠ y k
neither-same n x y f g = go (common n x) (common n y)
  where
    go : Common n x → Common n y → (k : ℕ) → k < n → x k ≈ᶠ y k
    go a b = pick (trichotomy n (λ k. a.N k *ℤ pos b.D) (λ k. b.N k *ℤ pos a.D))
      where
        pick : Trichotomy n (λ k. a.N k *ℤ pos b.D) (λ k. b.N k *ℤ pos a.D) → (k : ℕ) → k < n → x k ≈ᶠ y k
        pick (before e) = absurd (f (earlier-bridge n a.D b.D x y a.N b.N a.D≥1 b.D≥1 a.reads b.reads e))
        pick (agree e) = agree-bridge n a.D b.D x y a.N b.N a.D≥1 b.D≥1 a.reads b.reads e
        pick (after e) = absurd (g (earlier-bridge n b.D a.D y x b.N a.N b.D≥1 a.D≥1 b.reads a.reads e))
