-- The best point that comes first, over a common divisor; and instances with other prices.
--   Foremostᴰ s E M      M / E is optimal, and no feasible point that is worth as much comes before it
--   NoBetter s D N E M   N / D is worth no more than M / E
--   priced_item, priced s p   s with the prices p
-- foremost-alike: instances with the same feasible points and values have the same.
-- total-cong, feasible-cong: sums and what is feasible do not look beyond the items.
-- into-priced: prices play no part in what is feasible.
use mathlib.Core.Path.{◌≡◌, sym, ap, subst, subst₂}
use Prim.Native.Nat.{ℕ, ◌≤◌}
use lib.IntN.{ℤ, pos, ◌*ℤ◌}
use lib.Signed.{◌≤ℤ◌}
use Rattle.arith.proofs.Sums.{sum-cong}
use Rattle.arith.specs.Sum.{sum}
use Rattle.knapsack.proofs.Common.{Keepsᴰ, valueᴰ, Feasibleᴰ, Optimalᴰ}
use Rattle.knapsack.specs.Meaning.{Instance, weights}
use Rattle.knapsack.specs.declared.Item.{Item}
use Rattle.foremost.proofs.Earlier.{NoLater, Agree}

-- N / D is worth no more than M / E
abbrev pub NoBetter : Instance → ℕ → (ℕ → ℤ) → ℕ → (ℕ → ℤ) → Type 0
NoBetter s D N E M = (valueᴰ s N *ℤ pos E) ≤ℤ (valueᴰ s M *ℤ pos D)

pub record Foremostᴰ (s : Instance) (E : ℕ) (M : ℕ → ℤ) : Type 0 where
  pub optimal : Optimalᴰ s E M
  pub first : (D : ℕ) (N : ℕ → ℤ) → 1 ≤ D → Feasibleᴰ s D N → NoBetter s E M D N → NoLater s.count E M D N

pub foremost-alike : (s t : Instance) → s.count ≡ t.count → ((D : ℕ) (N : ℕ → ℤ) → Feasibleᴰ s D N → Feasibleᴰ t D N)
    → ((D : ℕ) (N : ℕ → ℤ) → Feasibleᴰ t D N → Feasibleᴰ s D N) → ((N : ℕ → ℤ) → valueᴰ s N ≡ valueᴰ t N)
    → (E : ℕ) (M : ℕ → ℤ) → Foremostᴰ s E M → Foremostᴰ t E M
foremost-alike s t c to from v E M b = record {
  optimal = record {
    feasible = to E M b.optimal.feasible;
    highest = λ D N d p. subst₂ (λ x y. (x *ℤ pos E) ≤ℤ (y *ℤ pos D)) (v N) (v M) (b.optimal.highest D N d (from D N p));
  };
  first = λ D N d p l. subst (λ n. NoLater n E M D N) c (b.first D N d (from D N p) (subst₂ (λ x y. (x *ℤ pos D) ≤ℤ (y *ℤ pos E)) (sym (v M)) (sym (v N)) l));
}

-- ---- points that agree

pub total-cong : (n : ℕ) (a N M : ℕ → ℤ) → Agree n N M → sum n (λ k. a k *ℤ N k) ≡ sum n (λ k. a k *ℤ M k)
total-cong n a N M h = sum-cong n (λ k. a k *ℤ N k) (λ k. a k *ℤ M k) (λ k l. ap (λ z. a k *ℤ z) (h k l))

pub feasible-cong : (s : Instance) (D : ℕ) (N M : ℕ → ℤ) → Agree s.count N M → Feasibleᴰ s D N → Feasibleᴰ s D M
feasible-cong s D N M h p = record {
  keeps = λ k l. subst (λ z. Keepsᴰ D (s.item k) z) (h k l) (p.keeps k l);
  fits = subst (λ z. z ≤ℤ (s.capacity *ℤ pos D)) (total-cong s.count (weights s) N M h) p.fits;
}

-- ---- other prices

abbrev pub priced_item : Item → ℤ → Item
priced_item i p = record { mark = i.mark; weight = i.weight; price = p; lower = i.lower; upper = i.upper }

abbrev pub priced : Instance → (ℕ → ℤ) → Instance
priced s p = record { capacity = s.capacity; count = s.count; item = λ k. priced_item (s.item k) (p k) }

pub into-priced : (s : Instance) (p : ℕ → ℤ) (D : ℕ) (N : ℕ → ℤ) → Feasibleᴰ s D N → Feasibleᴰ (priced s p) D N
into-priced s p D N f = record {
  keeps = λ k l. record { marked = (f.keeps k l).marked; above = (f.keeps k l).above; below = (f.keeps k l).below };
  fits = f.fits;
}
