-- Two points, each over a divisor of its own, compared: by what they are worth, and points worth as much by which comes first.
--   Leads v n E M D N   M / E is worth no less than N / D, v being the value of the amounts of n items, and does not come after it if it is worth as much
-- leads-refl, leads-trans, leads-total: any two points can be compared so.  leads-above: a point that is worth more leads.
-- leads-foremost, foremost-leads: the first best point is the feasible one that leads all.
use mathlib.Core.Path.{refl}
use mathlib.Core.Logic.{◌⊎◌, inl, inr}
use Prim.Native.Nat.{ℕ, ◌≤◌}
use lib.IntN.{ℤ, pos, ◌*ℤ◌}
use lib.Signed.{◌≤ℤ◌, ◌<ℤ◌, clash_ℤ}
use Rattle.arith.proofs.Integers.{≤ℤ-or-<, ≤ℤ-reflexive}
use Rattle.arith.proofs.Parts.{lt-le}
use Rattle.knapsack.proofs.Common.{valueᴰ, Feasibleᴰ}
use Rattle.knapsack.specs.Meaning.{Instance}
use Rattle.foremost.proofs.Earlier.{NoLater, not-after-total, cross-trans, no-later-trans}
use Rattle.foremost.proofs.Foremost.{Foremostᴰ}

pub record Leads (v : (ℕ → ℤ) → ℤ) (n E : ℕ) (M : ℕ → ℤ) (D : ℕ) (N : ℕ → ℤ) : Type 0 where
  pub worth : (v N *ℤ pos E) ≤ℤ (v M *ℤ pos D)
  pub sooner : (v M *ℤ pos D) ≤ℤ (v N *ℤ pos E) → NoLater n E M D N

module _ (v : (ℕ → ℤ) → ℤ) (n : ℕ) where
  pub leads-refl : (E : ℕ) (M : ℕ → ℤ) → Leads v n E M E M
  leads-refl E M = record { worth = ≤ℤ-reflexive refl; sooner = λ h. inl (λ k l. refl) }

  pub leads-trans : {D E F : ℕ} (M N Z : ℕ → ℤ) → 1 ≤ D → 1 ≤ E → 1 ≤ F → Leads v n F Z E M → Leads v n E M D N → Leads v n F Z D N
  leads-trans {D} {E} {F} M N Z d e f h k = record {
    worth = cross-trans (v N) (v M) (v Z) D E F e k.worth h.worth;
    sooner = λ m. no-later-trans n Z M N F E D f e d (h.sooner (cross-trans (v Z) (v N) (v M) F D E d m k.worth))
        (k.sooner (cross-trans (v M) (v Z) (v N) E F D f h.worth m));
  }

  pub leads-above : (E D : ℕ) (M N : ℕ → ℤ) → (v N *ℤ pos E) <ℤ (v M *ℤ pos D) → Leads v n E M D N
  leads-above E D M N h = record { worth = lt-le h; sooner = λ k. clash_ℤ h k }

  pub leads-total : (E D : ℕ) (M N : ℕ → ℤ) → Leads v n E M D N ⊎ Leads v n D N E M
  leads-total E D M N = go (≤ℤ-or-< (v N *ℤ pos E) (v M *ℤ pos D)) (≤ℤ-or-< (v M *ℤ pos D) (v N *ℤ pos E))
      (not-after-total n (λ k. M k *ℤ pos D) (λ k. N k *ℤ pos E))
    where
      go : ((v N *ℤ pos E) ≤ℤ (v M *ℤ pos D)) ⊎ ((v M *ℤ pos D) <ℤ (v N *ℤ pos E)) → ((v M *ℤ pos D) ≤ℤ (v N *ℤ pos E)) ⊎ ((v N *ℤ pos E) <ℤ (v M *ℤ pos D))
          → NoLater n E M D N ⊎ NoLater n D N E M → Leads v n E M D N ⊎ Leads v n D N E M
      go (inr h) k o = inr (leads-above D E N M h)
      go (inl h) (inr k) o = inl (leads-above E D M N k)
      go (inl h) (inl k) (inl o) = inl (record { worth = h; sooner = λ m. o })
      go (inl h) (inl k) (inr o) = inr (record { worth = k; sooner = λ m. o })

module _ (s : Instance) (E : ℕ) (M : ℕ → ℤ) where
  -- of all feasible points
  abbrev pub LeadsAll : Type 0
  LeadsAll = (D : ℕ) (N : ℕ → ℤ) → 1 ≤ D → Feasibleᴰ s D N → Leads (valueᴰ s) s.count E M D N

  pub leads-foremost : Feasibleᴰ s E M → LeadsAll → Foremostᴰ s E M
  leads-foremost p h = record { optimal = record { feasible = p; highest = λ D N d q. (h D N d q).worth }; first = λ D N d q. (h D N d q).sooner }

  pub foremost-leads : Foremostᴰ s E M → LeadsAll
  foremost-leads b D N d q = record { worth = b.optimal.highest D N d q; sooner = b.first D N d q }
