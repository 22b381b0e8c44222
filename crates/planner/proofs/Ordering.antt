-- Which of two answers leads: the tests on what they show are the order of points.
-- less-yes, less-no: the test of fractions.  led-above, led-below, led-level: the ways out of the test of two answers.
-- leads-points: by exact values the answers are ordered as their points.
use mathlib.Core.Path.{◌≡◌, ap, subst₂}
use mathlib.Core.Bool.{true, false}
use Prim.Native.Nat.{ℕ, ◌≤◌, max}
use native.Mathlib.Omega.{arith}
use lib.IntN.{pos, ◌*ℤ◌}
use lib.Signed.{◌≤ℤ◌, ◌<ℤ◌}
use Rattle.arith.proofs.Fractions.{≤ᶠ-trans, <ᶠ-not-≤, ≈ᶠ-≤, ≈ᶠ-≥}
use Rattle.arith.proofs.Parts.{lt-le}
use Rattle.arith.proofs.Words.{yes_lt, no_lt}
use Rattle.arith.specs.Fractions.{frac, ◌≤ᶠ◌, ◌<ᶠ◌, ◌≈ᶠ◌}
use Rattle.arith.specs.declared.Fraction.{Fraction}
use Rattle.knapsack.specs.Demands.{shown_value}
use Rattle.knapsack.specs.Meaning.{Instance, value, point_of, Earlier}
use Rattle.knapsack.specs.declared.Answer.{Answer}
use Rattle.comparing.specs.Comparing.{less_fraction}
use Rattle.cases.proofs.Searching.{PointLeads}
use Rattle.planner.specs.Branching.{ShownLeads}

-- ---- fractions

cross : (a b : Fraction) → 1 ≤ b.q → a.p *ℤ pos b.q ≡ a.p *ℤ pos (max 1 b.q)
cross a b h = ap (λ (t : ℕ). a.p *ℤ pos t) (own b.q h)
  where
    own : (q : ℕ) → 1 ≤ q → q ≡ max 1 q
    own q h = omega arith

module _ (x y : Fraction) (xq : 1 ≤ x.q) (yq : 1 ≤ y.q) where
  pub less-yes : less_fraction x y ≡ true → frac x.p x.q <ᶠ frac y.p y.q
  unfolding ◌<ᶠ◌
  less-yes h = subst₂ ◌<ℤ◌ (cross x y yq) (cross y x xq) (yes_lt h)

  pub less-no : less_fraction x y ≡ false → frac y.p y.q ≤ᶠ frac x.p x.q
  unfolding ◌≤ᶠ◌
  less-no h = subst₂ ◌≤ℤ◌ (cross y x xq) (cross x y yq) (no_lt h)

-- ---- two answers

module _ (n : ℕ) (a c : Answer) where
  -- a is worth more
  pub led-above : shown_value c <ᶠ shown_value a → ShownLeads n a c
  unfolding ◌<ᶠ◌ ◌≤ᶠ◌
  led-above h = record { worth = lt-le h; sooner = λ k. absurd (<ᶠ-not-≤ (shown_value c) (shown_value a) h k) }

  -- it is worth no less, and c's point does not come before
  pub led-level : shown_value c ≤ᶠ shown_value a → ¬ Earlier n (point_of c) (point_of a) → ShownLeads n a c
  led-level h k = record { worth = h; sooner = λ l. k }

pub leads-points : (s : Instance) (a c : Answer) → shown_value a ≈ᶠ value s (point_of a) → shown_value c ≈ᶠ value s (point_of c) → ShownLeads s.count a c
    → PointLeads s (point_of a) (point_of c)
leads-points s a c e f h = record {
  worth = ≤ᶠ-trans (value s (point_of c)) (shown_value c) (value s (point_of a)) (≈ᶠ-≥ _ _ f)
      (≤ᶠ-trans (shown_value c) (shown_value a) (value s (point_of a)) h.worth (≈ᶠ-≤ _ _ e));
  sooner = λ w. h.sooner (≤ᶠ-trans (shown_value a) (value s (point_of a)) (shown_value c) (≈ᶠ-≤ _ _ e)
      (≤ᶠ-trans (value s (point_of a)) (value s (point_of c)) (shown_value c) w (≈ᶠ-≥ _ _ f)));
}
