-- What a point that an answer shows is worth, as the code sums it up.
-- shown-sizeable: row 8 of the point check does not refuse what an answer shows.  worth-of-shown: so it is summed up exactly.
-- passes-by: the test of two sums is that of the values.
use mathlib.Core.Bool.{Bool}
use mathlib.Core.List.{List}
use mathlib.Core.Path.{◌≡◌, refl, sym, ap, subst, ◌∙◌}
use Prim.Native.Nat.{ℕ, ◌<◌}
use native.Mathlib.Omega.{arith}
use lib.ListN.{length}
use Rattle.arith.proofs.Fractions.{total-cong, ≤ᶠ-trans, <ᶠ-not-≤, ≈ᶠ-≤, ≈ᶠ-≥}
use Rattle.arith.specs.Fractions.{Frac, frac, ◌·ᶠ◌, ◌≈ᶠ◌}
use Rattle.arith.specs.declared.Fraction.{Fraction}
use Rattle.knapsack.specs.Meaning.{Instance, instance_of, prices, value, WholeAmount, Shown, nought}
use Rattle.knapsack.specs.declared.Problem.{Problem}
use Rattle.model.proofs.Showing.{default}
use Rattle.model.specs.Records.{FiguresInRange}
use Rattle.comparing.specs.Comparing.{less_fraction, amount_in, point_in}
use Rattle.feasibility.specs.Amounts.{proposed_at}
use Rattle.feasibility.specs.Check.{proposed_point, Sizeable, Worth}
use Rattle.feasibility.specs.declared.Candidate.{Candidate}
use Rattle.planner.proofs.Ordering.{less-yes, less-no}
use Rattle.ranging.specs.Searching.{WorthOf, Passes}

module _ (p : Problem) (x : List Fraction) (size : length x ≡ 16) (figures : FiguresInRange p) (shown : Shown (instance_of p) (amount_in x)) where
  abbrev proposed : Candidate
  proposed = record { amounts = x; count = p.count }

  same : (k : ℕ) → k < p.count → amount_in x k ≡ proposed_at proposed k
  same k l = default x k nought _ (omega (arith, figures.few-items))

  pub shown-sizeable : Sizeable p proposed
  shown-sizeable = record {
    problem = figures;
    counted = refl;
    amounts = record {
      good = λ k l. rw (← same k l) (record { own = shown.divisor k l; near = shown.small k l });
      single = λ j k l n g h. shown.single j k l n (λ w. g (subst WholeAmount (same j l) w)) (λ w. h (subst WholeAmount (same k n) w));
    };
  }

  agree : value (instance_of p) (proposed_point proposed) ≡ value (instance_of p) (point_in x)
  agree = total-cong p.count (λ k. prices (instance_of p) k ·ᶠ proposed_point proposed k) (λ k. prices (instance_of p) k ·ᶠ point_in x k)
      (λ k l. ap (λ (z : Fraction). prices (instance_of p) k ·ᶠ frac z.p z.q) (sym (same k l)))

  pub worth-of-shown : (r : Fraction) → Worth p proposed r → WorthOf p x r
  worth-of-shown r h = record { divisor = h.divisor; exact = subst (λ z. frac r.p r.q ≈ᶠ z) agree h.exact }

pub passes-by : (p : Problem) (a b : List Fraction) (v w : Fraction) → WorthOf p a v → WorthOf p b w → (r : Bool) → r ≡ less_fraction v w
    → Passes (instance_of p) (point_in a) (point_in b) r
passes-by p a b v w g h r e = record {
  ahead = λ t l. <ᶠ-not-≤ x y (less-yes v w g.divisor h.divisor (sym e ∙ t))
      (≤ᶠ-trans y (value s (point_in b)) x (≈ᶠ-≤ y (value s (point_in b)) h.exact)
      (≤ᶠ-trans (value s (point_in b)) (value s (point_in a)) x l (≈ᶠ-≥ x (value s (point_in a)) g.exact)));
  behind = λ t. ≤ᶠ-trans (value s (point_in b)) y (value s (point_in a)) (≈ᶠ-≥ y (value s (point_in b)) h.exact)
      (≤ᶠ-trans y x (value s (point_in a)) (less-no v w g.divisor h.divisor (sym e ∙ t)) (≈ᶠ-≤ x (value s (point_in a)) g.exact));
}
  where
    s : Instance
    s = instance_of p

    x : Frac
    x = frac v.p v.q

    y : Frac
    y = frac w.p w.q
