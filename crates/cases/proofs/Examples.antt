-- A sheet on which a need moves the answer: a guard that the theorems say something.
--   sheet       room 3, items (1, 1, 0 .. 3), (1, 1, 0 .. 3), (1, -5, 0 .. 1) as (weight, price, bounds); the second needs the third
-- answer-is-best (end theorem): the best point with the need is 3, 0, 0, in the case without the second item; the other is worth -3 at most. The plain
-- first best point 0, 3, 0 breaks the need.
use mathlib.Core.Path.{◌≡◌, refl, subst}
use mathlib.Core.List.{List, [], ◌∷◌}
use Prim.Native.Nat.{ℕ, zero, suc}
use native.Mathlib.Omega.{arith}
use native.Mathlib.Decide.{ℕ_discrete}
use lib.IntN.{ℤ, pos, negsuc, ◌*ℤ◌}
use lib.Signed.{◌≤ℤ◌, le_z_yes, lt_z_yes}
use Rattle.arith.proofs.Fractions.{over-int, over-≤, over-<, over-total, Common, common}
use Rattle.arith.proofs.Integers.{split, zed, minℤ, maxℤ}
use Rattle.arith.specs.Fractions.{int, frac, ◌≤ᶠ◌, ◌<ᶠ◌}
use Rattle.arith.specs.Sum.{Each}
use Rattle.knapsack.proofs.Branch.{AtMost, leaf}
use Rattle.knapsack.proofs.Bridge.{bridge-feasible, bridge-optimal}
use Rattle.knapsack.proofs.Common.{valueᴰ, Optimalᴰ}
use Rattle.knapsack.proofs.Dual.{score, certified}
use Rattle.knapsack.specs.Meaning.{Instance, Point, value, prices, Feasible}
use Rattle.std.specs.Prelude.{Some}
use Rattle.knapsack.specs.declared.Item.{Item}
use Rattle.knapsack.specs.declared.Mark.TheVariants.{Integer}
use Rattle.model.specs.declared.Need.{Need}
use Rattle.model.specs.Needs.{here, Every, KeepsNeeds, OptimalNeeds, Allowed, Inside}
use Rattle.cases.proofs.Needs.{every-none, every-also, KeepsNeedᴰ, KeepsNeedsᴰ}
use Rattle.cases.proofs.Splitting.{without, having}
use Rattle.cases.proofs.Undecided.{undecided}
use Rattle.cases.proofs.Points.{bridge-need, inside-allowed, fractions}
use Rattle.cases.proofs.Searched.{nothing, best}
use Rattle.cases.proofs.Searching.{WorthBy, SearchedNeeds, worth-order, optimal-is-top, top-is-optimal, needs-kept, needs-bounded, needs-split}
use Rattle.cases.proofs.Searching.{needs-best}

abbrev piece : ℤ → ℕ → Item
piece c u = record { mark = Integer; weight = pos 1; price = c; lower = Some (pos 0); upper = Some (pos u) }

abbrev pieces : ℕ → Item
pieces zero = piece (pos 1) 3
pieces (suc zero) = piece (pos 1) 3
pieces (suc (suc k)) = piece (negsuc 4) 1

abbrev sheet : Instance
sheet = record { capacity = pos 3; count = 3; item = pieces }

abbrev need : Need
need = record { item = 1; cover = 2 }

abbrev needs : List Need
needs = need ∷ []

abbrev amounts : ℤ → ℤ → ℤ → ℕ → ℤ
amounts x y z zero = x
amounts x y z (suc zero) = y
amounts x y z (suc (suc k)) = z

three : (P : ℕ → Type 0) → P 0 → P 1 → P 2 → Each 3 P
three P a b c zero l = a
three P a b c (suc zero) l = b
three P a b c (suc (suc zero)) l = c
three P a b c (suc (suc (suc k))) l = absurd (omega arith)

-- ---- the need

allowed : Every (Allowed sheet) needs
allowed = every-also (record {
  item = record { inside = omega arith; whole = refl; above = le_z_yes tt; below = tt };
  cover = record { inside = omega arith; whole = refl; above = le_z_yes tt; below = tt };
}) (every-none (Allowed sheet))

-- the plain first best point breaks it, this one does not
breaks : ¬ KeepsNeedᴰ 1 need (amounts (pos 0) (pos 3) (pos 0))
breaks h = absurd (h (lt_z_yes tt)).le

keeps : KeepsNeedsᴰ 1 needs (amounts (pos 3) (pos 0) (pos 0))
keeps = every-also (λ h. absurd h.lt) (every-none (λ n. KeepsNeedᴰ 1 n (amounts (pos 3) (pos 0) (pos 0))))

open-need : (undecided sheet needs ≡ 1) × (undecided (without sheet 1) needs ≡ 0) × (undecided (having sheet 2) needs ≡ 0)
unfolding ℕ_discrete minℤ maxℤ
open-need = (refl, refl, refl)

-- ---- the answer

best-without : Optimalᴰ (without sheet 1) 1 (amounts (pos 3) (pos 0) (pos 0))
unfolding score ℕ_discrete minℤ
best-without = record {
  feasible = record {
    keeps = three _ (record { marked = (pos 3, refl); above = le_z_yes tt; below = le_z_yes tt })
        (record { marked = (pos 0, refl); above = le_z_yes tt; below = le_z_yes tt })
        (record { marked = (pos 0, refl); above = le_z_yes tt; below = le_z_yes tt });
    fits = le_z_yes tt;
  };
  highest = certified (without sheet 1) 1 (amounts (pos 3) (pos 0) (pos 0)) (omega arith) (record {
    p = 1;
    q = 1;
    q≥1 = omega arith;
    ends = three _ (record { good = λ h. absurd h.lt; bad = λ h. absurd h.lt }) (record { good = λ h. absurd h.lt; bad = λ h. absurd h.lt })
        (record { good = λ h. absurd h.lt; bad = λ h. refl });
    tight = refl;
  });
}

most-having : AtMost (having sheet 2) (negsuc 2) 1
unfolding score ℕ_discrete maxℤ
most-having = leaf (having sheet 2) (negsuc 2) 1 1 (amounts (pos 2) (pos 0) (pos 1)) (omega arith) (record {
  p = 1;
  q = 1;
  q≥1 = omega arith;
  ends = three _ (record { good = λ h. absurd h.lt; bad = λ h. absurd h.lt }) (record { good = λ h. absurd h.lt; bad = λ h. absurd h.lt })
      (record { good = λ h. absurd h.lt; bad = λ h. refl });
  tight = refl;
}) (le_z_yes tt)

-- ---- as a solver by cases finds it

abbrev pub answer : Point
answer k = frac (amounts (pos 3) (pos 0) (pos 0) k) 1

inside : Every (Inside sheet) needs
inside = inside-allowed sheet needs allowed

kept : KeepsNeeds needs answer
kept n i = (bridge-need sheet 1 answer (amounts (pos 3) (pos 0) (pos 0)) (omega arith) (fractions sheet 1 (amounts (pos 3) (pos 0) (pos 0)) (omega arith)) n
    (inside n i)).1 (keeps n i)

found-without : SearchedNeeds WorthBy (without sheet 1) needs nothing (best answer)
found-without = needs-kept worth-order (without sheet 1) needs nothing answer
    (optimal-is-top (without sheet 1) answer (bridge-optimal (without sheet 1) 1 answer (amounts (pos 3) (pos 0) (pos 0)) (omega arith)
    (fractions (without sheet 1) 1 (amounts (pos 3) (pos 0) (pos 0)) (omega arith)) best-without)) kept tt

low-having : (y : Point) → Feasible (having sheet 2) y → value (having sheet 2) y ≤ᶠ int (negsuc 2)
low-having y p = go (common 3 y)
  where
    one : (x : ℤ) → x *ℤ pos 1 ≡ x
    one = split _ (λ a b. simp zed (omega arith))

    go : Common 3 y → value (having sheet 2) y ≤ᶠ int (negsuc 2)
    go c = (over-≤ c.D≥1 (over-total c.D 3 y c.N c.reads (prices (having sheet 2))) (over-int c.D (negsuc 2))).1
        (subst (λ z. z ≤ℤ (negsuc 2 *ℤ pos c.D)) (one (valueᴰ (having sheet 2) c.N))
        (most-having c.D c.N c.D≥1 ((bridge-feasible (having sheet 2) c.D y c.N c.D≥1 c.reads).0 p)))

worth-more : int (negsuc 2) <ᶠ value (having sheet 2) answer
worth-more = over-< {D = 1} (omega arith) (over-int 1 (negsuc 2))
    (over-total 1 3 answer (amounts (pos 3) (pos 0) (pos 0)) (fractions sheet 1 (amounts (pos 3) (pos 0) (pos 0)) (omega arith)) (prices sheet)) (lt_z_yes tt)

pub answer-is-best : OptimalNeeds sheet needs answer
answer-is-best = top-is-optimal sheet needs answer
    (needs-best worth-order sheet needs answer (needs-split worth-order sheet needs inside need here nothing (best answer) (best answer)
    found-without (needs-bounded worth-order (having sheet 2) needs answer (int (negsuc 2)) low-having worth-more)))
