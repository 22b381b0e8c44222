-- End theorem: the print that paper 01 works out, under "What `charge` prints": sheet A's answer, byte by byte.
use mathlib.Core.Path.{◌≡◌, refl}
use mathlib.Core.List.{List, [], ◌∷◌}
use Prim.Native.Nat.{ℕ}
use lib.IntN.{pos}
use lib.ListN.{replicate}
use Rattle.knapsack.specs.declared.Answer.{Answer}
use Rattle.knapsack.specs.declared.Kind.TheVariants.{Optimal}
use Rattle.text.specs.Decimal.{digits_in, digits, decimal}
use Rattle.listing.specs.Printing.{item_lines, printed}

abbrev pub answer : Answer
answer =
    record {
      kind = Optimal;
      point = record { p = pos 2; q = 1 } ∷ record { p = pos 2; q = 3 } ∷ replicate 14 (record { p = pos 0; q = 1 });
      steps = replicate 16 (pos 0);
      value = record { p = pos 82; q = 3 };
    }

-- best 82 3 / 1 2 1 / 2 2 3
abbrev pub text : List ℕ
text =
    98 ∷ 101 ∷ 115 ∷ 116 ∷ 32 ∷ 56 ∷ 50 ∷ 32 ∷ 51 ∷ 10
    ∷ 49 ∷ 32 ∷ 50 ∷ 32 ∷ 49 ∷ 10
    ∷ 50 ∷ 32 ∷ 50 ∷ 32 ∷ 51 ∷ 10 ∷ []

pub printed-worked : printed 2 answer ≡ text
unfolding printed item_lines decimal digits digits_in
printed-worked = refl
