-- Paper 01, "Sheets and what they give": the starred rows as one statement over the meaning. proofs/Starred proves it.
--   item m a c l u    an item by mark, weight, price and bounds
--   sheet b items     an instance by capacity and items
--   at x y            the point with the amounts x and y (from the second item on)
--   by r t            steps on the first two items
--   W a c n, L a c n  an item from 0 to n with that mark
--   A, B, C, D, E, F, G, H, I, J, K, M   the sheets of the rows
--   Best s x v        x is optimal, and worth v
--   StarredTable      the starred rows
use Rattle.std.specs.Prelude.{List, [], ◌∷◌, ℕ, zero, suc, ℤ, pos, negsuc, length, get_or}
use Rattle.arith.specs.Fractions.{Frac, int, frac, ◌≈ᶠ◌}
use Rattle.std.specs.Prelude.{Option, None, Some}
use Rattle.knapsack.specs.declared.Mark.{Mark}
use Rattle.knapsack.specs.declared.Mark.TheVariants.{Integer, Continuous}
use Rattle.knapsack.specs.declared.Item.{Item}
use Rattle.knapsack.specs.Ranges.{blank}
use Rattle.knapsack.specs.Meaning.{Instance, Point, value, Optimal, Infeasible, Unbounded, relaxed, LeastPair, NoPair}

abbrev pub item : Mark → ℤ → ℤ → Option ℤ → Option ℤ → Item
item m a c l u = record { mark = m; weight = a; price = c; lower = l; upper = u }

abbrev pub sheet : ℤ → List Item → Instance
sheet b l = record { capacity = b; count = length l; item = λ k. get_or l k blank }

abbrev pub at : Frac → Frac → Point
at x y zero = x
at x y (suc k) = y

-- steps on the first two items
abbrev pub by : ℤ → ℤ → ℕ → ℤ
by r t zero = r
by r t (suc zero) = t
by r t (suc (suc k)) = pos 0

-- from 0 to n
abbrev pub W : ℤ → ℤ → ℕ → Item
W a c n = item Integer a c (Some (pos 0)) (Some (pos n))

abbrev pub L : ℤ → ℤ → ℕ → Item
L a c n = item Continuous a c (Some (pos 0)) (Some (pos n))

abbrev pub A : Instance
A = sheet (pos 20) (W (pos 9) (pos 13) 2 ∷ L (pos 3) (pos 2) 5 ∷ [])

abbrev pub B : Instance
B = sheet (pos 20) (W (pos 9) (pos 13) 2 ∷ L (pos 1) (pos 1) 5 ∷ [])

abbrev pub C : Instance
C = sheet (negsuc 19) (W (negsuc 8) (negsuc 12) 3 ∷ L (negsuc 0) (negsuc 1) 5 ∷ [])

abbrev pub D : Instance
D = sheet (negsuc 13) (W (negsuc 8) (negsuc 12) 1 ∷ L (negsuc 0) (negsuc 1) 5 ∷ [])

abbrev pub E : Instance
E = sheet (negsuc 14) (W (negsuc 8) (negsuc 12) 1 ∷ L (negsuc 0) (negsuc 1) 5 ∷ [])

abbrev pub F : Instance
F = sheet (pos 10) (W (pos 3) (pos 5) 10 ∷ W (pos 4) (pos 6) 10 ∷ [])

abbrev pub G : Instance
G = sheet (pos 0) (item Integer (pos 2) (pos 3) (Some (pos 0)) None ∷ item Integer (negsuc 2) (negsuc 3) (Some (pos 0)) None ∷ [])

abbrev pub H : Instance
H = sheet (pos 0) (item Integer (pos 2) (pos 3) (Some (pos 0)) None ∷ item Integer (negsuc 2) (negsuc 4) (Some (pos 0)) None ∷ [])

abbrev pub I : Instance
I = sheet (pos 0) (item Integer (pos 2) (pos 3) (Some (pos 0)) None ∷ item Integer (negsuc 1) (negsuc 2) (Some (pos 0)) None ∷ [])

abbrev pub J : Instance
J = sheet (negsuc 6) (item Integer (pos 3) (pos 1) None None ∷ [])

abbrev pub K : Instance
K = sheet (negsuc 6) (item Continuous (pos 3) (pos 1) None None ∷ [])

abbrev pub M : Instance
M = sheet (pos 10) (W (pos 3) (pos 5) 3 ∷ W (pos 4) (pos 6) 10 ∷ [])

-- x is optimal, and worth v
abbrev pub Best : Instance → Point → Frac → Type 0
Best s x v = Optimal s x × (value s x ≈ᶠ v)

pub record StarredTable : Type 0 where
  pub row-A : Best A (at (int (pos 2)) (frac (pos 2) 3)) (frac (pos 82) 3)
  pub row-B : Best B (at (int (pos 2)) (int (pos 2))) (int (pos 28))
  pub row-C : Best C (at (int (pos 2)) (int (pos 2))) (int (negsuc 29))
  pub row-D : Best D (at (int (pos 1)) (int (pos 5))) (int (negsuc 22))
  pub row-E : Infeasible E
  pub row-F : Best F (at (int (pos 2)) (int (pos 1))) (int (pos 16))
  pub row-F-relaxed : Best (relaxed F) (at (frac (pos 10) 3) (int (pos 0))) (frac (pos 50) 3)
  pub row-G : Unbounded G (at (int (pos 0)) (int (pos 0))) (by (pos 3) (pos 2))
  pub row-H : Best H (at (int (pos 0)) (int (pos 0))) (int (pos 0))
  pub row-I : Best I (at (int (pos 0)) (int (pos 0))) (int (pos 0))
  pub row-I-also : Best I (at (int (pos 1)) (int (pos 1))) (int (pos 0))
  pub row-J : Best J (at (int (negsuc 2)) (int (pos 0))) (int (negsuc 2))
  pub row-K : Best K (at (frac (negsuc 6) 3) (int (pos 0))) (frac (negsuc 6) 3)
  pub row-L : LeastPair (F.item 0) (F.item 1) (negsuc 3) (pos 3)
  pub row-M : NoPair (M.item 0) (M.item 1)
