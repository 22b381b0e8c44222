-- Which of two points is ahead: the one that is worth more, and of two worth as much the one that comes first.
--   sooner n k x y     the first of the n items from k on whose amounts differ has less in x
--   corner_sooner lo y n d  the lower corner lo of a box of n items comes before the point y over d
--   ahead_by c e f b    the filling f of the box e is ahead of the incumbent b
--   point_of c e f q    the amounts of a filling over q, by item, with zeros to 16
--   filled_by c e x     the incumbent that the filling of e is, at the place x
--   Comparable b       an incumbent's figures are in their ranges
use Rattle.std.specs.Prelude.{Bool, true, false, cond, List, ℕ, zero, suc, ◌+◌, ltb, ℤ, pos, ◌*ℤ◌}
use Rattle.std.specs.Int.Signed.{lt_z}
use Rattle.arith.specs.Mixed.{Proper, less_mixed}
use Rattle.arith.specs.Within.{Within}
use Rattle.foremost.proofs.Ties.{listed}
use Rattle.greedy.specs.declared.Columns.{Columns}
use Rattle.greedy.specs.declared.Ends.{Ends}
use Rattle.greedy.specs.declared.Fill.{Fill}
use Rattle.greedy.specs.Fill.{at, fill, bound, numerator, solution}
use Rattle.search.specs.declared.Incumbent.{Incumbent}

unfoldable pub sooner : ℕ → ℕ → (ℕ → ℤ) → (ℕ → ℤ) → Bool
sooner zero k x y = false
sooner (suc n) k x y = cond (lt_z (x k) (y k)) true (cond (lt_z (y k) (x k)) false (sooner n (k + 1) x y))

abbrev pub corner_sooner : List ℤ → List ℤ → ℕ → ℕ → Bool
corner_sooner lo y n d = sooner n 0 (λ k. at lo k *ℤ pos d) (at y)

-- both points are put over the product of their divisors
unfoldable pub ahead_by : Columns → Ends → Fill → Incumbent → Bool
ahead_by c e f b =
    cond (less_mixed b.value (bound c f)) true
    (cond (less_mixed (bound c f) b.value) false
    (sooner c.count 0 (λ k. solution c e f k *ℤ pos b.value.parts) (λ k. at b.point k *ℤ pos (bound c f).parts)))

unfoldable pub point_of : Columns → Ends → Fill → ℕ → List ℤ
point_of c e f q = listed (λ k. cond (ltb k c.count) (numerator c e f q k) (pos 0)) 16

abbrev pub filled_by : Columns → Ends → List ℤ → Incumbent
filled_by c e x = record { found = true; place = x; point = point_of c e (fill c e) (bound c (fill c e)).parts; value = bound c (fill c e) }

pub record Comparable (b : Incumbent) : Type 0 where
  pub proper : Proper b.value
  pub whole_in : Within 201000000000000000 b.value.whole
  pub amounts-in : (k : ℕ) → Within 20300000000000 (at b.point k)
