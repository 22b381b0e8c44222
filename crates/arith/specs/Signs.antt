-- A price per unit of weight without a signed divisor. Paper 01, "Relaxation": the signed c/a, compared by products of whole numbers.
--   times_sign a c   the price c times the sign of the weight a: the price per unit of weight is times_sign a c / |a|
use Rattle.std.specs.Prelude.{ℤ, pos, negsuc, neg_ℤ}

abbrev pub times_sign : ℤ → ℤ → ℤ
times_sign (pos n) c = c
times_sign (negsuc n) c = neg_ℤ c
