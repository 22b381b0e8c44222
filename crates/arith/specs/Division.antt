-- Division of signed numbers, rounded down or up. Paper 01, "Dividing": an amount that just fits is rounded down for a limit from
-- above and up for one from below, for either sign of both numbers.
--   floor_by n d     n / d rounded down, for a divisor above 0
--   floor_div n d    n / d rounded down
--   ceil_div n d     n / d rounded up
use Rattle.std.specs.Prelude.{ℕ, suc, ◌/◌, ℤ, pos, negsuc, neg_ℤ}

-- by a divisor above 0: -1 and below lie in quotients below 0
unfoldable pub floor_by : ℤ → ℕ → ℤ
floor_by (pos n) d = pos (n / d)
floor_by (negsuc n) d = negsuc (n / d)

unfoldable pub floor_div : ℤ → ℤ → ℤ
floor_div n (pos d) = floor_by n d
floor_div n (negsuc d) = floor_by (neg_ℤ n) (suc d)

unfoldable pub ceil_div : ℤ → ℤ → ℤ
ceil_div n d = neg_ℤ (floor_div (neg_ℤ n) d)
